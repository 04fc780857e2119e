pub mod Asked
pub mod Sizes
pub mod Rows
pub mod Unasked
