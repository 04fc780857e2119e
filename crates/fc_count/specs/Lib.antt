pub mod Counted
pub mod Added
pub mod Counting
pub mod Countings
pub mod Rows
pub mod Runs
pub mod Held
