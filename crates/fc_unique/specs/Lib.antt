pub mod Asking
pub mod Folding
pub mod Sizes
