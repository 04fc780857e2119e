pub mod Distinct
pub mod Parts
pub mod Terms
pub mod Tree
