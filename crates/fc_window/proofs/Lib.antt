mod Parts
pub mod Windows
