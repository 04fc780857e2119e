pub mod Known
pub mod Supply
