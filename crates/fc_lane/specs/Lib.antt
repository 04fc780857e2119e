pub mod Between
pub mod Joined
pub mod Masked
