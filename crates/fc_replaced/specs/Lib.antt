pub mod TopsView
pub mod ExactParts
pub mod Fronts
