pub mod Positions
pub mod Stored
pub mod Left
pub mod Neighbours
