pub mod Spots
pub mod TreeReading
pub mod State
pub mod Keeps
pub mod View
pub mod CoordView
pub mod Countable
pub mod Wants
