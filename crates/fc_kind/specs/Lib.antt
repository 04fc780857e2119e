pub mod Names
pub mod Columns
pub mod Collecting
pub mod Tallies
pub mod PlaceAt
