pub mod State
pub mod Hearing
pub mod Rounds
pub mod ToldFacets
pub mod View
pub mod ToldView
pub mod CoreView
