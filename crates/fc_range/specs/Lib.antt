pub mod EndsView
pub mod HeldEnds
pub mod Reached
pub mod GapKeys
