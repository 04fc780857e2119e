pub mod Jobs
pub mod Facets
pub mod Levels
pub mod Steps
