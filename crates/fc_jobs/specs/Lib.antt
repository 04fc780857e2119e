pub mod Pieces
pub mod BasesKept
pub mod FacetFits
pub mod FilterLists
pub mod Gathered
pub mod Scopes
pub mod Walked
