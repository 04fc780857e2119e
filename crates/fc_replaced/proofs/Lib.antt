pub mod Steps
pub mod ExactKinds
pub mod NodesOver
pub mod OnlyExact
pub mod ReplacedNodes
pub mod Facets
pub mod Rows
pub mod RestoredNodes
