pub mod NamedSorts
pub mod NestedDecide
pub mod NodeAnswers
pub mod NodeStatistics
pub mod NodeWalk
pub mod RequestParts
pub mod Nodes
pub mod SameNodes
