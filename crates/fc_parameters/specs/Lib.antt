pub mod DateEdges
pub mod RangeParts
pub mod RefiningView
