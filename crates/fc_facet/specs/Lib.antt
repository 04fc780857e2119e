pub mod Asked
pub mod FaultView
pub mod KindView
pub mod RangeGaps
