pub mod RangeGaps
