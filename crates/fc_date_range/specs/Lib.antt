pub mod HeldDates
pub mod Spans
pub mod GapSpans
pub mod GapKeys
pub mod Reached
pub mod GapDates
