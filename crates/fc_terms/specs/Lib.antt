pub mod Values
pub mod Selected
pub mod AddingUp
pub mod Spans
pub mod TermSpan
pub mod LongSpan
pub mod Gathered
