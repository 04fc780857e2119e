pub mod Faults
pub mod Fitting
pub mod Reading
pub mod FieldReading
