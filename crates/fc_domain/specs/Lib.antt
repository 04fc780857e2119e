pub mod FieldsFit
pub mod Within
pub mod Grouping
