pub mod Asked
pub mod Hearing
pub mod FindingLaws
