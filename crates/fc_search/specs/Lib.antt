pub mod Asked
pub mod Hearing
pub mod Schemas
pub mod SearchLaws
