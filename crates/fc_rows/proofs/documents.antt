pub mod Blocks
pub mod ByteOrder
pub mod Integers
pub mod Schemas
pub mod Totals
