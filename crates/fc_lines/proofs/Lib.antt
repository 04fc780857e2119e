pub mod FirstByte
pub mod CutLines
pub mod SoleMembers
pub mod AddingLines
