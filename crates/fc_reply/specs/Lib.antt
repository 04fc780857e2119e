pub mod ReplyView
pub mod Slots
pub mod Tokens
