pub mod Calendar
pub mod DateTexts
pub mod GapTexts
pub mod Adding
