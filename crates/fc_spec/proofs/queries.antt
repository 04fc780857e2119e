pub mod ReadIsSpelled
pub mod SpelledIsRead
pub mod TreesOfTokens
pub mod TextReadings
pub mod ValidTrees
pub mod ValidTexts
