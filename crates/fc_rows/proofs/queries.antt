pub mod QueryWords
pub mod QueryTokens
pub mod QueryTrees
pub mod Filters
pub mod Matches
pub mod QueryForms
pub mod QueryTexts
pub mod ValidQueries
