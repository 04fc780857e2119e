pub mod Answers
pub mod IsText
pub mod TextBytes
pub mod ValidSchema
pub mod View
pub mod StatisticView
pub mod ValOrder
