pub mod Appending
pub mod Bodies
pub mod ErrorJson
pub mod PutMembers
pub mod ReplyTokens
pub mod ReplyViews
pub mod SlotMembers
