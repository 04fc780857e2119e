pub mod Digits
pub mod DateBounds
pub mod DateOrder
pub mod ReadDates
pub mod LaterDates
