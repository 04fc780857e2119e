pub mod Puts
pub mod Spelled
pub mod FirstQuestion
pub mod Told
pub mod Heard
pub mod ResponsesHeard
pub mod Asked
pub mod Ended
