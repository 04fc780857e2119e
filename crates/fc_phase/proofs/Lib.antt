pub mod Underway
pub mod Turns
pub mod Sharing
pub mod CountedTops
pub mod LeastShown
pub mod LeastTurns
