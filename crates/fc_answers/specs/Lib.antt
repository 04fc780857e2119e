pub mod SetAnswer
pub mod LiveSets
pub mod Listed
pub mod LeastSets
pub mod LeastListed
