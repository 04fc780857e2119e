pub mod Asked
pub mod Built
pub mod Stepping
pub mod Going
pub mod LeastLists
pub mod Leasts
