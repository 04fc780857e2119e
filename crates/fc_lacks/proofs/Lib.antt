pub mod KeyedBuckets
pub mod LackedValues
pub mod Untold
pub mod NoneAsks
pub mod WalkedNodes
