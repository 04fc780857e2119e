pub mod ReadShards
pub mod ShardParts
pub mod ShardWorlds
