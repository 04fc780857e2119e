pub mod ShardsBehind
pub mod GatheredParts
pub mod CutBatches
pub mod ValidBatches
