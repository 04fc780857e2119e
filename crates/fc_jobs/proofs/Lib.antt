mod BasesFound
pub mod CountedTallies
pub mod EmptySets
pub mod FilledEntries
pub mod GatheredPlaces
pub mod KeptBuckets
pub mod KeptLengths
pub mod ListedKeys
pub mod ListedRanges
pub mod NodesThere
pub mod RebuiltScopes
pub mod SegmentLimits
pub mod SteppedWays
pub mod TopBuckets
pub mod ValidFacets
pub mod WalkedSets
