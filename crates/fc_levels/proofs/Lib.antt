pub mod CountedJobs
pub mod FacetLists
pub mod Putting
pub mod Stacked
pub mod EndedFronts
pub mod Resuming
pub mod Closing
pub mod Endings
