pub mod Picks
pub mod ProbeTable
pub mod SentLists
