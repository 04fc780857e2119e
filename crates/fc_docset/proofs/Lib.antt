pub mod WordPositions
pub mod WordNeighbours
pub mod BitsInBoth
pub mod ChangedBits
pub mod FrontWords
