pub mod FaultView
pub mod LineView
pub mod AskedLines
pub mod ValidLines
pub mod LinesLeft
pub mod AddedTokens
