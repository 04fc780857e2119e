pub mod DateView
pub mod MomentView
pub mod GapView
