pub mod View
pub mod Takes
pub mod TreeView
pub mod QueryView
pub mod FilterView
