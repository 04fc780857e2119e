pub mod Asking
pub mod Inside
pub mod Keys
pub mod LackView
pub mod Lacking
