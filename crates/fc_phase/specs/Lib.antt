pub mod FirstJobs
pub mod Phases
pub mod Inside
pub mod LeastInside
pub mod Courses
pub mod Futures
