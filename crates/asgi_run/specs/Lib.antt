pub mod Lines
pub mod AnyHalf
pub mod Limits
pub mod Running
pub mod Jobs
