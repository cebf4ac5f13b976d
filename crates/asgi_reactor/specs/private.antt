pub mod Queueing
pub mod Reaching
pub mod Steps
