pub mod Counting
pub mod Answers
pub mod Turns
pub mod Writing
