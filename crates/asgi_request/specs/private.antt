pub mod Steps
pub mod Searches
