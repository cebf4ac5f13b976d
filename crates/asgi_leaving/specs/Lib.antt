pub mod Leaving
pub mod Notices
