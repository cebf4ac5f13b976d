pub mod Buffers
pub mod Reasons
pub mod StateEntries
