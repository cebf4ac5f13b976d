pub mod private
pub mod Ran
pub mod Shared
