pub mod Dating
pub mod Handling
pub mod Limiting
pub mod Locations
pub mod Making
pub mod Params
pub mod Replies
pub mod private
