pub mod Flat
pub mod Given
pub mod Moves
pub mod Seen
pub mod Turns
