pub mod Moves
pub mod Seats
pub mod Serving
pub mod Standing
pub mod Turns
