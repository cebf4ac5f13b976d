pub mod Hands
pub mod private
pub mod Seat
pub mod Told
