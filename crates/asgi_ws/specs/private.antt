pub mod Sending
pub mod Taps
