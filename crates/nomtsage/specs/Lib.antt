pub mod private
pub mod Promises
pub mod Serving
pub mod Tables
pub mod Running
pub mod Seats
