pub mod Accepting
pub mod Arrivals
pub mod Connections
