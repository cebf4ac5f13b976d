pub mod AppStates
pub mod Closings
