pub mod Living
pub mod Together
