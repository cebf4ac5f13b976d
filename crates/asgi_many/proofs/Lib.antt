pub mod EndLemmas
pub mod ListLemmas
pub mod MoveLemmas
pub mod SeatLemmas
pub mod ServingLemmas
pub mod StandingLemmas
pub mod StepLemmas
pub mod TableLemmas
