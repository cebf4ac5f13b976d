pub mod WaitingLemmas
pub mod LineLemmas
