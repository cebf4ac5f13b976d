pub mod ServingLemmas
pub mod LivesLemmas
pub mod RunLemmas
pub mod SeatsLemmas
pub mod TablesLemmas
pub mod TicketsLemmas
pub mod OneThread
