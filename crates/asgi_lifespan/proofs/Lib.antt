pub mod HostLemmas
pub mod WordLemmas
pub mod StartLemmas
pub mod StopLemmas
pub mod TurnLemmas
