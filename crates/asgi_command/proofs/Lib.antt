pub mod WordLemmas
pub mod ServingLemmas
pub mod TellingLemmas
pub mod PutLemmas
pub mod EndedLemmas
