pub mod LineLemmas
pub mod LeadsLemmas
pub mod InlineLemmas
pub mod FinishLemmas
pub mod ApartLemmas
