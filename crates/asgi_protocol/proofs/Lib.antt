pub mod CountLemmas
pub mod JudgeLemmas
pub mod LawLemmas
pub mod OfferLemmas
pub mod PassLemmas
pub mod PassingLemmas
pub mod RowLemmas
pub mod WordLemmas
