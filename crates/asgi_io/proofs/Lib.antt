pub mod BytesLemmas
pub mod CountLemmas
pub mod TurnLemmas
pub mod WriteLemmas
