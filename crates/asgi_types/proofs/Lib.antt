pub mod FieldLemmas
pub mod LengthLemmas
pub mod SpanLemmas
pub mod ReasonLemmas
pub mod StateLemmas
