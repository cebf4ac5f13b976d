pub mod HandshakeLemmas
pub mod ListLemmas
pub mod PieceLemmas
pub mod TapLemmas
pub mod TextLemmas
