pub mod EndpointLemmas
pub mod PathLemmas
pub mod PatternLemmas
pub mod ReadLemmas
pub mod TextLemmas
