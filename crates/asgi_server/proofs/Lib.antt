pub mod AcceptLemmas
pub mod StationLemmas
