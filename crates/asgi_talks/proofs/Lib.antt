pub mod BothLemmas
pub mod HearingLemmas
pub mod ListLemmas
pub mod OriginLemmas
pub mod QuietLemmas
pub mod SayingLemmas
pub mod StepLemmas
pub mod TaskLemmas
