pub mod HearingLemmas
pub mod ParamLemmas
pub mod SendingLemmas
pub mod TaskLemmas
pub mod LocationLemmas
pub mod MakingLemmas
