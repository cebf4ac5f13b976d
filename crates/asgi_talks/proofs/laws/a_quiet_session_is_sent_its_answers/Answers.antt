use Rattle.asgi_talks.proofs.QuietLemmas.{quiet_is_answered}
use Rattle.asgi_talks.proofs.laws.a_quiet_session_is_sent_its_answers.Goals as goal

pub returns : goal.returns
returns g c = quiet_is_answered g.S.Talk.answers
