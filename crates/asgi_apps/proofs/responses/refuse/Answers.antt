use Rattle.asgi_apps.proofs.AnswerLemmas.{close_is_lawful}
use Rattle.asgi_apps.proofs.SayLemmas.{granted_gives}
use Rattle.asgi_apps.proofs.responses.refuse.Goals as goal

pub returns-clause-gives : goal.returns-clause-gives
returns-clause-gives c = granted_gives c.refusal.result c.granted.result _ _ c.granted.ensures.ok c.refusal.ensures (close_is_lawful)
