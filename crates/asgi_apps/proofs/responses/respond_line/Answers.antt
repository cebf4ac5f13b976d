use Rattle.asgi_apps.proofs.AnswerLemmas.{text_is_lawful}
use Rattle.asgi_apps.proofs.SayLemmas.{granted_gives}
use Rattle.asgi_apps.proofs.responses.respond_line.Goals as goal

pub returns-clause-gives : goal.returns-clause-gives
returns-clause-gives c = granted_gives c.line_response.result c.granted.result _ _ c.granted.ensures.ok c.line_response.ensures (text_is_lawful _)
