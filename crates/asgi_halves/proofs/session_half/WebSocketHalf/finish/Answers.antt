use Rattle.asgi_halves.proofs.{SessionEndLemmas.ends_closed, SessionEndLemmas.ends_refused, SessionWords.sym, SessionWords.◌∙◌}
use Rattle.asgi_halves.proofs.session_half.WebSocketHalf.finish.Goals as goal

pub returns-in-Refused : goal.returns-in-Refused
returns-in-Refused g c = record { leads = λ scene read view x. ends_refused x c.args.code c.requires.ending (sym c.answered.ensures ∙ c.in-Refused.is) }

pub returns-in-Closed : goal.returns-in-Closed
returns-in-Closed g c = record { leads = λ scene read view x. ends_closed x c.args.code c.requires.ending (sym c.answered.ensures ∙ c.in-Closed.is) }
