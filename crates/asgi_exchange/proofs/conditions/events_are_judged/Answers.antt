use Rattle.asgi_exchange.proofs.conditions.events_are_judged.Goals as goal
use Rattle.asgi_exchange.proofs.LeftOutLemmas.{two_heard}

pub returns-clause-none_after_a_heard_disconnect : goal.returns-clause-none_after_a_heard_disconnect
returns-clause-none_after_a_heard_disconnect c x = let h = x.heard in two_heard h.events h.times h.disconnect h.in_order h.due
