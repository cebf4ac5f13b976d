use Rattle.asgi_kept.proofs.caller.Working.wait_back.Goals as goal

pub returns-in-Some-try_back-clause-answered : goal.returns-in-Some-try_back-clause-answered
returns-in-Some-try_back-clause-answered g c job last = c.in-Some-try_back.ensures.answered job (rw c.loop.invariant last)
