use Rattle.asgi_request.proofs.upgrade.has_key.Goals as goal

pub returns-then-count_named-eq1-clause-only : goal.returns-then-count_named-eq1-clause-only
returns-then-count_named-eq1-clause-only c = rw (← c.value_named.ensures, ← c.count_named.ensures, c.if-count_named-eq1.true) c.is_key.ensures.decides
