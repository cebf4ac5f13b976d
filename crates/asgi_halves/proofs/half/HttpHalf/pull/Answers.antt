use Rattle.asgi_halves.proofs.half.HttpHalf.pull.Goals as goal

pub returns-then-not-is_waiting-clause-gives : goal.returns-then-not-is_waiting-clause-gives
returns-then-not-is_waiting-clause-gives c = rw c.is_waiting.ensures.same at c.pull_result.ensures.gives
