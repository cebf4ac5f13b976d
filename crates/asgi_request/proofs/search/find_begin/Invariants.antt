use Rattle.asgi_request.specs.Fronts.{head_len}
use Rattle.asgi_request.specs.private.Searches.{GoesFrom}
use Rattle.asgi_request.proofs.search.find_begin.Given as goal

abbrev pub invariant-loop-i : goal.invariant-loop-i
invariant-loop-i l = GoesFrom head_len head_len l.from l.i l.bytes
