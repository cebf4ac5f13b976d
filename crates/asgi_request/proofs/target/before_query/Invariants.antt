use Rattle.std.proofs.Common.{◌≡◌, take, drop, ◌++◌}
use Rattle.asgi_request.specs.Target as spec
use Rattle.asgi_request.proofs.target.before_query.Given as goal

abbrev pub invariant-loop-i : goal.invariant-loop-i
invariant-loop-i l = spec.before_query l.bytes ≡ take l.i l.bytes ++ spec.before_query (drop l.i l.bytes)
