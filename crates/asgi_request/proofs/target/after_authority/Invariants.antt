use Rattle.std.proofs.Common.{◌≡◌, drop}
use Rattle.asgi_request.specs.Target as spec
use Rattle.asgi_request.proofs.target.after_authority.Given as goal

abbrev pub invariant-loop-i : goal.invariant-loop-i
invariant-loop-i l = spec.after_authority (drop l.from l.target) ≡ spec.after_authority (drop l.i l.target)
