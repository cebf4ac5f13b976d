use Rattle.std.proofs.Common.{◌≡◌, ◌++◌}
use Rattle.asgi_request.specs.Upgrade as spec
use Rattle.asgi_request.proofs.subprotocols.subprotocols_of.Given as goal

abbrev pub invariant-loop-name : goal.invariant-loop-name
invariant-loop-name l = spec.subprotocols_of l.headers ≡ l.names ++ spec.subprotocols_of l.name-iterator
