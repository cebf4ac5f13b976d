use Rattle.asgi_server.proofs.AcceptLemmas.{HasPassed}
use Rattle.std.proofs.Common.{◌≡◌}
use Rattle.asgi_server.proofs.accepting.accept_on.Given as goal

abbrev pub invariant-loop-lost : goal.invariant-loop-lost
invariant-loop-lost g l = record {
  passed : HasPassed l.fn.calls.accepted.items l.calls.accepted.items l._lost;
  others : (l.calls.bound ≡ l.fn.calls.bound) × (l.calls.named ≡ l.fn.calls.named);
}
