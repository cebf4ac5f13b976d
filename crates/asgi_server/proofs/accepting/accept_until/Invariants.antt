use Rattle.asgi_server.proofs.AcceptLemmas.{HasPassed}
use Rattle.std.proofs.Common.{◌≡◌}
use Rattle.asgi_server.proofs.accepting.accept_until.Given as goal

abbrev pub invariant-loop-tries : goal.invariant-loop-tries
invariant-loop-tries g l = record {
  passed : HasPassed l.fn.calls.accepted.items l.calls.accepted.items l._tries;
  others : (l.calls.bound ≡ l.fn.calls.bound) × (l.calls.named ≡ l.fn.calls.named);
}
