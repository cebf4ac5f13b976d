use Rattle.asgi_server.proofs.AcceptLemmas.{HasPassed}
use Rattle.std.proofs.Common.{◌≡◌}
use Rattle.asgi_server.proofs.accepting.accept_in_time.Given as goal

abbrev pub invariant-loop-short : goal.invariant-loop-short
invariant-loop-short g l = record {
  passed : HasPassed l.fn.calls.accepted.items l.calls.accepted.items l._short;
  others : (l.calls.bound ≡ l.fn.calls.bound) × (l.calls.named ≡ l.fn.calls.named);
}
