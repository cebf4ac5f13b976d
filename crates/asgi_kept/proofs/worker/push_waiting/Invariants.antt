use Rattle.std.proofs.Common.{◌≡◌}
use Rattle.rtrb.specs.Ring.{sent}
use Rattle.asgi_kept.proofs.worker.push_waiting.Given as goal

abbrev pub invariant-loop : goal.invariant-loop
invariant-loop g l = (sent l.producer ≡ sent l.fn.producer) × (l.item ≡ l.fn.item)
