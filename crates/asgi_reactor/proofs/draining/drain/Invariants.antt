use Rattle.std.proofs.Common.{◌-◌, ◌≡◌, ◌≤◌, ℕ, List, length}
use Rattle.std.specs.Io.KnownBytes.{Consumes}
use Rattle.asgi_reactor.proofs.draining.drain.Given as goal

abbrev pub invariant-loop-count : goal.invariant-loop-count
invariant-loop-count g l = record {
  dropped : (read : List ℕ) × Consumes (g.R.Read.remaining l.fn.stream) (g.R.Read.remaining l.stream) read × (length read ≡ l.count);
  few : l.count ≤ 69631;
}

abbrev pub decreases-loop-count : goal.decreases-loop-count
decreases-loop-count g l = 65536 - l.count
