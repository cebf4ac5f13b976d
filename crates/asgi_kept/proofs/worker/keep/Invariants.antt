use Rattle.std.proofs.Common.{◌≡◌, Some}
use Rattle.rtrb.specs.Ring.{received, sent}
use Rattle.asgi_pipes.specs.RingPairs.{Ring, ring_of}
use Rattle.asgi_kept.specs.Answers.{home_of}
use Rattle.asgi_kept.proofs.worker.keep.Given as goal

abbrev pub invariant-loop : goal.invariant-loop
invariant-loop g l =
    (ring : Ring) × (home_of (λ t. ring_of t.jobs.end) (received l.going) ≡ Some ring) × (home_of (λ t. ring_of t.jobs.end) (sent l.backs) ≡ Some ring)
