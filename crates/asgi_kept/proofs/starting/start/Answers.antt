use Rattle.std.proofs.Common.{Some, ap, ◌∙◌}
use Rattle.asgi_pipes.specs.RingPairs.{ring_of}
use Rattle.asgi_kept.proofs.ListLemmas.{same_ring}
use Rattle.asgi_kept.proofs.starting.start.Goals as goal

pub spawn-child-requires-after_bounds : goal.spawn-child-requires-after_bounds
spawn-child-requires-after_bounds g c κs within = (
  ring_of c.in-Ok.jobs.end,
  c.name-token.ensures.taker,
  c.name-jobs.ensures.sender ∙ ap (λ t. Some (ring_of t.jobs.end)) c.name-token.ensures.same,
)

pub invariant_of-thread-clause-goes : goal.invariant_of-thread-clause-goes
invariant_of-thread-clause-goes g c = c.name-token.ensures.sender ∙ ap Some (same_ring c.in-Ok.giver.end c.in-Ok.jobs.end c.in-Ok.ensures.pair)

pub invariant_of-thread-clause-comes : goal.invariant_of-thread-clause-comes
invariant_of-thread-clause-comes g c =
    c.name-jobs.ensures.taker ∙ (ap (λ t. Some (ring_of t.jobs.end)) c.name-token.ensures.same
    ∙ ap Some (same_ring c.in-Ok.giver.end c.in-Ok.jobs.end c.in-Ok.ensures.pair))
