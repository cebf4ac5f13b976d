use Rattle.std.proofs.Common.{rules}
use Rattle.asgi_reactor.proofs.DrainLemmas.{dropped_more}
use Rattle.asgi_reactor.proofs.draining.drain.Goals as goal

pub loop-count-preserved : goal.loop-count-preserved
loop-count-preserved g c = record {
  dropped =
      let (read, first, long) = c.loop-count.invariant.dropped in
      dropped_more _ _ _ read _ _ _ first long c.in-Ok.ensures.bytes.0 c.in-Ok.ensures.bound.0;
  few = search rules;
}

pub returns-clause-few : goal.returns-clause-few
returns-clause-few g c not-more = absurd (not-more c.with-2.ensures.1)
