use Rattle.std.proofs.Common.{◌∙◌}
use Rattle.asgi_server.proofs.AcceptLemmas.{one_passed}
use Rattle.asgi_server.proofs.accepting.accept_until.Goals as goal

pub loop-tries-preserved : goal.loop-tries-preserved
loop-tries-preserved g c = record {
  passed =
      one_passed _ _ _ c.in-Err.e c.loop-tries._tries c.loop-tries.invariant.passed c.in-Err.ensures.accepted
      (c.goes_on.ensures c.if-not-goes_on.false);
  others = (c.accept.ensures.others.0 ∙ c.loop-tries.invariant.others.0, c.accept.ensures.others.1 ∙ c.loop-tries.invariant.others.1);
}
