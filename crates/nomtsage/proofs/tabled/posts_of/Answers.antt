use Rattle.std.proofs.Common.{ap, refl, ◌+◌, ◌∙◌}
use Rattle.nomtsage.proofs.tabled.posts_of.Goals as goal

pub loop-other-preserved : goal.loop-other-preserved
loop-other-preserved g c = record {
  many = ap (λ n. n + 1) (c.in_ok-put.ensures.many refl ∙ c.loop-other.invariant.many);
  fresh = c.in_ok-put.ensures.fresh refl;
  kept = c.in_ok-put.ensures.kept refl;
  first = c.loop-other.invariant.first;
  quota = c.loop-other.invariant.quota;
  set = refl;
}
