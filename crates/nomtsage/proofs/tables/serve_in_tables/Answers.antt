use Rattle.std.proofs.Common.{inl, inr, refl}
use Rattle.nomtsage.proofs.LivesLemmas.{lives_not, lives_on}
use Rattle.nomtsage.proofs.tables.serve_in_tables.Goals as goal

pub returns-in-Lives-clause-serves : goal.returns-in-Lives-clause-serves
returns-in-Lives-clause-serves g c = (
  c.in_seconds-seconds.result,
  c.in_seconds-seconds.ensures,
  lives_on _ (g.A.Application.answers c.args.by.now.app.now) c.args.by.now.limits.now _ _ _ _ _ _ c.in-Lives.living c.in-Lives.state
      c.in-Some.ensures c.in-Lives.ensures c.serve-served.result.0 c.serve-served.ensures.serves c.stop.ensures,
)

pub returns-clause-serves : goal.returns-clause-serves
returns-clause-serves g c = (
  c.in_seconds-seconds.result,
  c.in_seconds-seconds.ensures,
  lives_not _ (g.A.Application.answers c.args.by.now.app.now) c.args.by.now.limits.now _ _ _ _ _ _ c.in-Some.ensures c.in-Ends.ensures refl,
)

-- nothing was begun for want of memory
pub returns-in_default-clause-serves : goal.returns-in_default-clause-serves
returns-in_default-clause-serves g c = (c.in_seconds-seconds.result, c.in_seconds-seconds.ensures, inr (refl, inl refl))
