use Rattle.std.proofs.Common.{inr, refl}
use Rattle.nomtsage.proofs.LivesLemmas.{lives_not, lives_on}
use Rattle.nomtsage.proofs.serve.serve_by.Goals as goal

pub returns-in-Err-clause-serves : goal.returns-in-Err-clause-serves
returns-in-Err-clause-serves g c = inr (refl, c.without_stations.ensures)

pub returns-in-Lives-clause-serves : goal.returns-in-Lives-clause-serves
returns-in-Lives-clause-serves g c =
    lives_on _ (g.A.Application.answers c.args.by.now.app.now) c.args.by.now.limits.now g.T.AppTask _ _ _ _ _ c.in-Lives.living c.in-Lives.state
    c.in-Some.ensures c.in-Lives.ensures c.serve_each-served.result.0 c.serve_each-served.ensures.served c.stop.ensures

pub returns-clause-serves : goal.returns-clause-serves
returns-clause-serves g c =
    lives_not _ (g.A.Application.answers c.args.by.now.app.now) c.args.by.now.limits.now g.T.AppTask _ _ _ _ _ c.in-Some.ensures c.in-Ends.ensures refl
