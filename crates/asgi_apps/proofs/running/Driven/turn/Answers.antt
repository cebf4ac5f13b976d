use Rattle.asgi_apps.proofs.TurnLemmas.{runs_on}
use Rattle.asgi_apps.proofs.running.Driven.turn.Goals as goal

pub returns-in-Pending-clause-runs : goal.returns-in-Pending-clause-runs
returns-in-Pending-clause-runs g c =
    runs_on g.E.AppEnd g.T.AppTask.stands g.T.AppTask.answers c.args.self.now.lent c.turn-answer.new.self c.moved-turn.new.self c.add-in-Pending.new.self.lent
    c.in-Pending.ensures.pending c.in-Pending.ensures.same c.moved-turn.ensures.same c.moved-turn.ensures.again c.add-in-Pending.ensures.same.0
