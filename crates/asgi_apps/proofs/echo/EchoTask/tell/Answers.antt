use Rattle.std.proofs.Common.{refl, sym, ◌∙◌}
use Rattle.asgi_apps.proofs.EchoSteps.{said_it, stays, waiting_passes}
use Rattle.asgi_apps.proofs.echo.EchoTask.tell.Goals as goal

pub say-requires-clause-passes : goal.say-requires-clause-passes
say-requires-clause-passes g c =
    waiting_passes c.args.self.now.kind (g.E.AppEnd.kind c.args.end.now) (g.E.AppEnd.heard c.args.end.now) (g.E.AppEnd.said c.args.end.now)
    c.args.self.now.waiting c.in-Some.event c.args.self.now.listens (g.E.AppEnd.facts c.args.end.now) (sym c.take.ensures.value ∙ c.in-Some.is) c.requires.stands

pub returns-in-Some-clause-stands : goal.returns-in-Some-clause-stands
returns-in-Some-clause-stands g c =
    stays c.args.self.now.kind (g.E.AppEnd.kind c.args.end.now) (g.E.AppEnd.kind c.say.new.end) c.say.result c.args.self.now.listens
    (g.E.AppEnd.heard c.args.end.now) (g.E.AppEnd.heard c.say.new.end) (g.E.AppEnd.said c.say.new.end) (g.E.AppEnd.said c.say.new.end)
    c.say.ensures.end.kind c.say.ensures.heard refl
    (said_it c.args.self.now.kind (g.E.AppEnd.kind c.args.end.now) (g.E.AppEnd.heard c.args.end.now) (g.E.AppEnd.said c.args.end.now)
    c.args.self.now.waiting c.say.result c.in-Some.event c.args.self.now.listens (g.E.AppEnd.said c.say.new.end) (sym c.take.ensures.value ∙ c.in-Some.is)
    c.say.ensures.said c.requires.stands)
