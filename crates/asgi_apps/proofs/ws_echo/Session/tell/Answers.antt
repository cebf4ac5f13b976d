use Rattle.std.proofs.Common.{sym, ◌∙◌}
use Rattle.asgi_apps.proofs.WsEchoSteps.{waiting_passes}
use Rattle.asgi_apps.proofs.ws_echo.Session.tell.Goals as goal

pub say-requires-clause-passes : goal.say-requires-clause-passes
say-requires-clause-passes g c =
    waiting_passes c.args.self.now (g.E.AppEnd.kind c.args.end.now) (g.E.AppEnd.heard c.args.end.now) (g.E.AppEnd.said c.args.end.now) c.requires.stands
    (g.E.AppEnd.facts c.args.end.now) c.in-Some.event (sym c.take.ensures.value ∙ c.in-Some.is)
