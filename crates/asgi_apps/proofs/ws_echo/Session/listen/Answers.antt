use Rattle.std.proofs.Common.{rules}
use Rattle.asgi_apps.proofs.WsEchoSteps.{heard_end, heard_more}
use Rattle.asgi_apps.proofs.ws_echo.Session.listen.Goals as goal

pub returns-clause-goes_on : goal.returns-clause-goes_on
returns-clause-goes_on g c =
    λ on. heard_more c.args.self.now (g.E.AppEnd.kind c.args.end.now) (g.E.AppEnd.heard c.args.end.now) (g.E.AppEnd.said c.args.end.now) c.requires.stands
    c.in-Ready.event (g.E.AppEnd.heard c.receive.new.end) (g.E.AppEnd.said c.receive.new.end) c.hear.result
    c.requires.free c.in-Ready.ensures.ready c.receive.ensures.said c.hear.ensures.goes_on
    c.hear.new.self (g.E.AppEnd.kind c.receive.new.end) on c.receive.ensures.end.kind c.hear.ensures.says c.hear.ensures.connected

pub returns-clause-over : goal.returns-clause-over
returns-clause-over g c =
    λ over. heard_end c.args.self.now (g.E.AppEnd.kind c.args.end.now) (g.E.AppEnd.heard c.args.end.now) (g.E.AppEnd.said c.args.end.now) c.requires.stands
    c.in-Ready.event (g.E.AppEnd.heard c.receive.new.end) (g.E.AppEnd.said c.receive.new.end) c.hear.result
    c.requires.free c.in-Ready.ensures.ready c.receive.ensures.said c.hear.ensures.goes_on over
