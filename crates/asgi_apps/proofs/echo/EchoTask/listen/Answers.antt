use Rattle.std.proofs.Common.{rules, ◌≡◌, true, Some, None}
use Rattle.asgi_apps.proofs.EchoSteps.{heard_body, heard_end, heard_other, listening}
use Rattle.asgi_apps.proofs.echo.EchoTask.listen.Goals as goal

pub returns-in-Says-clause-goes_on : goal.returns-in-Says-clause-goes_on
returns-in-Says-clause-goes_on g c =
    let before = listening c.args.self.now.kind (g.E.AppEnd.kind c.args.end.now) (g.E.AppEnd.kind c.receive.new.end) c.args.self.now.waiting c.args.self.now.listens
    (g.E.AppEnd.heard c.args.end.now) (g.E.AppEnd.said c.args.end.now) (g.E.AppEnd.said c.receive.new.end)
    c.requires.free.0 c.requires.free.1 c.receive.ensures.end.kind c.receive.ensures.said c.requires.stands in
    λ on. heard_body c.args.self.now.kind (g.E.AppEnd.kind c.receive.new.end) (g.E.AppEnd.heard c.args.end.now) (g.E.AppEnd.said c.receive.new.end) c.in-Ready.event c.in-Says.event c.in-Says.listens
    (g.E.AppEnd.heard c.receive.new.end) c.in-Ready.ensures.ready c.in-Says.ensures before

pub returns-in-Listens-clause-goes_on : goal.returns-in-Listens-clause-goes_on
returns-in-Listens-clause-goes_on g c =
    let before = listening c.args.self.now.kind (g.E.AppEnd.kind c.args.end.now) (g.E.AppEnd.kind c.receive.new.end) c.args.self.now.waiting c.args.self.now.listens
    (g.E.AppEnd.heard c.args.end.now) (g.E.AppEnd.said c.args.end.now) (g.E.AppEnd.said c.receive.new.end)
    c.requires.free.0 c.requires.free.1 c.receive.ensures.end.kind c.receive.ensures.said c.requires.stands in
    λ on. rw (c.requires.free.0, c.requires.free.1)
    (heard_other c.args.self.now.kind (g.E.AppEnd.kind c.receive.new.end) (g.E.AppEnd.heard c.args.end.now) (g.E.AppEnd.said c.receive.new.end) c.in-Ready.event
    (g.E.AppEnd.heard c.receive.new.end) c.in-Ready.ensures.ready c.in-Listens.ensures before)

pub returns-in-Returns-clause-over : goal.returns-in-Returns-clause-over
returns-in-Returns-clause-over g c =
    let before = listening c.args.self.now.kind (g.E.AppEnd.kind c.args.end.now) (g.E.AppEnd.kind c.receive.new.end) c.args.self.now.waiting c.args.self.now.listens
    (g.E.AppEnd.heard c.args.end.now) (g.E.AppEnd.said c.args.end.now) (g.E.AppEnd.said c.receive.new.end)
    c.requires.free.0 c.requires.free.1 c.receive.ensures.end.kind c.receive.ensures.said c.requires.stands in
    λ over. heard_end c.args.self.now.kind (g.E.AppEnd.kind c.receive.new.end) (g.E.AppEnd.heard c.args.end.now) (g.E.AppEnd.said c.receive.new.end) c.in-Ready.event
    (g.E.AppEnd.heard c.receive.new.end) c.in-Ready.ensures.ready c.in-Returns.ensures before
