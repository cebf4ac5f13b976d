use Rattle.std.proofs.Common.{Some, ◌∙◌}
use Rattle.asgi_handlers.specs.Handling.{request_keeps}
use Rattle.asgi_handlers.proofs.HearingLemmas.{failed, heard_end, heard_more, heard_none, heard_whole, unsaid}
use Rattle.asgi_handlers.proofs.handling.Handling.listen.Goals as goal

pub returns-in-Pending-clause-answers : goal.returns-in-Pending-clause-answers
returns-in-Pending-clause-answers g c =
    unsaid (g.H.Handler.replies c.args.self.now.asked.handler c.args.self.now.asked.scope.value) (g.E.AppEnd.heard c.receive.new.end) (g.E.AppEnd.said c.receive.new.end)
    (c.receive.ensures.said ∙ c.requires.hears.silent)

pub returns-in-Pending-clause-stands : goal.returns-in-Pending-clause-stands
returns-in-Pending-clause-stands g c =
    heard_none (g.H.Handler.replies c.args.self.now.asked.handler c.args.self.now.asked.scope.value) c.args.self.now.body.items c.args.self.now.given.items c.args.self.now.sending
    (g.E.AppEnd.kind c.args.end.now) (g.E.AppEnd.kind c.receive.new.end) (g.E.AppEnd.heard c.args.end.now) (g.E.AppEnd.heard c.receive.new.end)
    (g.E.AppEnd.said c.args.end.now) (g.E.AppEnd.said c.receive.new.end)
    c.requires.unsent c.receive.ensures.end.kind c.in-Pending.ensures.pending.0 c.receive.ensures.said c.requires.hears

pub returns-in-More-clause-answers : goal.returns-in-More-clause-answers
returns-in-More-clause-answers g c =
    rw c.yield_now.ensures.pending
    (unsaid (g.H.Handler.replies c.args.self.now.asked.handler c.args.self.now.asked.scope.value) (g.E.AppEnd.heard c.receive.new.end) (g.E.AppEnd.said c.receive.new.end)
    (c.receive.ensures.said ∙ c.requires.hears.silent))

pub returns-in-More-clause-stands : goal.returns-in-More-clause-stands
returns-in-More-clause-stands g c =
    rw c.yield_now.ensures.pending
    (heard_more (g.H.Handler.replies c.args.self.now.asked.handler c.args.self.now.asked.scope.value) c.args.self.now.body.items c.hear.new.body.items c.args.self.now.given.items c.hear.new.given.items
    (g.E.AppEnd.kind c.args.end.now) (g.E.AppEnd.kind c.receive.new.end) (g.E.AppEnd.heard c.args.end.now) (g.E.AppEnd.heard c.receive.new.end)
    (g.E.AppEnd.said c.args.end.now) (g.E.AppEnd.said c.receive.new.end) c.in-Ready.event c.receive.ensures.end.kind c.receive.ensures.said c.in-Ready.ensures.ready
    c.requires.hears c.args.self.now.sending c.requires.unsent c.in-More.ensures)

pub returns-in-Gone-clause-answers : goal.returns-in-Gone-clause-answers
returns-in-Gone-clause-answers g c =
    heard_end (g.H.Handler.replies c.args.self.now.asked.handler c.args.self.now.asked.scope.value) c.args.self.now.body.items c.hear.new.body.items c.args.self.now.given.items c.hear.new.given.items
    (g.E.AppEnd.kind c.args.end.now) (g.E.AppEnd.kind c.receive.new.end) (g.E.AppEnd.heard c.args.end.now) (g.E.AppEnd.heard c.receive.new.end)
    (g.E.AppEnd.said c.args.end.now) (g.E.AppEnd.said c.receive.new.end) c.in-Ready.event c.receive.ensures.end.kind c.receive.ensures.said c.in-Ready.ensures.ready
    c.requires.hears c.in-Gone.ensures

pub returns-in-Whole-clause-answers : goal.returns-in-Whole-clause-answers
returns-in-Whole-clause-answers g c =
    rw c.yield_now-in-Whole.ensures.pending
    (request_keeps (g.H.Handler.replies c.args.self.now.asked.handler c.args.self.now.asked.scope.value) c.hear.new.body.items c.hear.new.given.items (Some c.of.result)
    (g.E.AppEnd.kind c.receive.new.end) (g.E.AppEnd.heard c.receive.new.end) (g.E.AppEnd.said c.receive.new.end)
    (heard_whole (g.H.Handler.replies c.args.self.now.asked.handler c.args.self.now.asked.scope.value) c.args.self.now.body.items c.hear.new.body.items c.args.self.now.given.items c.hear.new.given.items
    (g.E.AppEnd.kind c.args.end.now) (g.E.AppEnd.kind c.receive.new.end) (g.E.AppEnd.heard c.args.end.now) (g.E.AppEnd.heard c.receive.new.end)
    (g.E.AppEnd.said c.args.end.now) (g.E.AppEnd.said c.receive.new.end) c.in-Ready.event c.receive.ensures.end.kind c.receive.ensures.said c.in-Ready.ensures.ready
    c.requires.hears c.in-Whole.reply c.of.result c.of.ensures c.in-Whole.ensures))

pub returns-in-Whole-clause-stands : goal.returns-in-Whole-clause-stands
returns-in-Whole-clause-stands g c =
    rw c.yield_now-in-Whole.ensures.pending
    (heard_whole (g.H.Handler.replies c.args.self.now.asked.handler c.args.self.now.asked.scope.value) c.args.self.now.body.items c.hear.new.body.items c.args.self.now.given.items c.hear.new.given.items
    (g.E.AppEnd.kind c.args.end.now) (g.E.AppEnd.kind c.receive.new.end) (g.E.AppEnd.heard c.args.end.now) (g.E.AppEnd.heard c.receive.new.end)
    (g.E.AppEnd.said c.args.end.now) (g.E.AppEnd.said c.receive.new.end) c.in-Ready.event c.receive.ensures.end.kind c.receive.ensures.said c.in-Ready.ensures.ready
    c.requires.hears c.in-Whole.reply c.of.result c.of.ensures c.in-Whole.ensures)

pub returns-in-Failed-clause-answers : goal.returns-in-Failed-clause-answers
returns-in-Failed-clause-answers g c =
    failed (g.H.Handler.replies c.args.self.now.asked.handler c.args.self.now.asked.scope.value) (g.E.AppEnd.heard c.receive.new.end) (g.E.AppEnd.said c.receive.new.end)
    (c.receive.ensures.said ∙ c.requires.hears.silent)
