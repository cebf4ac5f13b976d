use Rattle.asgi_talks.specs.Talking.{session_keeps}
use Rattle.asgi_talks.proofs.HearingLemmas.{waited, waited_end, waited_fault, waits_more, waits_on}
use Rattle.asgi_talks.proofs.talking.Talking.wait.Goals as goal

pub returns-in-Pending-clause-answers : goal.returns-in-Pending-clause-answers
returns-in-Pending-clause-answers g c =
    session_keeps (g.T.Talker.opens c.args.self.now.asked.talker c.args.self.now.asked.scope) g.S.Talk.answers g.S.Tells.tells g.S.Tells.fails c.args.self.now.called.items (g.E.AppEnd.kind c.receive.new.end) (g.E.AppEnd.heard c.receive.new.end) (g.E.AppEnd.said c.receive.new.end) c.args.self.now.stage
    (waits_on (g.T.Talker.opens c.args.self.now.asked.talker c.args.self.now.asked.scope) g.S.Talk.answers g.S.Tells.tells g.S.Tells.fails c.args.self.now.called.items c.args.self.now.stage (g.E.AppEnd.kind c.args.end.now) (g.E.AppEnd.kind c.receive.new.end) (g.E.AppEnd.heard c.args.end.now) (g.E.AppEnd.heard c.receive.new.end)
    (g.E.AppEnd.said c.args.end.now) (g.E.AppEnd.said c.receive.new.end)
    c.requires.stage c.receive.ensures.end.kind c.in-Pending.ensures.pending.0 c.receive.ensures.said c.requires.waits)

pub returns-in-Pending-clause-stands : goal.returns-in-Pending-clause-stands
returns-in-Pending-clause-stands g c =
    waits_on (g.T.Talker.opens c.args.self.now.asked.talker c.args.self.now.asked.scope) g.S.Talk.answers g.S.Tells.tells g.S.Tells.fails c.args.self.now.called.items c.args.self.now.stage (g.E.AppEnd.kind c.args.end.now) (g.E.AppEnd.kind c.receive.new.end) (g.E.AppEnd.heard c.args.end.now) (g.E.AppEnd.heard c.receive.new.end)
    (g.E.AppEnd.said c.args.end.now) (g.E.AppEnd.said c.receive.new.end)
    c.requires.stage c.receive.ensures.end.kind c.in-Pending.ensures.pending.0 c.receive.ensures.said c.requires.waits

pub returns-in-Passed-clause-answers : goal.returns-in-Passed-clause-answers
returns-in-Passed-clause-answers g c =
    rw c.yield_now.ensures.pending
    (session_keeps (g.T.Talker.opens c.args.self.now.asked.talker c.args.self.now.asked.scope) g.S.Talk.answers g.S.Tells.tells g.S.Tells.fails c.first.new.called.items (g.E.AppEnd.kind c.receive.new.end) (g.E.AppEnd.heard c.receive.new.end) (g.E.AppEnd.said c.receive.new.end) c.in-Passed.stage
    (waits_more (g.T.Talker.opens c.args.self.now.asked.talker c.args.self.now.asked.scope) g.S.Talk.answers g.S.Tells.tells g.S.Tells.fails c.args.self.now.called.items c.first.new.called.items (g.E.AppEnd.kind c.args.end.now) (g.E.AppEnd.kind c.receive.new.end) (g.E.AppEnd.heard c.args.end.now) (g.E.AppEnd.heard c.receive.new.end)
    (g.E.AppEnd.said c.args.end.now) (g.E.AppEnd.said c.receive.new.end)
    c.in-Ready.event c.receive.ensures.end.kind c.receive.ensures.said c.in-Ready.ensures.ready c.requires.waits c.in-Passed.stage c.in-Passed.ensures))

pub returns-in-Passed-clause-stands : goal.returns-in-Passed-clause-stands
returns-in-Passed-clause-stands g c =
    rw c.yield_now.ensures.pending
    (waits_more (g.T.Talker.opens c.args.self.now.asked.talker c.args.self.now.asked.scope) g.S.Talk.answers g.S.Tells.tells g.S.Tells.fails c.args.self.now.called.items c.first.new.called.items (g.E.AppEnd.kind c.args.end.now) (g.E.AppEnd.kind c.receive.new.end) (g.E.AppEnd.heard c.args.end.now) (g.E.AppEnd.heard c.receive.new.end)
    (g.E.AppEnd.said c.args.end.now) (g.E.AppEnd.said c.receive.new.end)
    c.in-Ready.event c.receive.ensures.end.kind c.receive.ensures.said c.in-Ready.ensures.ready c.requires.waits c.in-Passed.stage c.in-Passed.ensures)

pub returns-in-Turn-clause-answers : goal.returns-in-Turn-clause-answers
returns-in-Turn-clause-answers g c =
    rw c.yield_now-in-Turn.ensures.pending
    (session_keeps (g.T.Talker.opens c.args.self.now.asked.talker c.args.self.now.asked.scope) g.S.Talk.answers g.S.Tells.tells g.S.Tells.fails c.first.new.called.items (g.E.AppEnd.kind c.receive.new.end) (g.E.AppEnd.heard c.receive.new.end) (g.E.AppEnd.said c.receive.new.end) c.in-Turn.stage
    (waited (g.T.Talker.opens c.args.self.now.asked.talker c.args.self.now.asked.scope) g.S.Talk.answers g.S.Tells.tells g.S.Tells.fails c.args.self.now.called.items c.first.new.called.items (g.E.AppEnd.kind c.args.end.now) (g.E.AppEnd.kind c.receive.new.end) (g.E.AppEnd.heard c.args.end.now) (g.E.AppEnd.heard c.receive.new.end)
    (g.E.AppEnd.said c.args.end.now) (g.E.AppEnd.said c.receive.new.end)
    c.in-Ready.event c.receive.ensures.end.kind c.receive.ensures.said c.in-Ready.ensures.ready c.requires.waits c.in-Turn.stage c.in-Turn.ensures))

pub returns-in-Turn-clause-stands : goal.returns-in-Turn-clause-stands
returns-in-Turn-clause-stands g c =
    rw c.yield_now-in-Turn.ensures.pending
    (waited (g.T.Talker.opens c.args.self.now.asked.talker c.args.self.now.asked.scope) g.S.Talk.answers g.S.Tells.tells g.S.Tells.fails c.args.self.now.called.items c.first.new.called.items (g.E.AppEnd.kind c.args.end.now) (g.E.AppEnd.kind c.receive.new.end) (g.E.AppEnd.heard c.args.end.now) (g.E.AppEnd.heard c.receive.new.end)
    (g.E.AppEnd.said c.args.end.now) (g.E.AppEnd.said c.receive.new.end)
    c.in-Ready.event c.receive.ensures.end.kind c.receive.ensures.said c.in-Ready.ensures.ready c.requires.waits c.in-Turn.stage c.in-Turn.ensures)

pub returns-in-Gone-clause-answers : goal.returns-in-Gone-clause-answers
returns-in-Gone-clause-answers g c =
    waited_end (g.T.Talker.opens c.args.self.now.asked.talker c.args.self.now.asked.scope) g.S.Talk.answers g.S.Tells.tells g.S.Tells.fails c.args.self.now.called.items c.first.new.called.items (g.E.AppEnd.kind c.args.end.now) (g.E.AppEnd.kind c.receive.new.end) (g.E.AppEnd.heard c.args.end.now) (g.E.AppEnd.heard c.receive.new.end)
    (g.E.AppEnd.said c.args.end.now) (g.E.AppEnd.said c.receive.new.end)
    c.in-Ready.event c.receive.ensures.end.kind c.receive.ensures.said c.in-Ready.ensures.ready c.requires.waits c.in-Gone.ensures

pub returns-in-Failed-clause-answers : goal.returns-in-Failed-clause-answers
returns-in-Failed-clause-answers g c =
    waited_fault (g.T.Talker.opens c.args.self.now.asked.talker c.args.self.now.asked.scope) g.S.Talk.answers g.S.Tells.tells g.S.Tells.fails c.args.self.now.called.items c.first.new.called.items (g.E.AppEnd.kind c.args.end.now) (g.E.AppEnd.kind c.receive.new.end) (g.E.AppEnd.heard c.args.end.now) (g.E.AppEnd.heard c.receive.new.end)
    (g.E.AppEnd.said c.args.end.now) (g.E.AppEnd.said c.receive.new.end)
    c.in-Ready.event c.receive.ensures.end.kind c.receive.ensures.said c.in-Ready.ensures.ready c.requires.waits
