use Rattle.asgi_talks.specs.Talking.{session_keeps}
use Rattle.asgi_talks.proofs.HearingLemmas.{listened, listened_end, listened_fault, listens_more, told, told_fault}
use Rattle.asgi_talks.proofs.talking.Talking.listen.Goals as goal

pub returns-in-Ok-clause-answers : goal.returns-in-Ok-clause-answers
returns-in-Ok-clause-answers g c =
    rw c.yield_now.ensures.pending
    (session_keeps (g.T.Talker.opens c.args.self.now.asked.talker c.args.self.now.asked.scope) g.S.Talk.answers g.S.Tells.tells g.S.Tells.fails c.args.self.now.called.items (g.E.AppEnd.kind c.receive.new.end) (g.E.AppEnd.heard c.receive.new.end) (g.E.AppEnd.said c.receive.new.end) c.in-Ok.stage
    (told (g.T.Talker.opens c.args.self.now.asked.talker c.args.self.now.asked.scope) g.S.Talk.answers g.S.Tells.tells g.S.Tells.fails c.args.session c.args.self.now.called.items (g.E.AppEnd.kind c.args.end.now) (g.E.AppEnd.kind c.receive.new.end) (g.E.AppEnd.heard c.args.end.now) (g.E.AppEnd.heard c.receive.new.end)
    (g.E.AppEnd.said c.args.end.now) (g.E.AppEnd.said c.receive.new.end)
    c.receive.ensures.end.kind c.in-Pending.ensures.pending.0 c.receive.ensures.said c.requires.talks c.in-Ok.stage c.in-Ok.ensures.told))

pub returns-in-Ok-clause-stands : goal.returns-in-Ok-clause-stands
returns-in-Ok-clause-stands g c =
    rw c.yield_now.ensures.pending
    (told (g.T.Talker.opens c.args.self.now.asked.talker c.args.self.now.asked.scope) g.S.Talk.answers g.S.Tells.tells g.S.Tells.fails c.args.session c.args.self.now.called.items (g.E.AppEnd.kind c.args.end.now) (g.E.AppEnd.kind c.receive.new.end) (g.E.AppEnd.heard c.args.end.now) (g.E.AppEnd.heard c.receive.new.end)
    (g.E.AppEnd.said c.args.end.now) (g.E.AppEnd.said c.receive.new.end)
    c.receive.ensures.end.kind c.in-Pending.ensures.pending.0 c.receive.ensures.said c.requires.talks c.in-Ok.stage c.in-Ok.ensures.told)

pub returns-in-Err-clause-answers : goal.returns-in-Err-clause-answers
returns-in-Err-clause-answers g c =
    told_fault (g.T.Talker.opens c.args.self.now.asked.talker c.args.self.now.asked.scope) g.S.Talk.answers g.S.Tells.tells g.S.Tells.fails c.args.session c.args.self.now.called.items (g.E.AppEnd.kind c.args.end.now) (g.E.AppEnd.kind c.receive.new.end) (g.E.AppEnd.heard c.args.end.now) (g.E.AppEnd.heard c.receive.new.end)
    (g.E.AppEnd.said c.args.end.now) (g.E.AppEnd.said c.receive.new.end)
    c.receive.ensures.end.kind c.in-Pending.ensures.pending.0 c.receive.ensures.said c.requires.talks c.in-Err.ensures.failed

pub returns-in-Passed-clause-answers : goal.returns-in-Passed-clause-answers
returns-in-Passed-clause-answers g c =
    rw c.yield_now-in-Passed.ensures.pending
    (session_keeps (g.T.Talker.opens c.args.self.now.asked.talker c.args.self.now.asked.scope) g.S.Talk.answers g.S.Tells.tells g.S.Tells.fails c.args.self.now.called.items (g.E.AppEnd.kind c.receive.new.end) (g.E.AppEnd.heard c.receive.new.end) (g.E.AppEnd.said c.receive.new.end) c.in-Passed.stage
    (listens_more (g.T.Talker.opens c.args.self.now.asked.talker c.args.self.now.asked.scope) g.S.Talk.answers g.S.Tells.tells g.S.Tells.fails c.args.session c.args.self.now.called.items (g.E.AppEnd.kind c.args.end.now) (g.E.AppEnd.kind c.receive.new.end) (g.E.AppEnd.heard c.args.end.now) (g.E.AppEnd.heard c.receive.new.end)
    (g.E.AppEnd.said c.args.end.now) (g.E.AppEnd.said c.receive.new.end)
    c.in-Ready.event c.receive.ensures.end.kind c.receive.ensures.said c.in-Ready.ensures.ready c.requires.talks c.in-Passed.stage c.in-Passed.ensures))

pub returns-in-Passed-clause-stands : goal.returns-in-Passed-clause-stands
returns-in-Passed-clause-stands g c =
    rw c.yield_now-in-Passed.ensures.pending
    (listens_more (g.T.Talker.opens c.args.self.now.asked.talker c.args.self.now.asked.scope) g.S.Talk.answers g.S.Tells.tells g.S.Tells.fails c.args.session c.args.self.now.called.items (g.E.AppEnd.kind c.args.end.now) (g.E.AppEnd.kind c.receive.new.end) (g.E.AppEnd.heard c.args.end.now) (g.E.AppEnd.heard c.receive.new.end)
    (g.E.AppEnd.said c.args.end.now) (g.E.AppEnd.said c.receive.new.end)
    c.in-Ready.event c.receive.ensures.end.kind c.receive.ensures.said c.in-Ready.ensures.ready c.requires.talks c.in-Passed.stage c.in-Passed.ensures)

pub returns-in-Turn-clause-answers : goal.returns-in-Turn-clause-answers
returns-in-Turn-clause-answers g c =
    rw c.yield_now-in-Turn.ensures.pending
    (session_keeps (g.T.Talker.opens c.args.self.now.asked.talker c.args.self.now.asked.scope) g.S.Talk.answers g.S.Tells.tells g.S.Tells.fails c.args.self.now.called.items (g.E.AppEnd.kind c.receive.new.end) (g.E.AppEnd.heard c.receive.new.end) (g.E.AppEnd.said c.receive.new.end) c.in-Turn.stage
    (listened (g.T.Talker.opens c.args.self.now.asked.talker c.args.self.now.asked.scope) g.S.Talk.answers g.S.Tells.tells g.S.Tells.fails c.args.session c.args.self.now.called.items (g.E.AppEnd.kind c.args.end.now) (g.E.AppEnd.kind c.receive.new.end) (g.E.AppEnd.heard c.args.end.now) (g.E.AppEnd.heard c.receive.new.end)
    (g.E.AppEnd.said c.args.end.now) (g.E.AppEnd.said c.receive.new.end)
    c.in-Ready.event c.receive.ensures.end.kind c.receive.ensures.said c.in-Ready.ensures.ready c.requires.talks c.in-Turn.stage c.in-Turn.ensures))

pub returns-in-Turn-clause-stands : goal.returns-in-Turn-clause-stands
returns-in-Turn-clause-stands g c =
    rw c.yield_now-in-Turn.ensures.pending
    (listened (g.T.Talker.opens c.args.self.now.asked.talker c.args.self.now.asked.scope) g.S.Talk.answers g.S.Tells.tells g.S.Tells.fails c.args.session c.args.self.now.called.items (g.E.AppEnd.kind c.args.end.now) (g.E.AppEnd.kind c.receive.new.end) (g.E.AppEnd.heard c.args.end.now) (g.E.AppEnd.heard c.receive.new.end)
    (g.E.AppEnd.said c.args.end.now) (g.E.AppEnd.said c.receive.new.end)
    c.in-Ready.event c.receive.ensures.end.kind c.receive.ensures.said c.in-Ready.ensures.ready c.requires.talks c.in-Turn.stage c.in-Turn.ensures)

pub returns-in-Gone-clause-answers : goal.returns-in-Gone-clause-answers
returns-in-Gone-clause-answers g c =
    listened_end (g.T.Talker.opens c.args.self.now.asked.talker c.args.self.now.asked.scope) g.S.Talk.answers g.S.Tells.tells g.S.Tells.fails c.args.session c.args.self.now.called.items (g.E.AppEnd.kind c.args.end.now) (g.E.AppEnd.kind c.receive.new.end) (g.E.AppEnd.heard c.args.end.now) (g.E.AppEnd.heard c.receive.new.end)
    (g.E.AppEnd.said c.args.end.now) (g.E.AppEnd.said c.receive.new.end)
    c.in-Ready.event c.receive.ensures.end.kind c.receive.ensures.said c.in-Ready.ensures.ready c.requires.talks c.in-Gone.ensures

pub returns-in-Failed-clause-answers : goal.returns-in-Failed-clause-answers
returns-in-Failed-clause-answers g c =
    listened_fault (g.T.Talker.opens c.args.self.now.asked.talker c.args.self.now.asked.scope) g.S.Talk.answers g.S.Tells.tells g.S.Tells.fails c.args.session c.args.self.now.called.items (g.E.AppEnd.kind c.args.end.now) (g.E.AppEnd.kind c.receive.new.end) (g.E.AppEnd.heard c.args.end.now) (g.E.AppEnd.heard c.receive.new.end)
    (g.E.AppEnd.said c.args.end.now) (g.E.AppEnd.said c.receive.new.end)
    c.in-Ready.event c.receive.ensures.end.kind c.receive.ensures.said c.in-Ready.ensures.ready c.requires.talks
