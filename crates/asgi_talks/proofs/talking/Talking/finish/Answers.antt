use Rattle.std.proofs.Common.{None, refl}
use Rattle.asgi_talks.specs.Talking.{left_of, turn_keeps}
use Rattle.asgi_talks.proofs.SayingLemmas.{said_last, said_on, turned_away}
use Rattle.asgi_talks.proofs.talking.Talking.finish.Goals as goal

pub returns-in-Left-clause-answers : goal.returns-in-Left-clause-answers
returns-in-Left-clause-answers g c =
    turn_keeps (g.T.Talker.opens c.args.self.now.asked.talker c.args.self.now.asked.scope) g.S.Talk.answers g.S.Tells.tells g.S.Tells.fails c.args.self.now.called.items (g.E.AppEnd.kind c.say.new.end) (g.E.AppEnd.heard c.say.new.end) (g.E.AppEnd.said c.say.new.end) None (left_of c.say.new.self)
    (said_on (g.T.Talker.opens c.args.self.now.asked.talker c.args.self.now.asked.scope) g.S.Talk.answers g.S.Tells.tells g.S.Tells.fails None (left_of c.args.sending) c.args.self.now.called.items
    (g.E.AppEnd.kind c.args.end.now) (g.E.AppEnd.heard c.args.end.now) (g.E.AppEnd.heard c.say.new.end) (g.E.AppEnd.said c.args.end.now) (g.E.AppEnd.said c.say.new.end)
    c.say.ensures.heard c.requires.talks (g.E.AppEnd.kind c.say.new.end) (left_of c.say.new.self) c.say.ensures.end.kind c.say.ensures.end.said c.in-Left.ensures.says)

pub returns-in-Left-clause-stands : goal.returns-in-Left-clause-stands
returns-in-Left-clause-stands g c =
    said_on (g.T.Talker.opens c.args.self.now.asked.talker c.args.self.now.asked.scope) g.S.Talk.answers g.S.Tells.tells g.S.Tells.fails None (left_of c.args.sending) c.args.self.now.called.items
    (g.E.AppEnd.kind c.args.end.now) (g.E.AppEnd.heard c.args.end.now) (g.E.AppEnd.heard c.say.new.end) (g.E.AppEnd.said c.args.end.now) (g.E.AppEnd.said c.say.new.end)
    c.say.ensures.heard c.requires.talks (g.E.AppEnd.kind c.say.new.end) (left_of c.say.new.self) c.say.ensures.end.kind c.say.ensures.end.said c.in-Left.ensures.says

pub returns-in-All-clause-answers : goal.returns-in-All-clause-answers
returns-in-All-clause-answers g c =
    said_last (g.T.Talker.opens c.args.self.now.asked.talker c.args.self.now.asked.scope) g.S.Talk.answers g.S.Tells.tells g.S.Tells.fails None (left_of c.args.sending) c.args.self.now.called.items
    (g.E.AppEnd.kind c.args.end.now) (g.E.AppEnd.heard c.args.end.now) (g.E.AppEnd.heard c.say.new.end) (g.E.AppEnd.said c.args.end.now) (g.E.AppEnd.said c.say.new.end)
    c.say.ensures.heard c.requires.talks refl c.in-All.ensures.says

pub returns-in-Refused-clause-answers : goal.returns-in-Refused-clause-answers
returns-in-Refused-clause-answers g c =
    turned_away (g.T.Talker.opens c.args.self.now.asked.talker c.args.self.now.asked.scope) g.S.Talk.answers g.S.Tells.tells g.S.Tells.fails None (left_of c.args.sending) c.args.self.now.called.items
    (g.E.AppEnd.kind c.args.end.now) (g.E.AppEnd.heard c.args.end.now) (g.E.AppEnd.heard c.say.new.end) (g.E.AppEnd.said c.args.end.now) (g.E.AppEnd.said c.say.new.end)
    c.say.ensures.heard c.requires.talks (g.E.AppEnd.facts c.args.end.now) c.in-Refused.ensures.says
