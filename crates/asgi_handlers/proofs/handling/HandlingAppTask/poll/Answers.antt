use Rattle.std.proofs.Common.{Option, subst}
use Rattle.asgi_handlers.specs.declared.sending.Sending.{Sending}
use Rattle.asgi_handlers.specs.Handling.{StandsAt}
use Rattle.asgi_handlers.proofs.SendingLemmas.{said_all, said_one, so_far, turned_away}
use Rattle.asgi_handlers.proofs.handling.HandlingAppTask.poll.Goals as goal

pub returns-in-Left-clause-answers : goal.returns-in-Left-clause-answers
returns-in-Left-clause-answers g c =
    so_far (g.H.Handler.replies c.args.self.now.asked.handler c.args.self.now.asked.scope.value) c.args.self.now.body.items c.args.self.now.given.items c.args.self.now.sending _
    (g.E.AppEnd.kind c.args.end.now) (g.E.AppEnd.heard c.args.end.now) (g.E.AppEnd.heard c.say.new.end) (g.E.AppEnd.said c.args.end.now) (g.E.AppEnd.said c.say.new.end)
    c.in-Some.is c.say.ensures.heard c.requires.stands c.say.new.self c.in-Left.ensures.says

pub returns-in-Left-clause-stands : goal.returns-in-Left-clause-stands
returns-in-Left-clause-stands g c =
    said_one (g.H.Handler.replies c.args.self.now.asked.handler c.args.self.now.asked.scope.value) c.args.self.now.body.items c.args.self.now.given.items c.args.self.now.sending _
    (g.E.AppEnd.kind c.args.end.now) (g.E.AppEnd.heard c.args.end.now) (g.E.AppEnd.heard c.say.new.end) (g.E.AppEnd.said c.args.end.now) (g.E.AppEnd.said c.say.new.end)
    c.in-Some.is c.say.ensures.heard c.requires.stands (g.E.AppEnd.kind c.say.new.end) c.say.new.self c.say.ensures.end.kind c.in-Left.ensures.says

pub returns-in-All-clause-answers : goal.returns-in-All-clause-answers
returns-in-All-clause-answers g c =
    said_all (g.H.Handler.replies c.args.self.now.asked.handler c.args.self.now.asked.scope.value) c.args.self.now.body.items c.args.self.now.given.items c.args.self.now.sending _
    (g.E.AppEnd.kind c.args.end.now) (g.E.AppEnd.heard c.args.end.now) (g.E.AppEnd.heard c.say.new.end) (g.E.AppEnd.said c.args.end.now) (g.E.AppEnd.said c.say.new.end)
    c.in-Some.is c.say.ensures.heard c.requires.stands c.in-All.ensures.says

pub returns-in-Refused-clause-answers : goal.returns-in-Refused-clause-answers
returns-in-Refused-clause-answers g c =
    turned_away (g.H.Handler.replies c.args.self.now.asked.handler c.args.self.now.asked.scope.value) c.args.self.now.body.items c.args.self.now.given.items c.args.self.now.sending _
    (g.E.AppEnd.kind c.args.end.now) (g.E.AppEnd.heard c.args.end.now) (g.E.AppEnd.heard c.say.new.end) (g.E.AppEnd.said c.args.end.now) (g.E.AppEnd.said c.say.new.end)
    c.in-Some.is c.say.ensures.heard c.requires.stands (g.E.AppEnd.facts c.args.end.now) c.in-Refused.ensures.says

pub listen-requires-clause-hears : goal.listen-requires-clause-hears
listen-requires-clause-hears g c =
    subst (λ (o : Option Sending). StandsAt (g.H.Handler.replies c.args.self.now.asked.handler c.args.self.now.asked.scope.value) c.args.self.now.body.items c.args.self.now.given.items o
    (g.E.AppEnd.kind c.args.end.now) (g.E.AppEnd.heard c.args.end.now) (g.E.AppEnd.said c.args.end.now)) c.in-None.is c.requires.stands
