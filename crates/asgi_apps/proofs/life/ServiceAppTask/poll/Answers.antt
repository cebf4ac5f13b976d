use Rattle.std.proofs.Common.{rules, refl, sym, ◌∙◌}
use Rattle.asgi_apps.proofs.LifeLemmas.{heard_more, said_all, said_answers, waiting_passes}
use Rattle.asgi_apps.proofs.life.ServiceAppTask.poll.Goals as goal

pub say-requires-clause-passes : goal.say-requires-clause-passes
say-requires-clause-passes g c =
    waiting_passes c.args.self.now (g.E.AppEnd.kind c.args.end.now) (g.E.AppEnd.heard c.args.end.now) (g.E.AppEnd.said c.args.end.now) c.requires.stands
    (g.E.AppEnd.facts c.args.end.now) c.in-Some.event (sym c.take.ensures.value ∙ c.in-Some.is)

pub returns-in-Some-clause-answers : goal.returns-in-Some-clause-answers
returns-in-Some-clause-answers g c =
    said_answers c.args.self.now (g.E.AppEnd.kind c.args.end.now) (g.E.AppEnd.heard c.args.end.now) (g.E.AppEnd.said c.args.end.now) c.requires.stands
    c.in-Some.event c.say.result (g.E.AppEnd.heard c.say.new.end) (g.E.AppEnd.said c.say.new.end) (sym c.take.ensures.value ∙ c.in-Some.is) c.say.ensures.heard c.say.ensures.said

pub returns-then-self-clause-answers : goal.returns-then-self-clause-answers
returns-then-self-clause-answers g c =
    said_all c.args.self.now (g.E.AppEnd.kind c.args.end.now) (g.E.AppEnd.heard c.args.end.now) (g.E.AppEnd.said c.args.end.now) c.requires.stands
    (g.E.AppEnd.said c.args.end.now) refl (search rules) (search rules)

pub returns-clause-stands : goal.returns-clause-stands
returns-clause-stands g c =
    rw c.yield_now.ensures.pending
    (heard_more c.args.self.now (g.E.AppEnd.kind c.args.end.now) (g.E.AppEnd.heard c.args.end.now) (g.E.AppEnd.said c.args.end.now) c.requires.stands
    c.in-Ready.event (g.E.AppEnd.heard c.receive.new.end) (g.E.AppEnd.said c.receive.new.end) (search rules) c.in-Ready.ensures.ready c.receive.ensures.said
    c.hear.new.self (g.E.AppEnd.kind c.receive.new.end) c.receive.ensures.end.kind
    c.hear.ensures.says c.hear.ensures.startup c.hear.ensures.shutdown c.hear.ensures.over c.hear.ensures.life)
