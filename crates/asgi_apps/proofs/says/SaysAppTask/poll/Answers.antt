use Rattle.asgi_apps.specs.Saying.{left_of}
use Rattle.asgi_apps.proofs.SayLemmas.{same_list, sent_as_listed, still_stands}
use Rattle.asgi_apps.proofs.says.SaysAppTask.poll.Goals as goal

pub returns-clause-answers : goal.returns-clause-answers
returns-clause-answers g c =
    sent_as_listed c.args.self.now (g.E.AppEnd.kind c.args.end.now) (g.E.AppEnd.facts c.args.end.now) (g.E.AppEnd.heard c.args.end.now) (g.E.AppEnd.said c.args.end.now)
    (g.E.AppEnd.said c.send.new.end) (left_of c.send.new.self) c.send.result c.requires.stands c.send.ensures.pending c.send.ensures.ok c.send.ensures.failed

pub returns-clause-stands : goal.returns-clause-stands
returns-clause-stands g c =
    still_stands c.args.self.now c.send.new.self (g.E.AppEnd.kind c.args.end.now) (g.E.AppEnd.kind c.send.new.end) (g.E.AppEnd.heard c.args.end.now) (g.E.AppEnd.heard c.send.new.end)
    (g.E.AppEnd.said c.args.end.now) (g.E.AppEnd.said c.send.new.end) c.send.result c.requires.stands c.send.ensures.same.0 c.send.ensures.same.1
    c.send.ensures.end.kind c.send.ensures.heard c.send.ensures.pending

pub returns-clause-same : goal.returns-clause-same
returns-clause-same g c = same_list c.args.self.now c.send.new.self c.send.result c.send.ensures.same.0 c.send.ensures.same.1
