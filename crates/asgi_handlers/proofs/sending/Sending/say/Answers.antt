use Rattle.asgi_handlers.specs.Handling.{left_of}
use Rattle.asgi_handlers.proofs.SendingLemmas.{not_taken, rest_sends}
use Rattle.asgi_handlers.proofs.sending.Sending.say.Goals as goal

pub returns-in-Done-clause-says : goal.returns-in-Done-clause-says
returns-in-Done-clause-says g c =
    rest_sends (g.E.AppEnd.kind c.args.end.now) (g.E.AppEnd.facts c.args.end.now) (g.E.AppEnd.heard c.args.end.now) (g.E.AppEnd.said c.args.end.now) (left_of c.args.self.now)
    (g.E.AppEnd.said c.poll_send.new.self) c.in-Some.event (left_of c.next.new.self) c.go_on.result c.in-Some.ensures.some c.in-Done.ensures.verdict.1 c.go_on.ensures.left

pub returns-in-Ignored-clause-says : goal.returns-in-Ignored-clause-says
returns-in-Ignored-clause-says g c =
    not_taken (g.E.AppEnd.kind c.args.end.now) (g.E.AppEnd.facts c.args.end.now) (g.E.AppEnd.heard c.args.end.now) (g.E.AppEnd.said c.args.end.now) (left_of c.args.self.now)
    (g.E.AppEnd.said c.poll_send.new.self) c.in-Some.event (left_of c.next.new.self) _ c.in-Some.ensures.some c.in-Ignored.ensures.verdict.0 (λ pass. cc) c.in-Ignored.ensures.verdict.1

pub returns-clause-says : goal.returns-clause-says
returns-clause-says g c =
    not_taken (g.E.AppEnd.kind c.args.end.now) (g.E.AppEnd.facts c.args.end.now) (g.E.AppEnd.heard c.args.end.now) (g.E.AppEnd.said c.args.end.now) (left_of c.args.self.now)
    (g.E.AppEnd.said c.poll_send.new.self) c.in-Some.event (left_of c.next.new.self) _ c.in-Some.ensures.some c.in-Refused.ensures.verdict.0 (λ pass. cc) c.in-Refused.ensures.verdict.2
