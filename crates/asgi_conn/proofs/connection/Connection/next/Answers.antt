use Rattle.asgi_request.specs.declared.next.Next.TheVariants.{Event, Whole}
use Rattle.asgi_conn.specs.Places.{place_of}
use Rattle.asgi_conn.specs.Places as place
use Rattle.asgi_conn.proofs.PlaceLemmas.{between_of}
use Rattle.asgi_conn.proofs.CallLemmas.{calls_more}
use Rattle.asgi_conn.proofs.ServeLemmas as lemma
use Rattle.asgi_conn.proofs.connection.Connection.next.Goals as goal

pub returns-in_default-clause-serves : goal.returns-in_default-clause-serves
returns-in_default-clause-serves g c limits start s = rw c.end_with-in_default.ensures.at (lemma.short (rw (between_of c.args.self.now c.requires.between) at s))

pub returns-in-Err-clause-serves : goal.returns-in-Err-clause-serves
returns-in-Err-clause-serves g c limits start s = rw c.end_with.ensures.at (lemma.short (rw (between_of c.args.self.now c.requires.between) at s))

pub returns-in-Ok-Need-clause-serves : goal.returns-in-Ok-Need-clause-serves
returns-in-Ok-Need-clause-serves g c limits start s =
    lemma.waited (rw (between_of c.args.self.now c.requires.between) at s) c.next.new.self c.next.ensures.limits (place_of c.wait.new.self)
    (c.in-Ok-Need.ensures.need c.in-Ok-Need.field-0-is) c.wait.ensures.waits

pub returns-in-Ok-Bad-clause-serves : goal.returns-in-Ok-Bad-clause-serves
returns-in-Ok-Bad-clause-serves g c limits start s =
    rw c.end_with-in-Ok-Bad.ensures.at (lemma.refused (rw (between_of c.args.self.now c.requires.between) at s) c.next.new.self c.next.ensures.limits
    (place.Ended c.refuse-outcome.result) c.in-Ok-Bad.status ((rw c.in-Ok-Bad.field-0-is at c.in-Ok-Bad.ensures.given) (λ never. cc)) c.refuse-outcome.ensures.refuses)

pub returns-in_default-framing-clause-serves : goal.returns-in_default-framing-clause-serves
returns-in_default-framing-clause-serves g c limits start s =
    lemma.answered (rw (between_of c.args.self.now c.requires.between) at s) c.next.new.self c.next.ensures.limits c.in-Ok-Head.scope c.in-Ok-Head.facts
    ((rw c.in-Ok-Head.field-0-is at c.in-Ok-Head.ensures.given) (λ never. cc)) c.in_default-framing.not-Upgrade c.in-Ok.ensures c.answer.ensures.serves

pub returns-in-Upgrade-clause-serves : goal.returns-in-Upgrade-clause-serves
returns-in-Upgrade-clause-serves g c limits start s =
    lemma.opened (rw (between_of c.args.self.now c.requires.between) at s) c.next.new.self c.next.ensures.limits c.in-Ok-Head.scope c.in-Ok-Head.facts
    ((rw c.in-Ok-Head.field-0-is at c.in-Ok-Head.ensures.given) (λ never. cc)) c.in-Upgrade.is c.in-Ok.ensures c.open.ensures.serves

pub answer-requires-clause-http : goal.answer-requires-clause-http
answer-requires-clause-http g c =
    lemma.is_http (rw (between_of c.args.self.now c.requires.between) at c.requires.stands.2) c.next.new.self c.next.ensures.limits c.in-Ok-Head.scope c.in-Ok-Head.facts
    ((rw c.in-Ok-Head.field-0-is at c.in-Ok-Head.ensures.given) (λ never. cc)) c.in_default-framing.not-Upgrade c.in-Ok.ensures

pub open-requires-clause-websocket : goal.open-requires-clause-websocket
open-requires-clause-websocket g c =
    lemma.is_websocket (rw (between_of c.args.self.now c.requires.between) at c.requires.stands.2) c.next.new.self c.next.ensures.limits c.in-Ok-Head.scope c.in-Ok-Head.facts
    ((rw c.in-Ok-Head.field-0-is at c.in-Ok-Head.ensures.given) (λ never. cc)) c.in-Upgrade.is c.in-Ok.ensures

pub unreachable-requires : goal.unreachable-requires
unreachable-requires g c =
    lemma.opens (rw (between_of c.args.self.now c.requires.between) at c.requires.stands.2) c.next.new.self c.next.ensures.limits (Event c.in-Ok-Event.field-0-0)
    ((rw c.in-Ok-Event.field-0-is at c.in-Ok-Event.ensures.given) (λ never. cc))

pub unreachable-requires-in-Ok-Whole : goal.unreachable-requires-in-Ok-Whole
unreachable-requires-in-Ok-Whole g c =
    lemma.opens (rw (between_of c.args.self.now c.requires.between) at c.requires.stands.2) c.next.new.self c.next.ensures.limits Whole
    ((rw c.in-Ok-Whole.field-0-is at c.in-Ok-Whole.ensures.given) (λ never. cc))

pub returns-in_default-framing-clause-called : goal.returns-in_default-framing-clause-called
returns-in_default-framing-clause-called g c = calls_more c.in-Ok.scope (place_of c.answer.new.self) c.args.calls.now.scopes.items c.answer.new.calls.scopes.items c.answer.ensures.called

pub returns-in-Upgrade-clause-called : goal.returns-in-Upgrade-clause-called
returns-in-Upgrade-clause-called g c = calls_more c.in-Ok.scope (place_of c.open.new.self) c.args.calls.now.scopes.items c.open.new.calls.scopes.items c.open.ensures.called
