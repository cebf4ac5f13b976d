use Rattle.asgi_request.specs.BodyResults.{next_of}
use Rattle.asgi_halves.proofs.HalfBodyLemmas.{gave_next}
use Rattle.asgi_halves.proofs.half.HttpHalf.pull_result.Goals as goal

pub returns-clause-gives : goal.returns-clause-gives
returns-clause-gives c read opened framing arrived events x given ends =
    let next = c.in_ok-next_of_body in
    let gave = gave_next c.args.self.now.wire.requests c.next_of_body.new.self (next_of next.field-0) read opened framing arrived events x (rw c.requires at given) next.ensures.need next.ensures.given in
    (c.body_of.ensures.gives c.next_of_body.new.self read opened framing arrived events (rw c.next_of_body.ensures.limits x) gave, c.body_of.ensures.ends_where)
