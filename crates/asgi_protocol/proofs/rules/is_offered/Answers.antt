use Rattle.asgi_protocol.proofs.OfferLemmas.{offered, not_offered}
use Rattle.asgi_protocol.proofs.rules.is_offered.Goals as goal

pub returns-then-eq : goal.returns-then-eq
returns-then-eq c =
    offered c.args.offers.now c.args.subprotocol.now c.in-Some.name c.in-Some-at.offer.now c.as_str.result.now c.as_str-in-loop-index.result.now c.loop-index.index c.eq.result
    c.in-Some-at.ensures.found c.as_str.ensures c.as_str-in-loop-index.ensures c.eq.ensures c.if-eq.true c.in-Some.is

pub loop-index-preserved : goal.loop-index-preserved
loop-index-preserved c =
    not_offered c.args.offers.now c.in-Some.name c.in-Some-at.offer.now c.as_str.result.now c.as_str-in-loop-index.result.now c.loop-index.index c.eq.result
    c.in-Some-at.ensures.found c.as_str.ensures c.as_str-in-loop-index.ensures c.eq.ensures c.if-eq.false c.loop-index.invariant
