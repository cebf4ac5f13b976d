use Rattle.asgi_halves.proofs.HalfWords.{arith, Invariant, rules}
use Rattle.asgi_run.proofs.LeadsLemmas.{in_then}
use Rattle.asgi_halves.proofs.TurnLemmas.{one_longer}
use Rattle.asgi_halves.proofs.half.HttpHalf.offer_all.Goals as goal

pub loop-event-preserved : goal.loop-event-preserved
loop-event-preserved g c =
    let i = c.loop-event.invariant in
    let e = c.offer_one.ensures in
    let more = one_longer c.offer_one.result (g.C.ConnEnd.offered c.loop-event.end) (g.C.ConnEnd.offered c.offer_one.new.end) c.if-not-offer_one.false e.one.0 in
    let leads = in_then Invariant _ _ _ _ _ _ i.leads e.leads in search (rules, arith, more, leads, i, e)

pub returns-then-not-offer_one-clause-leads : goal.returns-then-not-offer_one-clause-leads
returns-then-not-offer_one-clause-leads g c = in_then Invariant _ _ _ _ _ _ c.loop-event.invariant.leads c.offer_one.ensures.leads
