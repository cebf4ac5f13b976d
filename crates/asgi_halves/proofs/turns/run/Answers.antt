use Rattle.asgi_halves.proofs.HalfWords.{inr, leads_then, leads_out, rules}
use Rattle.asgi_run.proofs.LeadsLemmas.{taken_and_offered}
use Rattle.asgi_halves.proofs.turns.run.Goals as goal

pub returns-in-Ending-clause-leads : goal.returns-in-Ending-clause-leads
returns-in-Ending-clause-leads g c =
    leads_then g.K.ExchangeKind.stands _ _ _ _ _ _ _ _ _ c.take_all-took.ensures.leads (leads_out g.K.ExchangeKind.stands _ g.C.ConnEnd c.take_all-took.new.end _ _ _ _ c.finish.ensures.leads)

pub returns-then-ne-2-clause-leads : goal.returns-then-ne-2-clause-leads
returns-then-ne-2-clause-leads g c = taken_and_offered g.K.ExchangeKind.stands _ _ _ _ _ _ _ _ c.take_all-took.ensures.leads c.offer_due-offered.ensures.leads

pub returns-then-took-clause-leads : goal.returns-then-took-clause-leads
returns-then-took-clause-leads g c = taken_and_offered g.K.ExchangeKind.stands _ _ _ _ _ _ _ _ c.take_all-took.ensures.leads c.offer_due-offered.ensures.leads

pub returns-clause-leads : goal.returns-clause-leads
returns-clause-leads g c =
    let offered = taken_and_offered g.K.ExchangeKind.stands _ _ _ _ _ _ _ _ c.take_all-took.ensures.leads c.offer_due-offered.ensures.leads in
    leads_then g.K.ExchangeKind.stands _ _ _ _ _ _ _ _ _ offered (leads_out g.K.ExchangeKind.stands _ g.C.ConnEnd c.offer_due-offered.new.end _ _ _ _ c.read_on.ensures.leads)

pub returns-clause-runs : goal.returns-clause-runs
returns-clause-runs g c is = inr (search rules, rw (c.take_all-took.ensures.still c.if-took.false) at (c.read_on.ensures.turn is))
