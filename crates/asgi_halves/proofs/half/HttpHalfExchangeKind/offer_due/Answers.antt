use Rattle.asgi_halves.proofs.half.HttpHalfExchangeKind.offer_due.Goals as goal

pub returns-clause-leads : goal.returns-clause-leads
returns-clause-leads g c scene line read view s is =
    let x = c.offer_all.ensures.leads scene.at line read view s.stands is in (x.0, record { limits = rw c.offer_all.ensures.limits s.limits; stands = x.1 }, x.2)
