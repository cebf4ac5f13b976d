use Rattle.asgi_halves.proofs.half.HttpHalfExchangeKind.finish.Goals as goal

pub returns-clause-leads : goal.returns-clause-leads
returns-clause-leads g c scene read view s =
    let x = c.finish_task.ensures.leads scene.at read view s.stands in (x.0, x.1, x.2, record { limits = rw c.finish_task.ensures.limits s.limits; stands = x.3 })
