use Rattle.asgi_halves.proofs.half.HttpHalfExchangeKind.say.Goals as goal

pub returns-clause-says : goal.returns-clause-says
returns-clause-says g c scene read view s =
    let x = c.say.ensures.says scene.at read view s.stands in (x.0, record { limits = rw c.say.ensures.limits s.limits; stands = x.1 })
