use Rattle.asgi_talks.proofs.talking.connect.Goals as goal

pub returns-in-Ok : goal.returns-in-Ok
returns-in-Ok g c = (c.in-Ok.opened, c.in-Ok.ensures.allowed, c.in-Ok.ensures.called, c.opening.ensures)
