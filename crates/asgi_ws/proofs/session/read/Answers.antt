use Rattle.asgi_ws.proofs.session.read.Goals as goal

pub returns-then-stands : goal.returns-then-stands
returns-then-stands g c = rw c.in-Some.is (rw c.if-stands.true at c.read_next-answer.ensures)

pub returns : goal.returns
returns g c = rw c.in-Some.is (rw c.if-stands.false at c.read_next-answer.ensures)
