use Rattle.asgi_desk.proofs.Moves.{begins}
use Rattle.asgi_desk.proofs.desk.Desk+N+T.open.Goals as goal

pub bounded_with-requires-clause-rule : goal.bounded_with-requires-clause-rule
bounded_with-requires-clause-rule g c = begins g.T.Teller.tells
