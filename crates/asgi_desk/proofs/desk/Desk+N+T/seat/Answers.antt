use Rattle.crossbeam_channel.specs.Claims.{view}
use Rattle.asgi_desk.proofs.Moves.{forks}
use Rattle.asgi_desk.proofs.desk.Desk+N+T.seat.Goals as goal

pub another-requires-clause-rule : goal.another-requires-clause-rule
another-requires-clause-rule g c = forks g.T.Teller.tells c.args.seat.now.id (view c.args.seat.now) c.requires.may.0 c.requires.may.1
