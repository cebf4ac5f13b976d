use Rattle.crossbeam_channel.specs.Claims.{view}
use Rattle.asgi_desk.proofs.Moves.{merges}
use Rattle.asgi_desk.proofs.desk.Desk+N+T.rejoin.Goals as goal

pub absorb-requires-clause-rule : goal.absorb-requires-clause-rule
absorb-requires-clause-rule g c =
    merges g.T.Teller.tells c.args.seat.now.id (view c.args.seat.now) c.args.other.id (view c.args.other) c.requires.may.0 c.requires.may.1 c.requires.may.2
