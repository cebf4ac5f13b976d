use Rattle.asgi_desk.proofs.Moves.{takes}
use Rattle.asgi_desk.proofs.turn.take.Goals as goal

pub recv_as-requires-clause-rule : goal.recv_as-requires-clause-rule
recv_as-requires-clause-rule g c =
    let same = c.loop.invariant.same in (takes g.T.Teller.tells _ _ (rw same c.requires.may), λ items views h at. tt)
