use Rattle.asgi_desk.proofs.Moves.{opens}
use Rattle.asgi_desk.proofs.turn.give_first.Goals as goal

pub send_as-requires-clause-rule : goal.send_as-requires-clause-rule
send_as-requires-clause-rule g c =
    let same = c.loop.invariant.same in let back = c.loop.invariant.back in
    rw (same, back) (opens g.T.Teller.tells _ _ _ _ c.requires.first c.requires.none c.requires.kept, λ items views h at. tt)
