use Rattle.asgi_desk.proofs.Moves.{gives}
use Rattle.asgi_desk.proofs.turn.give.Goals as goal

pub send_as-requires-clause-rule : goal.send_as-requires-clause-rule
send_as-requires-clause-rule g c =
    let same = c.loop.invariant.same in let back = c.loop.invariant.back in
    rw (same, back) (gives g.T.Teller.tells _ _ _ _ c.requires.may.1 c.requires.may.0 c.requires.all c.requires.kept, λ items views h at. tt)
