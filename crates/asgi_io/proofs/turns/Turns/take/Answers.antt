use Rattle.std.proofs.Common.{◌+◌, ◌++◌, ◌∷◌, [], subst, sym, arith}
use Rattle.asgi_io.specs.declared.turns.Turn.{Turn}
use Rattle.asgi_io.specs.declared.turns.Turn.TheVariants.{Moved, Idle, Last}
use Rattle.asgi_io.specs.Turns.{CountsTurns}
use Rattle.asgi_io.proofs.TurnLemmas.{one_more_turn}
use Rattle.asgi_io.proofs.turns.Turns.take.Goals as goal

pub returns-in-Moved-clause-counts : goal.returns-in-Moved-clause-counts
returns-in-Moved-clause-counts g c turned pauses x =
    rw c.moved.ensures (subst (λ (t : Turn). CountsTurns c.args.self.now.turn_limit c.args.self.now.idle_limit (turned ++ t ∷ []) pauses (g.P.Pause.count c.args.pause.now) (c.args.self.now.turns + 1) 0)
    (sym c.in-Moved.is) (one_more_turn _ _ turned Moved pauses _ _ _ _ x c.requires.turns c.requires.idle (omega arith) (omega arith)))

pub returns-in-Idle-clause-counts : goal.returns-in-Idle-clause-counts
returns-in-Idle-clause-counts g c turned pauses x =
    subst (λ (t : Turn). CountsTurns c.args.self.now.turn_limit c.args.self.now.idle_limit (turned ++ t ∷ []) pauses (g.P.Pause.count c.pause.new.self) (c.args.self.now.turns + 1) (c.args.self.now.idle + 1))
    (sym c.in-Idle.is) (one_more_turn _ _ turned Idle pauses _ _ _ _ x c.requires.turns c.requires.idle (omega (arith, c.pause.ensures)) (omega (arith, c.requires.idle)))

pub returns-in-Last-clause-counts : goal.returns-in-Last-clause-counts
returns-in-Last-clause-counts g c turned pauses x =
    subst (λ (t : Turn). CountsTurns c.args.self.now.turn_limit c.args.self.now.idle_limit (turned ++ t ∷ []) pauses (g.P.Pause.count c.args.pause.now) (c.args.self.now.turns + 1) c.args.self.now.idle)
    (sym c.in-Last.is) (one_more_turn _ _ turned Last pauses _ _ _ _ x c.requires.turns c.requires.idle (omega arith) (omega (arith, c.requires.idle)))
