use Rattle.asgi_many.specs.Turns.{ended_after}
use Rattle.asgi_many_tests.proofs.held.turn_of.Goals as goal

pub returns : goal.returns
returns g c = let (came, ended, holds) = c.requires in (came, ended_after c.turn.result ended, rw c.turn.ensures.same (c.turn.ensures.holds came ended holds))
