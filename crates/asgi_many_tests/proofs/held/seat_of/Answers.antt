use Rattle.std.proofs.Common.{◌++◌, ◌∷◌, [], None}
use Rattle.asgi_many_tests.proofs.held.seat_of.Goals as goal

pub returns-in-Ok : goal.returns-in-Ok
returns-in-Ok g c = let (came, ended, holds) = c.requires in (came ++ c.args.newcomer ∷ [], ended ++ None ∷ [], c.in-Ok.ensures.holds c.args.calls.now.app.now came ended holds)

pub returns-in-Err : goal.returns-in-Err
returns-in-Err g c = let (came, ended, holds) = c.requires in (came, ended, rw c.in-Err.ensures.back.1 holds)
