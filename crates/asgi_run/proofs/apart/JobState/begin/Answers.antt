use Rattle.std.proofs.Common.{refl}
use Rattle.asgi_run.proofs.apart.JobState.begin.Goals as goal

pub returns-in-Runs-clause-job : goal.returns-in-Runs-clause-job
returns-in-Runs-clause-job g c =
    rw c.in-Runs.is (record { running = c.in-Runs.running; pause = c.args.pause; idle_turns = c.args.turns.now.idle_limit; turns = c.args.turns.now.turn_limit }, c.give.ensures, refl)
