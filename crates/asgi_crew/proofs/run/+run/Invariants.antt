use Rattle.std.proofs.Common.{vec_len}
use Rattle.asgi_crew.proofs.run.+run.Given as goal

abbrev pub decreases-run : goal.decreases-run
decreases-run g l = vec_len l.crew
