use Rattle.std.proofs.Common.{vec_len}
use Rattle.asgi_threads.proofs.abreast.+run.Given as goal

abbrev pub decreases-run : goal.decreases-run
decreases-run g l = vec_len l.parts
