use Rattle.asgi_handlers.proofs.MakingLemmas.{location_is_a_name}
use Rattle.asgi_handlers.proofs.reply.redirected.Goals as goal

pub returns-in-Err-clause-memory : goal.returns-in-Err-clause-memory
returns-in-Err-clause-memory c failed = c.push.ensures.failed.0 (cc (c.in-Err.is, failed)) (location_is_a_name, c.requires)
