use Rattle.asgi_handlers.proofs.MakingLemmas.{json_is_a_value}
use Rattle.asgi_handlers.proofs.reply.Reply.json.Goals as goal

pub returns-in-Ok-clause-memory : goal.returns-in-Ok-clause-memory
returns-in-Ok-clause-memory c failed = (c.new.ensures.failed.0 failed).1 json_is_a_value
