use Rattle.asgi_handlers.proofs.MakingLemmas.{text_is_a_value}
use Rattle.asgi_handlers.proofs.reply.Reply.text.Goals as goal

pub returns-in-Ok-clause-memory : goal.returns-in-Ok-clause-memory
returns-in-Ok-clause-memory c failed = (c.new.ensures.failed.0 failed).1 text_is_a_value
