use Rattle.asgi_handlers.proofs.MakingLemmas.{content_length_is_a_name, length_is_a_value}
use Rattle.asgi_handlers.proofs.reply.push_length.Goals as goal

pub returns-clause-memory : goal.returns-clause-memory
returns-clause-memory c failed =
    c.push.ensures.failed.0 failed (content_length_is_a_name, rw (c.as_bytes.ensures.value, c.format.ensures.text) (length_is_a_value c.args.length c.ranges.length.fits))
