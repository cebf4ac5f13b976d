use Rattle.std.proofs.Common.{◌∙◌}
use Rattle.asgi_handlers.proofs.LocationLemmas.{is_a_value}
use Rattle.asgi_handlers.proofs.reply.Reply.redirect.Goals as goal

pub redirected-requires : goal.redirected-requires
redirected-requires c = is_a_value _ c.as_bytes-bytes.result.now (c.as_slice.ensures.value ∙ c.in-Ok.ensures.uri)
