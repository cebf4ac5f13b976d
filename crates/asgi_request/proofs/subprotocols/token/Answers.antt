use Rattle.asgi_request.proofs.SubprotocolLemmas.{token_is_text}
use Rattle.asgi_request.proofs.subprotocols.token.Goals as goal

pub unreachable-requires : goal.unreachable-requires
unreachable-requires c = absurd (c.in-Err.ensures.cases.0 (token_is_text _ c.requires))
