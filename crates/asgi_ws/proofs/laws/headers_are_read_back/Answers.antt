use Rattle.asgi_response.proofs.ReadBackLemmas.{valid_are_sendable}
use Rattle.asgi_ws.proofs.HandshakeLemmas.{handshake_is_read_back}
use Rattle.asgi_ws.proofs.laws.headers_are_read_back.Goals as goal

pub returns : goal.returns
returns c = handshake_is_read_back c.args.headers.now (valid_are_sendable c.args.headers.now c.fields_are_valid.ensures)
