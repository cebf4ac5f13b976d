use Rattle.asgi_ws.proofs.HandshakeLemmas as lemmas
use Rattle.asgi_ws.proofs.laws.handshake_is_read_back.Goals as goal

pub returns : goal.returns
returns c = lemmas.handshake_is_read_back
