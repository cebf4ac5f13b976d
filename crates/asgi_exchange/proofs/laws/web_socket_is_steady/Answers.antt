use Rattle.asgi_exchange.proofs.laws.web_socket_is_steady.Goals as goal
use Rattle.asgi_exchange.proofs.SessionLemmas as lemma

pub returns : goal.returns
returns c handshake facts ring = lemma.web_socket_is_steady handshake facts ring
