use Rattle.asgi_request.proofs.HandshakeLemmas.{handshake_alone, handshake_key}
use Rattle.asgi_request.proofs.NextLemmas.{next_head, begins_with_handshake}
use Rattle.asgi_request.proofs.OpenedLemmas.{closed_at}
use Rattle.asgi_request.proofs.laws.handshake_is_last.Goals as goal

pub returns-clause-begins : goal.returns-clause-begins
returns-clause-begins c reader bytes closed more after scope facts x r e =
    let n = next_head reader.limits bytes closed after reader.place reader.held scope facts more (closed_at reader.limits bytes closed after x) r in
    (n.0, begins_with_handshake reader.limits after scope facts n.0 n.1 e)

pub returns-clause-whole : goal.returns-clause-whole
returns-clause-whole c limits bytes frames scope facts x = handshake_alone limits bytes frames scope facts x

pub returns-clause-key : goal.returns-clause-key
returns-clause-key c limits bytes frames scope facts x = handshake_key limits bytes frames scope facts x
