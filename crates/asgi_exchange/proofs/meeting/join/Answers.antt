use Rattle.asgi_exchange.proofs.meeting.join.Goals as goal
use Rattle.asgi_exchange.proofs.HttpLemmas.{http_is_steady}
use Rattle.asgi_exchange.proofs.HttpExchangeLemmas.{in_words}
use Rattle.asgi_exchange.proofs.MeetLemmas.{ends_make}
use Rattle.asgi_exchange.proofs.SessionLemmas.{web_socket_is_steady}
use Rattle.asgi_exchange.proofs.SessionExchangeLemmas as session

pub returns-clause-http : goal.returns-clause-http
returns-clause-http g c limits view is kept offered got =
    in_words limits _ _ (
    ends_make _ (http_is_steady limits _) (λ m. m.left_in) (λ m. m.left_out) c.meet.result _ view _ _ _ _ _ _ _ _
    c.meet.ensures.met c.meet.ensures.inward c.meet.ensures.outward c.meet.ensures.heard c.meet.ensures.lawful is kept offered got)

pub returns-clause-web_socket : goal.returns-clause-web_socket
returns-clause-web_socket g c handshake ring view is kept offered got =
    session.in_words handshake _ ring _ (
    ends_make _ (web_socket_is_steady handshake _ ring) (λ m. m.left_in) (λ m. m.left_out) c.meet.result _ view _ _ _ _ _ _ _ _
    c.meet.ensures.met c.meet.ensures.inward c.meet.ensures.outward c.meet.ensures.heard c.meet.ensures.lawful is kept offered got)
