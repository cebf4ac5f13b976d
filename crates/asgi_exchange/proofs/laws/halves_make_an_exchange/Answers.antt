use Rattle.asgi_exchange.proofs.laws.halves_make_an_exchange.Goals as goal
use Rattle.asgi_exchange.proofs.HttpLemmas.{http_is_steady}
use Rattle.asgi_exchange.proofs.HttpExchangeLemmas.{in_words}
use Rattle.asgi_exchange.proofs.ScheduleLemmas.{both_runs_make}
use Rattle.asgi_exchange.proofs.SessionLemmas.{web_socket_is_steady}
use Rattle.asgi_exchange.proofs.SessionExchangeLemmas as session

pub returns-clause-http : goal.returns-clause-http
returns-clause-http c limits facts conn_steps app_steps places_in places_out left_in left_out inward outward =
    in_words limits facts _ (both_runs_make _ (http_is_steady limits facts) conn_steps app_steps places_in places_out left_in left_out inward outward)

pub returns-clause-web_socket : goal.returns-clause-web_socket
returns-clause-web_socket c handshake facts ring conn_steps app_steps places_in places_out left_in left_out inward outward =
    session.in_words handshake facts ring _ (both_runs_make _ (web_socket_is_steady handshake facts ring) conn_steps app_steps places_in places_out left_in left_out inward outward)
