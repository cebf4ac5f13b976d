use Rattle.asgi_exchange.proofs.laws.every_schedule.Goals as goal
use Rattle.asgi_exchange.specs.Http.{http}
use Rattle.asgi_exchange.specs.Schedules.{run}
use Rattle.asgi_exchange.specs.Views.{empty_world}
use Rattle.asgi_exchange.specs.WebSocket.{web_socket}
use Rattle.asgi_exchange.proofs.HttpLemmas.{http_is_steady}
use Rattle.asgi_exchange.proofs.HttpExchangeLemmas.{in_words}
use Rattle.asgi_exchange.proofs.ScheduleLemmas.{every_run}
use Rattle.asgi_exchange.proofs.SessionLemmas.{web_socket_is_steady}
use Rattle.asgi_exchange.proofs.SessionExchangeLemmas as session

pub returns-clause-http : goal.returns-clause-http
returns-clause-http c limits facts steps = in_words limits facts (run (http limits facts) steps empty_world) (every_run (http limits facts) (http_is_steady limits facts) steps)

pub returns-clause-web_socket : goal.returns-clause-web_socket
returns-clause-web_socket c handshake facts ring steps =
    session.in_words handshake facts ring (run (web_socket handshake facts ring) steps empty_world)
    (every_run (web_socket handshake facts ring) (web_socket_is_steady handshake facts ring) steps)
