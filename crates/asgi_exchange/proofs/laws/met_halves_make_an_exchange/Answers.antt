use Rattle.asgi_exchange.proofs.laws.met_halves_make_an_exchange.Goals as goal
use Rattle.asgi_exchange.proofs.HttpLemmas.{http_is_steady}
use Rattle.asgi_exchange.proofs.HttpExchangeLemmas.{in_words}
use Rattle.asgi_exchange.proofs.ScheduleLemmas.{met_makes, run_keeps, goes_on_keeps}
use Rattle.asgi_exchange.proofs.SessionLemmas.{web_socket_is_steady}
use Rattle.asgi_exchange.proofs.SessionExchangeLemmas as session

pub returns-clause-met : goal.returns-clause-met
returns-clause-met c limits facts conn said ended pulled heard places_in places_out left_in left_out kept inward outward h lawful =
    in_words limits facts _ (met_makes _ (http_is_steady limits facts) conn said ended pulled heard places_in places_out left_in left_out kept inward outward h lawful)

pub returns-clause-runs : goal.returns-clause-runs
returns-clause-runs c limits facts steps = run_keeps _ (http_is_steady limits facts) steps

pub returns-clause-goes_on : goal.returns-clause-goes_on
returns-clause-goes_on c limits facts old new kept goes = goes_on_keeps _ (http_is_steady limits facts) old new kept goes

pub returns-clause-web_socket_met : goal.returns-clause-web_socket_met
returns-clause-web_socket_met c handshake facts ring conn said ended pulled heard places_in places_out left_in left_out kept inward outward h lawful =
    session.in_words handshake facts ring _
    (met_makes _ (web_socket_is_steady handshake facts ring) conn said ended pulled heard places_in places_out left_in left_out kept inward outward h lawful)

pub returns-clause-web_socket_runs : goal.returns-clause-web_socket_runs
returns-clause-web_socket_runs c handshake facts ring steps = run_keeps _ (web_socket_is_steady handshake facts ring) steps

pub returns-clause-web_socket_goes_on : goal.returns-clause-web_socket_goes_on
returns-clause-web_socket_goes_on c handshake facts ring old new kept goes = goes_on_keeps _ (web_socket_is_steady handshake facts ring) old new kept goes
