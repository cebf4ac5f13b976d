use Rattle.asgi_exchange.proofs.GoesOnLemmas.{conn_stays, conn_steps, conn_follows}
use Rattle.asgi_exchange.proofs.call_laws.connection_goes_on.Goals as goal

pub returns : goal.returns
returns g c = record { stays = λ x view. conn_stays x view; steps = λ x view step. conn_steps x view step; follows = λ x old view new. conn_follows x old view new }
