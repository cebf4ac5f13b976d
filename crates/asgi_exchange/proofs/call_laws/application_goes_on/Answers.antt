use Rattle.asgi_exchange.proofs.GoesOnLemmas.{app_stays, app_steps, app_follows}
use Rattle.asgi_exchange.proofs.call_laws.application_goes_on.Goals as goal

pub returns : goal.returns
returns g c = record { stays = λ x view. app_stays x view; steps = λ x view step. app_steps x view step; follows = λ x old view new. app_follows x old view new }
