use Rattle.asgi_pipes.proofs.HadLemmas.{hears_was}
use Rattle.asgi_pipes.proofs.laws.heard_has_one_reading.Goals as goal

pub returns : goal.returns
returns c = hears_was
