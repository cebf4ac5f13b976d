use Rattle.asgi_pipes.proofs.LawLemmas.{heard_again}
use Rattle.asgi_pipes.proofs.laws.disconnect_is_heard_again.Goals as goal

pub returns : goal.returns
returns c = heard_again
