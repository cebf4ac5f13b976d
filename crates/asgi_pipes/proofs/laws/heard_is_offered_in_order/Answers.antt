use Rattle.asgi_pipes.proofs.LawLemmas.{in_order}
use Rattle.asgi_pipes.proofs.laws.heard_is_offered_in_order.Goals as goal

pub returns : goal.returns
returns c = in_order
