use Rattle.asgi_pipes.proofs.PairLemmas.{keep_order}
use Rattle.asgi_pipes.proofs.laws.plain_pairs_keep_order.Goals as goal

pub returns : goal.returns
returns c = keep_order
