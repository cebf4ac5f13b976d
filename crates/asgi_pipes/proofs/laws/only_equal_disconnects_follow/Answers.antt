use Rattle.asgi_pipes.proofs.LawLemmas.{only_equal}
use Rattle.asgi_pipes.proofs.laws.only_equal_disconnects_follow.Goals as goal

pub returns : goal.returns
returns c = only_equal
