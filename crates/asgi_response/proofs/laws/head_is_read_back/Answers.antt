use Rattle.asgi_response.proofs.ReadBackLemmas as lemmas
use Rattle.asgi_response.proofs.laws.head_is_read_back.Goals as goal

pub returns : goal.returns
returns c = lemmas.head_is_read_back
