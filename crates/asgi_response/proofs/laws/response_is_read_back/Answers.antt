use Rattle.asgi_response.proofs.ReadBackBodyLemmas as lemmas
use Rattle.asgi_response.proofs.laws.response_is_read_back.Goals as goal

pub returns : goal.returns
returns c = lemmas.response_is_read_back
