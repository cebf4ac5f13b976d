use Rattle.asgi_response.proofs.DenialReadLemmas as lemmas
use Rattle.asgi_response.proofs.laws.denial_is_read_back.Goals as goal

pub returns : goal.returns
returns c = lemmas.denial_is_read_back
