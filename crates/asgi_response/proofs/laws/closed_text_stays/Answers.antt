use Rattle.asgi_response.proofs.EndLemmas as lemmas
use Rattle.asgi_response.proofs.laws.closed_text_stays.Goals as goal

pub returns : goal.returns
returns c = lemmas.closed_text_stays
