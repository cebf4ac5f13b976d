use Rattle.asgi_response.proofs.EndLemmas as lemmas
use Rattle.asgi_response.proofs.laws.begun_responses_get_nothing_more.Goals as goal

pub returns : goal.returns
returns c = lemmas.nothing_added
