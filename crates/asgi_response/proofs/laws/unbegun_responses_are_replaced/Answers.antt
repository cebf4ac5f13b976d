use Rattle.asgi_response.proofs.EndLemmas as lemmas
use Rattle.asgi_response.proofs.laws.unbegun_responses_are_replaced.Goals as goal

pub returns : goal.returns
returns c = lemmas.unbegun_are_replaced
