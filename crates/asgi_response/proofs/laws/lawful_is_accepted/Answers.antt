use Rattle.asgi_response.proofs.LawfulLemmas as lemmas
use Rattle.asgi_response.proofs.laws.lawful_is_accepted.Goals as goal

pub returns : goal.returns
returns c = lemmas.lawful_is_accepted
