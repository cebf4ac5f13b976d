use Rattle.asgi_response.proofs.EndLemmas as lemmas
use Rattle.asgi_response.proofs.laws.added_text_only_grows.Goals as goal

pub returns : goal.returns
returns c = lemmas.added_text_only_grows
