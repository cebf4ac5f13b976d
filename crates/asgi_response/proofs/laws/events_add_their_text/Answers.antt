use Rattle.asgi_response.proofs.LawLemmas as lemmas
use Rattle.asgi_response.proofs.laws.events_add_their_text.Goals as goal

pub returns : goal.returns
returns c = lemmas.events_add_their_text
