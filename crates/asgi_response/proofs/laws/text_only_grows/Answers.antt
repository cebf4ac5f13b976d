use Rattle.asgi_response.proofs.LawLemmas.{text_grows}
use Rattle.asgi_response.proofs.laws.text_only_grows.Goals as goal

pub returns : goal.returns
returns c = text_grows
