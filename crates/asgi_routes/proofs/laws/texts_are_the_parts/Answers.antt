use Rattle.asgi_routes.proofs.TextLemmas.{texts_are}
use Rattle.asgi_routes.proofs.laws.texts_are_the_parts.Goals as goal

pub returns : goal.returns
returns c = texts_are
