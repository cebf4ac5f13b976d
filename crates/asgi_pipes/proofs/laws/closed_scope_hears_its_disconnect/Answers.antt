use Rattle.asgi_pipes.proofs.LawLemmas.{closed_hears}
use Rattle.asgi_pipes.proofs.laws.closed_scope_hears_its_disconnect.Goals as goal

pub returns : goal.returns
returns c = closed_hears
