use Rattle.asgi_protocol.proofs.LawLemmas as law
use Rattle.asgi_protocol.proofs.laws.closed_is_last.Goals as goal

pub returns : goal.returns
returns c = law.closed_is_last
