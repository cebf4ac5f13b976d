use Rattle.asgi_protocol.proofs.LawLemmas as law
use Rattle.asgi_protocol.proofs.laws.lawful_where_each_passes.Goals as goal

pub returns : goal.returns
returns c = law.lawful_where_each_passes
