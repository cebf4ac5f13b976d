use Rattle.asgi_protocol.proofs.PassingLemmas as law
use Rattle.asgi_protocol.proofs.laws.nothing_passes_after_a_closed_list.Goals as goal

pub returns : goal.returns
returns c = law.nothing_passes
