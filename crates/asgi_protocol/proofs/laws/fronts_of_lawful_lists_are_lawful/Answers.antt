use Rattle.asgi_protocol.proofs.PassingLemmas as law
use Rattle.asgi_protocol.proofs.laws.fronts_of_lawful_lists_are_lawful.Goals as goal

pub returns : goal.returns
returns c = law.fronts_are_lawful
