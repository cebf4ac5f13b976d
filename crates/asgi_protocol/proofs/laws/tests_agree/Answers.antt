use Rattle.asgi_protocol.proofs.LawLemmas as law
use Rattle.asgi_protocol.proofs.laws.tests_agree.Goals as goal

pub returns : goal.returns
returns c = law.tests_agree
