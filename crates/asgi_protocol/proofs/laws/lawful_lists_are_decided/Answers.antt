use Rattle.asgi_protocol.proofs.PassingLemmas as law
use Rattle.asgi_protocol.proofs.laws.lawful_lists_are_decided.Goals as goal

pub returns : goal.returns
returns c = law.lawful_lists_are_decided
