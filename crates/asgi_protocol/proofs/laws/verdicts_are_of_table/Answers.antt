use Rattle.asgi_protocol.proofs.LawLemmas as law
use Rattle.asgi_protocol.proofs.laws.verdicts_are_of_table.Goals as goal

pub returns : goal.returns
returns c = law.verdicts_are_of_table
