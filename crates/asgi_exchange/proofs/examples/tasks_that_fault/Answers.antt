use Rattle.std.proofs.Common.{refl}
use Rattle.std.specs.Fmt.{digits}
use Rattle.asgi_exchange.proofs.examples.tasks_that_fault.Goals as goal

pub returns-clause-at_once : goal.returns-clause-at_once
unfolding digits
returns-clause-at_once c = record { heard_is = refl; said_is = refl; taken_is = refl; written_is = refl }

pub returns-clause-inside : goal.returns-clause-inside
unfolding digits
returns-clause-inside c = record { heard_is = refl; said_is = refl; taken_is = refl; written_is = refl }
