use Rattle.std.proofs.Common.{refl}
use Rattle.std.specs.Fmt.{digits}
use Rattle.asgi_exchange.proofs.examples.sessions_that_never_open.Goals as goal

pub returns-clause-refused : goal.returns-clause-refused
unfolding digits
returns-clause-refused c = record { heard_is = refl; said_is = refl; taken_is = refl; written_is = refl }

pub returns-clause-denied : goal.returns-clause-denied
unfolding digits
returns-clause-denied c = record { heard_is = refl; said_is = refl; taken_is = refl; written_is = refl }

pub returns-clause-faulted : goal.returns-clause-faulted
unfolding digits
returns-clause-faulted c = record { heard_is = refl; said_is = refl; taken_is = refl; written_is = refl }

pub returns-clause-faulted_inside : goal.returns-clause-faulted_inside
unfolding digits
returns-clause-faulted_inside c = record { heard_is = refl; said_is = refl; taken_is = refl; written_is = refl }
