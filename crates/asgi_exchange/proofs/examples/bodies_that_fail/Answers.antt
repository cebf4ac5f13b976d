use Rattle.std.proofs.Common.{refl}
use Rattle.std.specs.Fmt.{digits}
use Rattle.asgi_exchange.proofs.examples.bodies_that_fail.Goals as goal

pub returns-clause-too_large : goal.returns-clause-too_large
unfolding digits
returns-clause-too_large c = record { heard_is = refl; said_is = refl; taken_is = refl; written_is = refl }
