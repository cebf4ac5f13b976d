use Rattle.std.proofs.Common.{refl}
use Rattle.matchit.proofs.OnLiterals.{matchit_on_literals}
use Rattle.asgi_routes.proofs.laws.the_narrower_pattern_matches.Goals as goal

pub returns-clause-wide : goal.returns-clause-wide
unfolding matchit_on_literals
returns-clause-wide c = refl

pub returns-clause-narrow : goal.returns-clause-narrow
unfolding matchit_on_literals
returns-clause-narrow c = refl

pub returns-clause-neither : goal.returns-clause-neither
unfolding matchit_on_literals
returns-clause-neither c = refl
