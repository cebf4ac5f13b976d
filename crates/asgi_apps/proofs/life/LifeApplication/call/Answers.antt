use Rattle.std.proofs.Common.{ap}
use Rattle.asgi_apps.specs.Scopes.{kind_of}
use Rattle.asgi_apps.proofs.LifeLemmas.{begun_stands}
use Rattle.asgi_apps.proofs.life.LifeApplication.call.Goals as goal

pub returns-in_ok-begin-in-Lifespan-clause-stands : goal.returns-in_ok-begin-in-Lifespan-clause-stands
returns-in_ok-begin-in-Lifespan-clause-stands c =
    begun_stands c.args.self.now c.in_ok-begin-in-Lifespan.field-0 (kind_of c.args.scope.now) (ap kind_of c.in-Lifespan.is) c.in_ok-begin-in-Lifespan.ensures.begins
