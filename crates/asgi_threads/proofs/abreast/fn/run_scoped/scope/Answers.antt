use Rattle.std.proofs.Common.{subst, sym}
use Rattle.asgi_threads.specs.Abreast.{Did, Each}
use Rattle.asgi_threads.proofs.abreast.fn.run_scoped.scope.Goals as goal

pub returns : goal.returns
returns g c = record {
  did = subst (λ b. Each (Did (g.E.Works.works c.captures.how.now) b) c.captures.parts.items c.run-parts.result.parts.items) (sym c.value-has_worked.ensures) c.run-parts.ensures.did;
}
