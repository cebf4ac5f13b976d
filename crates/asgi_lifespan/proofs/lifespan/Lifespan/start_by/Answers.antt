use Rattle.std.proofs.Common.{◌++◌, List, inr, sym, ap, ◌∙◌}
use Rattle.asgi_types.specs.declared.scope.Scope.{Scope}
use Rattle.asgi_lifespan.proofs.StartLemmas.{called_once, refused, starts_within}
use Rattle.asgi_lifespan.proofs.lifespan.Lifespan.start_by.Goals as goal

pub returns-in_default-called-clause-starts : goal.returns-in_default-called-clause-starts
returns-in_default-called-clause-starts g c = inr (refused _ c.args.limits.now (g.P.Pause.count c.args.pause.now) c.in_default-called.ensures.fault)

pub returns-clause-starts : goal.returns-clause-starts
returns-clause-starts g c =
    inr (starts_within _ _ c.args.limits.now (g.P.Pause.count c.args.pause.now) (g.P.Pause.count c.begin.new.pause) c.begin.result
    (λ heard said ended p. c.in-Ok-called.ensures.answers heard said ended (c.new.ensures.promise heard said ended p)) c.begin.ensures.starts)

pub returns-clause-called : goal.returns-clause-called
returns-clause-called g c =
    c.in-Ok-called.ensures.once ∙ ap (λ (l : List Scope). c.args.calls.now.scopes.items ++ l) (sym (called_once c.begin.result _ c.begin.ensures.starts.answered))
