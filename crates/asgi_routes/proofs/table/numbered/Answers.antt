use Rattle.asgi_routes.proofs.PatternLemmas.{rows_with}
use Rattle.asgi_routes.proofs.table.numbered.Goals as goal

pub invariant_of-result : goal.invariant_of-result
invariant_of-result c = record { routed = rows_with c.args.patterns.items c.push.new.patterns.items c.args.pattern.now c.args.router c.requires c.in-Ok.ensures }
