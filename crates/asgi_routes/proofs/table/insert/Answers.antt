use Rattle.matchit.specs.Route.{parse_route}
use Rattle.asgi_routes.proofs.PatternLemmas.{inserted, inserted_new, not_inserted}
use Rattle.asgi_routes.proofs.table.insert.Goals as goal

pub returns-in-Ok-clause-ok : goal.returns-in-Ok-clause-ok
returns-in-Ok-clause-ok c = inserted c.args.number c.args.router.now c.insert.new.self (parse_route c.args.pattern.now) tt c.in-Ok.ensures

pub returns-in-Ok-clause-fit : goal.returns-in-Ok-clause-fit
returns-in-Ok-clause-fit c = inserted_new c.args.number c.args.router.now c.insert.new.self c.args.pattern.now tt c.in-Ok.ensures

pub returns-in-Err-clause-err : goal.returns-in-Err-clause-err
returns-in-Err-clause-err c = not_inserted c.args.number c.args.router.now c.insert.new.self c.args.pattern.now c.in-Err.error c.from.result c.from.ensures c.in-Err.ensures
