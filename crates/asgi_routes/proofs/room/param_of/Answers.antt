use Rattle.std.proofs.Common.{Some, None}
use Rattle.asgi_handlers.proofs.ParamLemmas.{part_found}
use Rattle.asgi_routes.proofs.room.param_of.Goals as goal

pub returns-in-Some : goal.returns-in-Some
returns-in-Some c = part_found c.args.name.now c.args.params.now (Some c.in-Some.found.now) c.in-Some.ensures

pub returns-in-None : goal.returns-in-None
returns-in-None c = part_found c.args.name.now c.args.params.now None c.in-None.ensures
