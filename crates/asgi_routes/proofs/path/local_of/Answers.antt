use Rattle.asgi_routes.proofs.PathLemmas.{stripped, unstripped}
use Rattle.asgi_routes.proofs.path.local_of.Goals as goal

pub returns-in-Some : goal.returns-in-Some
returns-in-Some c = stripped c.args.path.now c.args.root_path.now c.in-Some.local.now c.in-Some.ensures.cases

pub returns-in-None : goal.returns-in-None
returns-in-None c = unstripped c.args.path.now c.args.root_path.now c.in-None.ensures.cases
