use Rattle.crossbeam_channel.specs.Claims.{view}
use Rattle.asgi_crew.proofs.Moves.{forks}
use Rattle.asgi_crew.proofs.gather.cut.Goals as goal

pub another-requires-clause-rule : goal.another-requires-clause-rule
another-requires-clause-rule g c = forks c.args.pass.now.id (view c.args.pass.now) c.requires.may.1 c.requires.may.0
