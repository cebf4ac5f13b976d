use Rattle.std.proofs.Common.{◌∙◌, ap, sym}
use Rattle.nomtsage.specs.Running.{exit_of}
use Rattle.nomtsage.proofs.server.Server+K+E+InThread.serve.Goals as goal

pub returns-in-Ok : goal.returns-in-Ok
returns-in-Ok g c = (c.run.result, c.run.ensures, c.done.ensures ∙ sym (ap exit_of c.in-Ok.is))

pub returns-in-Err : goal.returns-in-Err
returns-in-Err g c = (c.run.result, c.run.ensures, c.failed.ensures ∙ sym (ap exit_of c.in-Err.is))
