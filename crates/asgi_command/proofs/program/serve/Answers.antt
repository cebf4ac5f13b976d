use Rattle.asgi_command.proofs.ServingLemmas.{served_whole}
use Rattle.asgi_command.proofs.program.serve.Goals as goal

pub returns : goal.returns
returns g c =
    served_whole _ c.usual-limits.result _ _ _ c.new-pause.result.count _ c.serve_connection-report.result
    c.usual-limits.ensures c.new-state.ensures c.new-pause.ensures c.serve_connection-report.ensures
