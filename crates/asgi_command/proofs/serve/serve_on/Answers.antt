use Rattle.asgi_command.proofs.EndedLemmas.{served_on}
use Rattle.asgi_command.proofs.serve.serve_on.Goals as goal

pub returns-clause-serves : goal.returns-clause-serves
returns-clause-serves g c =
    served_on g.L.Line.state (g.A.Application.answers c.args.app.now) c.args.limits.now c.args.workers.count _ _ _ _ _ c.serve_each-ending.result _
    c.serve_each-ending.ensures.lives c.tell.ensures.tells c.tell.ensures.status
