use Rattle.std.proofs.lemmas.Result.{IfOk-weaker}
use Rattle.asgi_handlers.proofs.asking.ask.Goals as goal

pub returns : goal.returns
returns g c =
    IfOk-weaker c.ask_in.result _ _
    (λ reply allowed. (c.in_ok-scope.scope, c.in_ok-scope.ensures.method, c.in_ok-scope.ensures.path, allowed))
    c.ask_in.ensures
