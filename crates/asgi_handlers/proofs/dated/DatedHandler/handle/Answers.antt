use Rattle.std.proofs.lemmas.Result.{IfOk-weaker}
use Rattle.asgi_handlers.proofs.dated.DatedHandler.handle.Goals as goal

pub returns : goal.returns
returns g c =
    IfOk-weaker c.stamped.result _ _
    (λ reply is. record { given = c.in_ok-reply.reply; allowed = c.in_ok-reply.ensures; date = c.now.result; dated = is })
    c.stamped.ensures
