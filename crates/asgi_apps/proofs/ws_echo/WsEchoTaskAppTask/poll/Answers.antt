use Rattle.std.proofs.Common.{sym, subst}
use Rattle.futures.specs.Poll.{OnPending}
use Rattle.asgi_apps.specs.Ends.{IsWithin}
use Rattle.asgi_apps.specs.WsEchoing.{WorkAnswers}
use Rattle.asgi_apps.specs.declared.ws_echo.Work.{Work}
use Rattle.asgi_apps.specs.declared.ws_echo.Work.TheVariants.{Denies}
use Rattle.asgi_apps.proofs.ws_echo.WsEchoTaskAppTask.poll.Goals as goal

pub returns-in-Denies-clause-same : goal.returns-in-Denies-clause-same
returns-in-Denies-clause-same g c =
    subst (λ (work : Work). OnPending c.poll.result (IsWithin WorkAnswers (Denies c.poll.new.self) work)) (sym c.in-Denies.is) c.poll.ensures.same
