use Rattle.std.proofs.Common.{sym, subst}
use Rattle.futures.specs.Poll.{OnPending}
use Rattle.asgi_apps.specs.Ends.{IsWithin}
use Rattle.asgi_apps.specs.Mounting.{TaskAnswers}
use Rattle.asgi_apps.specs.declared.mounts.MountTask.TheVariants.{Missing}
use Rattle.asgi_apps.proofs.mounts.MountTaskAppTask.poll.Goals as goal

pub returns-in-Missing-clause-same : goal.returns-in-Missing-clause-same
returns-in-Missing-clause-same g c =
    subst (λ task. OnPending c.poll-in-Missing.result (IsWithin (TaskAnswers g.T.AppTask.answers) (Missing c.poll-in-Missing.new.self) task)) (sym c.in-Missing.is) c.poll-in-Missing.ensures.same
