use Rattle.std.proofs.Common.{sym, subst}
use Rattle.futures.specs.Poll.{OnPending}
use Rattle.asgi_apps.specs.Ends.{IsWithin}
use Rattle.asgi_handlers.specs.Handling.{TaskAnswers}
use Rattle.asgi_handlers.specs.declared.handled.HandledTask.TheVariants.{Denies, Handles}
use Rattle.asgi_handlers.proofs.handled.HandledTaskAppTask.poll.Goals as goal

pub returns-in-Handles-clause-same : goal.returns-in-Handles-clause-same
returns-in-Handles-clause-same g c =
    subst (λ task. OnPending c.poll.result (IsWithin (TaskAnswers g.H.Handler.replies) (Handles c.poll.new.self) task)) (sym c.in-Handles.is) c.poll.ensures.same

pub returns-in-Denies-clause-same : goal.returns-in-Denies-clause-same
returns-in-Denies-clause-same g c =
    subst (λ task. OnPending c.poll-in-Denies.result (IsWithin (TaskAnswers g.H.Handler.replies) (Denies c.poll-in-Denies.new.self) task)) (sym c.in-Denies.is) c.poll-in-Denies.ensures.same
