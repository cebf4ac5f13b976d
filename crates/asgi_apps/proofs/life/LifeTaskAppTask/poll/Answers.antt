use Rattle.std.proofs.Common.{sym, subst}
use Rattle.futures.specs.Poll.{OnPending}
use Rattle.asgi_apps.specs.Ends.{IsWithin}
use Rattle.asgi_apps.specs.Living.{WorkAnswers}
use Rattle.asgi_apps.specs.declared.life.Work.{Work}
use Rattle.asgi_apps.specs.declared.life.Work.TheVariants.{Answers}
use Rattle.asgi_apps.proofs.life.LifeTaskAppTask.poll.Goals as goal

pub returns-in-Answers-clause-same : goal.returns-in-Answers-clause-same
returns-in-Answers-clause-same g c =
    subst (λ (work : Work). OnPending c.poll.result (IsWithin WorkAnswers (Answers c.poll.new.self) work)) (sym c.in-Answers.is) c.poll.ensures.same
