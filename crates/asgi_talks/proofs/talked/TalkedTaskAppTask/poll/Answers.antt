use Rattle.std.proofs.Common.{sym, subst}
use Rattle.futures.specs.Poll.{OnPending}
use Rattle.asgi_apps.specs.Ends.{IsWithin}
use Rattle.asgi_talks.specs.Talking.{TaskAnswers}
use Rattle.asgi_talks.specs.declared.talked.TalkedTask.TheVariants.{Denies, Talks}
use Rattle.asgi_talks.proofs.talked.TalkedTaskAppTask.poll.Goals as goal

pub returns-in-Talks-clause-same : goal.returns-in-Talks-clause-same
returns-in-Talks-clause-same g c =
    subst (λ task. OnPending c.poll.result (IsWithin (TaskAnswers g.T.Talker.opens g.S.Talk.answers g.S.Tells.tells g.S.Tells.fails) (Talks c.poll.new.self) task)) (sym c.in-Talks.is) c.poll.ensures.same

pub returns-in-Denies-clause-same : goal.returns-in-Denies-clause-same
returns-in-Denies-clause-same g c =
    subst (λ task. OnPending c.poll-in-Denies.result (IsWithin (TaskAnswers g.T.Talker.opens g.S.Talk.answers g.S.Tells.tells g.S.Tells.fails) (Denies c.poll-in-Denies.new.self) task)) (sym c.in-Denies.is)
    c.poll-in-Denies.ensures.same
