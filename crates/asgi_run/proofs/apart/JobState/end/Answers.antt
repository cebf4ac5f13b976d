use Rattle.std.proofs.Common.{inr}
use Rattle.asgi_run.proofs.ApartLemmas.{done_drove, done_so, works_within, works_drove, works_so}
use Rattle.asgi_run.proofs.apart.JobState.end.Goals as goal

pub returns-in-Done-clause-side : goal.returns-in-Done-clause-side
returns-in-Done-clause-side g c side job may = done_so g.T.AppTask.stands g.T.AppTask.answers g.E.AppEnd g.Q.Pause.count c.in-Done.ran side (rw c.in-Done.is at job) may

pub returns-in-Done-clause-drove : goal.returns-in-Done-clause-drove
returns-in-Done-clause-drove g c side turn_limit idle_limit paused turned job limits =
    done_drove g.T.AppTask.stands g.T.AppTask.answers g.E.AppEnd g.Q.Pause.count c.in-Done.ran side turn_limit idle_limit paused turned (rw c.in-Done.is at job) (rw c.in-Done.is at limits)

pub returns-in-Works-clause-side : goal.returns-in-Works-clause-side
returns-in-Works-clause-side g c side job may =
    let back = c.take_back-kept.result.1 in
    works_so g.T.AppTask.stands g.T.AppTask.answers g.E.AppEnd g.Q.Pause.count c.in-Works.working back.ended back.pause c.take_back-kept.ensures side (rw c.in-Works.is at job)

pub returns-in-Works-clause-drives : goal.returns-in-Works-clause-drives
returns-in-Works-clause-drives g c turn_limit idle_limit paused turned limits =
    let back = c.take_back-kept.result.1 in
    inr (works_within g.T.AppTask.stands g.T.AppTask.answers g.E.AppEnd g.Q.Pause.count c.in-Works.working back.ended back.pause c.take_back-kept.ensures turn_limit idle_limit paused turned
    (rw c.in-Works.is at limits))

pub returns-in-Works-clause-drove : goal.returns-in-Works-clause-drove
returns-in-Works-clause-drove g c side turn_limit idle_limit paused turned job limits =
    let back = c.take_back-kept.result.1 in
    works_drove g.T.AppTask.stands g.T.AppTask.answers g.E.AppEnd g.Q.Pause.count c.in-Works.working back.ended back.pause c.take_back-kept.ensures turn_limit idle_limit paused turned
    (rw c.in-Works.is at limits) side (rw c.in-Works.is at job)
