use Rattle.rtrb.specs.Ring.{received}
use Rattle.asgi_kept.specs.Answers.{Answered}
use Rattle.asgi_kept.proofs.ListLemmas.{of_last}
use Rattle.asgi_kept.proofs.worker.answer_one.Goals as goal

pub returns-clause-answered : goal.returns-clause-answered
returns-clause-answered g c =
    of_last (received c.args.go.jobs) (received c.pop_known-job.new.self) c.pop_known-job.result
    (λ job. Answered g.T.AppTask.answers g.E.AppEnd g.P.Pause.count job c.drive_job-back.result.ended c.drive_job-back.result.pause)
    c.pop_known-job.ensures.received.0 c.drive_job-back.ensures
