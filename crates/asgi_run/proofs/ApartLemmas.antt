-- A task that was driven in another thread, and its end, as a runner's side.
use Rattle.std.proofs.Common.{◌≡◌, ℕ, Option, Some, None, IsSomeAnd, List, refl, subst}
use Rattle.asgi_types.specs.declared.{end_kind.EndKind.EndKind, incoming.Incoming.Incoming, outgoing.Outgoing.Outgoing, scope.Kind.Kind}
use Rattle.asgi_pipes.specs.declared.ends.AppEnd.{Ghosts}
use Rattle.asgi_apps.specs.{declared.running.Ended.Ended, declared.running.Lent.Lent, declared.running.Running.Running, Driving.IsDriven, Ends.GoesOn, Ends.own_end}
use Rattle.asgi_kept.specs.{Answers.Answered, declared.caller.Working.Working, declared.job.Job.Job}
use Rattle.asgi_run.specs.declared.{apart.JobState.TheVariants.Works, apart.JobState.TheVariants.Done, apart.Ran.Ran, runner.AppSide.AppSide, runner.AppSide.TheVariants.Runs}
use Rattle.asgi_run.specs.{declared.runner.AppSide.TheVariants.HasEnded, Jobs.HasJob, Jobs.HasLimits, Jobs.IsLastJob, Running.DrivesRunning, Running.EndsSo, Running.IsOfRequest, Running.MayRun}

module _ {T E Q : Type 0} (stands : T → Kind → List Incoming → List Outgoing → Type 0) (answers : T → List Incoming → List Outgoing → Option EndKind → Type 0) (ends : Ghosts E) (count : Q → ℕ) where
  pub done_so : (ran : Ran T E Q) (side : AppSide T E) → HasJob (Done ran) side → MayRun stands ends side → EndsSo stands answers ends side ran.app_end ran.kind
  done_so ran (Runs running) job may = absurd job
  done_so ran (HasEnded was kind) job may = rw (job.0, job.1) ((may, refl, (refl, refl, refl), (refl, refl)), refl)

  pub done_drove : (ran : Ran T E Q) (side : AppSide T E) (turn_limit idle_limit paused turned : ℕ) → HasJob (Done ran) side → HasLimits count (Done ran) turn_limit idle_limit paused turned
      → DrivesRunning side turn_limit idle_limit paused (count ran.pause) turned ran.turns ran.kind
  done_drove ran (Runs running) turn_limit idle_limit paused turned job limits = absurd job
  done_drove ran (HasEnded was kind) turn_limit idle_limit paused turned job limits = limits

  -- what the thread returned of its last job
  module _ (working : Working T E Q) (ended : Ended T E) (pause : Q) (returns : (job : Job T E Q) → IsLastJob working job → Answered answers ends count job ended pause) where
    lent_so : (lent : Option (Lent T E)) → IsSomeAnd lent (λ was. GoesOn ends (Some ended.kind) was.app_end ended.app_end)
        → IsSomeAnd lent (λ was. answers was.task (ends.heard ended.app_end) (ends.said ended.app_end) (own_end ended.kind))
        → IsSomeAnd lent (λ was. (ends.ended ended.app_end ≡ Some ended.kind) × answers was.task (ends.heard ended.app_end) (ends.said ended.app_end) (own_end ended.kind)
        × IsOfRequest ends was.app_end ended.app_end) × IsSomeAnd lent (λ was. ends.tag ended.app_end ≡ ends.tag was.app_end)
    lent_so None goes kept = absurd goes
    lent_so (Some was) goes kept = ((goes.ended_is, kept, (goes.kind, goes.facts)), goes.tag)

    pub works_so : (side : AppSide T E) → HasJob (Works working) side → EndsSo stands answers ends side ended.app_end ended.kind
    works_so (Runs running) job =
        let a = returns job.0 job.1 in subst (λ (r : Running T E). EndsSo stands answers ends (Runs r) ended.app_end ended.kind) job.2 (lent_so job.0.running.lent a.end a.promise)
    works_so (HasEnded was kind) job = absurd job

    module _ (turn_limit idle_limit paused turned : ℕ) (limits : HasLimits count (Works working) turn_limit idle_limit paused turned) where
      pub works_within : IsDriven turn_limit idle_limit paused (count pause) ended.turns ended.kind
      works_within = let a = (returns limits.0 limits.1).turns in rw (← limits.2, ← limits.3, ← limits.4) a

      pub works_drove : (side : AppSide T E) → HasJob (Works working) side → DrivesRunning side turn_limit idle_limit paused (count pause) turned ended.turns ended.kind
      works_drove (Runs running) job = works_within
      works_drove (HasEnded was kind) job = absurd job
