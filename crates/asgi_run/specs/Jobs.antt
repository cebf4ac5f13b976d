-- The task of an exchange with a thread that is kept.
use Rattle.std.specs.Prelude.{◌≡◌, ℕ, List, Some}
use Rattle.rtrb.specs.Ring.{sent}
use Rattle.asgi_types.specs.declared.incoming.Incoming.{Incoming}
use Rattle.asgi_types.specs.declared.outgoing.Outgoing.{Outgoing}
use Rattle.asgi_types.specs.declared.scope.Kind.{Kind}
use Rattle.asgi_pipes.specs.declared.ends.AppEnd.{Ghosts}
use Rattle.asgi_kept.specs.Answers.{last_of}
use Rattle.asgi_kept.specs.declared.caller.Working.{Working}
use Rattle.asgi_kept.specs.declared.job.Job.{Job}
use Rattle.asgi_run.specs.declared.apart.JobState.{JobState}
use Rattle.asgi_run.specs.declared.apart.JobState.TheVariants.{Works, Done}
use Rattle.asgi_run.specs.declared.runner.AppSide.{AppSide}
use Rattle.asgi_run.specs.declared.runner.AppSide.TheVariants.{Runs, HasEnded}
use Rattle.asgi_run.specs.Running.{OfEnd, MayRun}

-- this job is the last one that the thread was given
abbrev pub IsLastJob : {T E Q : Type 0} → Working T E Q → Job T E Q → Type 0
IsLastJob working job = last_of (sent working.giver) ≡ Some job

-- The task that runs is with the thread; the one that had ended is not.
abbrev pub HasJob : {T E Q : Type 0} → JobState T E Q → AppSide T E → Type 0
HasJob (Works working) (Runs running) = (job : Job _ _ _) × IsLastJob working job × (job.running ≡ running)
HasJob (Works working) (HasEnded app_end kind) = ⊥
HasJob (Done ran) (Runs running) = ⊥
HasJob (Done ran) (HasEnded app_end kind) = (ran.app_end ≡ app_end) × (ran.kind ≡ kind)

-- The thread's limits are these, and this many pauses were counted before; or it has nothing to do, and these counts stay.
abbrev pub HasLimits : {T E Q : Type 0} → (Q → ℕ) → JobState T E Q → (turn_limit idle_limit paused turned : ℕ) → Type 0
HasLimits count (Works working) turn_limit idle_limit paused turned =
    (job : Job _ _ _) × IsLastJob working job × (job.turns ≡ turn_limit) × (job.idle_turns ≡ idle_limit) × (count job.pause ≡ paused)
HasLimits count (Done ran) turn_limit idle_limit paused turned = (count ran.pause ≡ paused) × (ran.turns ≡ turned)

-- An exchange began with this side: its task may run, and is with the thread if it does, and the two ends are of one pair.
abbrev pub IsApart : {C T E Q : Type 0} → (C → E → Type 0) → (T → Kind → List Incoming → List Outgoing → Type 0) → Ghosts E → C → JobState T E Q → AppSide T E → Type 0
IsApart is_pair stands ends conn job side = HasJob job side × OfEnd side (λ app. is_pair conn app) × MayRun stands ends side
