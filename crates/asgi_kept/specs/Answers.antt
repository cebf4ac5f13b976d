-- What a kept thread hands back of a job, by what its two rings carried.
use Rattle.std.specs.Prelude.{◌≡◌, ℕ, List, [], ◌∷◌, Option, Some, None, IsSomeAnd}
use Rattle.asgi_io.specs.Turns.{CountsTurns, idle_in_a_row}
use Rattle.asgi_types.specs.declared.incoming.Incoming.{Incoming}
use Rattle.asgi_types.specs.declared.outgoing.Outgoing.{Outgoing}
use Rattle.asgi_types.specs.declared.scope.Kind.{Kind}
use Rattle.asgi_types.specs.declared.end_kind.EndKind.{EndKind}
use Rattle.asgi_pipes.specs.declared.ends.AppEnd.{Ghosts}
use Rattle.asgi_pipes.specs.RingPairs.{Ring}
use Rattle.asgi_apps.specs.declared.running.Ended.{Ended}
use Rattle.asgi_apps.specs.Driving.{IsDriven}
use Rattle.asgi_apps.specs.Ends.{GoesOn, IsStill, MayGoOn, TakeTurns, own_end}
use Rattle.asgi_kept.specs.declared.job.Job.{Job}

abbrev pub last_of : {A : Type 0} → List A → Option A
last_of [] = None
last_of (x ∷ []) = Some x
last_of (x ∷ y ∷ ys) = last_of (y ∷ ys)

-- the job's task may be polled with its end
abbrev pub MayDrive : {T E P : Type 0} → (T → Kind → List Incoming → List Outgoing → Type 0) → Ghosts E → Job T E P → Type 0
MayDrive stands ends job = IsSomeAnd job.running.lent (λ was. MayGoOn stands ends was.task was.app_end)

-- The job was driven: its end went on and was ended like this, what its application promises holds of what was received and sent
-- there, and this many polls were made within its limits while its pause counted.
pub record Answered {T E P : Type 0} (answers : T → List Incoming → List Outgoing → Option EndKind → Type 0) (ends : Ghosts E) (count : P → ℕ)
    (job : Job T E P) (ended : Ended T E) (pause : P) : Type 0 where
  pub end : IsSomeAnd job.running.lent (λ was. GoesOn ends (Some ended.kind) was.app_end ended.app_end)
  pub promise : IsSomeAnd job.running.lent (λ was. answers was.task (ends.heard ended.app_end) (ends.said ended.app_end) (own_end ended.kind))
  pub turns : IsDriven job.turns job.idle_turns (count job.pause) (count pause) ended.turns ended.kind
  -- the turns that are counted are those that the polls were
  pub did : CountsTurns job.turns job.idle_turns ended.did.items (count job.pause) (count pause) ended.turns (idle_in_a_row ended.did.items)
  pub took : IsSomeAnd job.running.lent (λ was. (last : E) × TakeTurns ends ended.did.items ended.left.items was.app_end last × IsStill ends last ended.app_end)

-- the last of these jobs was driven, and its task kept its promise
abbrev pub HasAnswered : {T E P : Type 0} → (T → List Incoming → List Outgoing → Option EndKind → Type 0) → Ghosts E → (P → ℕ) → List (Job T E P) → Ended T E → P → Type 0
HasAnswered answers ends count jobs ended pause = (job : Job _ _ _) → last_of jobs ≡ Some job → Answered answers ends count job ended pause

-- the ring that the first of a list names
abbrev pub home_of : {A : Type 0} → (A → Ring) → List A → Option Ring
home_of named [] = None
home_of named (x ∷ xs) = Some (named x)
