-- What a poll does to the end that a task borrows, and how a task ends.
use Rattle.std.specs.Prelude.{◌≡◌, Bool, true, false, List, [], ◌∷◌, Option, Some, None, Result, Ok, Err}
use mathlib.Core.List.{IsPrefix}
use Rattle.futures.specs.declared.task.Poll.{Poll}
use Rattle.futures.specs.declared.task.Poll.TheVariants.{Ready, Pending}
use Rattle.asgi_io.specs.declared.turns.Turn.{Turn}
use Rattle.asgi_io.specs.declared.turns.Turn.TheVariants as turn
use Rattle.asgi_types.specs.declared.scope.Kind.{Kind}
use Rattle.asgi_types.specs.declared.incoming.Incoming.{Incoming}
use Rattle.asgi_types.specs.declared.outgoing.Outgoing.{Outgoing}
use Rattle.asgi_pipes.specs.declared.ends.AppEnd.{Ghosts}
use Rattle.asgi_types.specs.declared.end_kind.EndKind.{EndKind}
use Rattle.asgi_types.specs.declared.end_kind.EndKind.TheVariants.{Returned, Faulted, Idle}

-- An application's end went on: more may have been received and sent, it is ended like this, and nothing else of it changed.
pub record GoesOn {E : Type 0} (ends : Ghosts E) (ended : Option EndKind) (old new : E) : Type 0 where
  pub heard : IsPrefix (ends.heard old) (ends.heard new)
  pub pulled : IsPrefix (ends.pulled old) (ends.pulled new)
  pub said : IsPrefix (ends.said old) (ends.said new)
  pub ended_is : ends.ended new ≡ ended
  pub kind : ends.kind new ≡ ends.kind old
  pub facts : ends.facts new ≡ ends.facts old
  pub tag : ends.tag new ≡ ends.tag old
  pub ring : ends.ring new ≡ ends.ring old
  pub capacity : ends.capacity new ≡ ends.capacity old
  pub arrivals : ends.arrivals new ≡ ends.arrivals old
  pub vacancies : ends.vacancies new ≡ ends.vacancies old

-- nothing was received or sent, and nothing came through the queue
abbrev pub IsStill : {E : Type 0} → Ghosts E → E → E → Type 0
IsStill ends old new = (ends.heard new ≡ ends.heard old) × (ends.pulled new ≡ ends.pulled old) × (ends.said new ≡ ends.said old)

-- The task may be polled with this end: `finish` was not called, and the task stands for what was received and sent.
pub record MayGoOn {T E : Type 0} (stands : T → Kind → List Incoming → List Outgoing → Type 0) (ends : Ghosts E) (task : T) (app_end : E) : Type 0 where
  pub not_ended : ends.ended app_end ≡ None
  pub stands_for : stands task (ends.kind app_end) (ends.heard app_end) (ends.said app_end)

-- how the result of a poll ends the task
abbrev pub end_of : {F : Type 0} → Poll (Result (Unit {0}) F) → Option EndKind
end_of Pending = None
end_of (Ready (Ok done)) = Some Returned
end_of (Ready (Err fault)) = Some Faulted

-- how the task itself ended: one that a limit stopped was still running
abbrev pub own_end : EndKind → Option EndKind
own_end Returned = Some Returned
own_end Faulted = Some Faulted
own_end Idle = None

-- what a task promises as it is now is within what it promised before
abbrev pub IsWithin : {T : Type 0} → (T → List Incoming → List Outgoing → Option EndKind → Type 0) → T → T → Type 0
IsWithin answers now before = (heard : List Incoming) (said : List Outgoing) (ended : Option EndKind) → answers now heard said ended → answers before heard said ended

-- a poll is a turn, which is idle if the end did not move
abbrev pub turn_of : Bool → Turn
turn_of true = turn.Moved
turn_of false = turn.Idle

-- the turn at which the task ended is the last one
abbrev pub turn_after : Option EndKind → Bool → Turn
turn_after None moved = turn_of moved
turn_after (Some kind) moved = turn.Last

-- What a turn of a task is: a poll, and then the end was put, if the task ended so, or asked whether it moved.
pub record IsTurn {E : Type 0} (ends : Ghosts E) (is : Turn) (ended : Option EndKind) (old polled new : E) : Type 0 where
  -- the end as the poll left it
  pub poll : GoesOn ends (ends.ended polled) old polled
  -- it was idle exactly if the end did not move, and the last exactly if the task ended
  pub is_turn : is ≡ turn_after ended (ends.has_moved polled)
  pub still : IsStill ends polled new
  pub asked : ended ≡ None → ends.has_moved new ≡ false

-- These turns were taken, each from the end that the one before it left. The second list has the end as each poll left it.
abbrev pub TakeTurns : {E : Type 0} → Ghosts E → List Turn → List E → E → E → Type 0
TakeTurns ends [] [] old new = new ≡ old
TakeTurns {E} ends (is ∷ more) (polled ∷ left) old new = (mid : E) × IsTurn ends is (ends.ended mid) old polled mid × TakeTurns ends more left mid new
TakeTurns ends [] (polled ∷ left) old new = ⊥
TakeTurns ends (is ∷ more) [] old new = ⊥
