-- A turn of a task that is driven: words of private functions.
use Rattle.std.specs.Prelude.{◌≡◌, List, [], ◌∷◌, ◌++◌, Option, None, ⊤}
use Rattle.asgi_io.specs.declared.turns.Turn.{Turn}
use Rattle.asgi_io.specs.declared.turns.Turn.TheVariants.{Last}
use Rattle.asgi_types.specs.declared.scope.Kind.{Kind}
use Rattle.asgi_types.specs.declared.incoming.Incoming.{Incoming}
use Rattle.asgi_types.specs.declared.outgoing.Outgoing.{Outgoing}
use Rattle.asgi_types.specs.declared.end_kind.EndKind.{EndKind}
use Rattle.asgi_pipes.specs.declared.ends.AppEnd.{Ghosts}
use Rattle.asgi_apps.specs.declared.running.Driven.{Driven}
use Rattle.asgi_apps.specs.declared.running.Lent.{Lent}
use Rattle.asgi_apps.specs.declared.running.Took.{Took}
use Rattle.asgi_apps.specs.declared.running.Took.TheVariants.{Runs, Ends}
use Rattle.asgi_apps.specs.Ends.{GoesOn, IsTurn, IsWithin, MayGoOn}

-- the turn that was taken
abbrev pub turn_in : Took → Turn
turn_in (Runs turn) = turn
turn_in (Ends kind) = Last

-- what holds if the task runs on, and what if it has ended
abbrev pub IfRuns : Took → Type 0 → Type 0
IfRuns (Runs turn) P = P
IfRuns (Ends kind) P = ⊤

abbrev pub IfEnds : Took → (EndKind → Type 0) → Type 0
IfEnds (Runs turn) P = ⊤
IfEnds (Ends kind) P = P kind

-- from a task that may be polled to one that may be polled again
pub record RunsOn {T E : Type 0} (stands : T → Kind → List Incoming → List Outgoing → Type 0) (answers : T → List Incoming → List Outgoing → Option EndKind → Type 0) (ends : Ghosts E)
    (old new : Lent T E) : Type 0 where
  pub may : MayGoOn stands ends new.task new.app_end
  pub follows : GoesOn ends None old.app_end new.app_end
  pub within : IsWithin answers new.task old.task

-- one turn, which the list of its turns has, and that of its end as each poll left it
pub record Turned {T E : Type 0} (ends : Ghosts E) (is : Turn) (old new : Driven T E) : Type 0 where
  pub polled : E
  pub did : new.did.items ≡ old.did.items ++ is ∷ []
  pub left : new.left.items ≡ old.left.items ++ polled ∷ []
  pub turn : IsTurn ends is (ends.ended new.lent.app_end) old.lent.app_end polled new.lent.app_end
