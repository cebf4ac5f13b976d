-- The turns that a start or a stop takes.
use Rattle.std.specs.Prelude.{◌≡◌, ℕ, ◌⊎◌, List, [], ◌∷◌, ◌++◌, Option, Some}
use Rattle.asgi_io.specs.declared.turns.Turn.{Turn}
use Rattle.asgi_io.specs.Counting.{RoseBy}
use Rattle.asgi_io.specs.Turns.{CountsTurns}
use Rattle.asgi_pipes.specs.declared.plain_app.PlainApp.{PlainApp}
use Rattle.asgi_pipes.specs.contracts.plain_app.PlainAppAppEnd.TheImpl as app_end
use Rattle.asgi_apps.specs.Ends.{IsTurn}
use Rattle.asgi_lifespan.specs.declared.hosted.Hosted.{Hosted}

-- Turns were taken within these limits, each one poll of the task, with a pause after each idle one. A call that gave up returned
-- how many they were, and a limit was reached; if it is the one of idle turns, there were at least as many pauses.
pub record TakesTurns (turn_limit idle_limit pauses_before pauses_after : ℕ) (gave_up : Option ℕ) : Type 0 where
  pub turned : List Turn
  pub turns : ℕ
  pub idle : ℕ
  pub counts : CountsTurns turn_limit idle_limit turned pauses_before pauses_after turns idle
  pub at_limit : (told : ℕ) → gave_up ≡ Some told → (told ≡ turns) × ((turns ≡ turn_limit) ⊎ ((idle ≡ idle_limit) × RoseBy idle_limit pauses_before pauses_after))

-- One turn of a task, which the list of its turns has, and that of its end as each poll left it.
pub record Turned {T : Type 0} (is : Turn) (old new : Hosted T) : Type 0 where
  pub polled : PlainApp
  pub did : new.did.items ≡ old.did.items ++ is ∷ []
  pub left : new.left.items ≡ old.left.items ++ polled ∷ []
  pub turn : IsTurn app_end.ghosts is new.ended old.app_end polled new.app_end

-- these turns were taken, each from where the one before it left the end of the task
abbrev pub HasTurned : {T : Type 0} → List Turn → Hosted T → Hosted T → Type 0
HasTurned [] old new = (new.app_end ≡ old.app_end) × (new.did.items ≡ old.did.items) × (new.left.items ≡ old.left.items)
HasTurned {T} (is ∷ more) old new = (mid : Hosted T) × Turned is old mid × HasTurned more mid new
