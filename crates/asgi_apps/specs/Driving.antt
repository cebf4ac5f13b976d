-- A task was driven within two limits.
use Rattle.std.specs.Prelude.{◌≡◌, ℕ, ◌⊎◌, List}
use Rattle.asgi_io.specs.declared.turns.Turn.{Turn}
use Rattle.asgi_io.specs.Turns.{CountsTurns}
use Rattle.asgi_types.specs.declared.end_kind.EndKind.{EndKind}
use Rattle.asgi_types.specs.declared.end_kind.EndKind.TheVariants.{Idle}

-- This many polls were made within these limits, while the count of pauses rose like this, and the task ended as `kind`.
pub record IsDriven (turn_limit idle_limit pauses_before pauses_after turns : ℕ) (kind : EndKind) : Type 0 where
  -- each poll is a turn
  pub turned : List Turn
  pub idle : ℕ
  pub counts : CountsTurns turn_limit idle_limit turned pauses_before pauses_after turns idle
  -- only a limit ends a task as `Idle`
  pub stopped : kind ≡ Idle → (turns ≡ turn_limit) ⊎ (idle ≡ idle_limit)
