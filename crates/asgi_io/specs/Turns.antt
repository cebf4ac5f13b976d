-- What is known of the turns of a loop. A turn moves something, or is idle, or is the last, with nothing to come.
use Rattle.std.specs.Prelude.{◌≡◌, ℕ, ◌+◌, ◌<◌, ◌≤◌, Bool, true, false, List, [], ◌∷◌, length, take, count_by}
use Rattle.asgi_io.specs.declared.turns.Turn.{Turn}
use Rattle.asgi_io.specs.declared.turns.Turn.TheVariants.{Moved, Idle, Last}
use Rattle.asgi_io.specs.Counting.{RoseExactly}

-- the idle turns in a row after one more turn: one that moved something ends the row, the last one does not
abbrev pub row_after : ℕ → Turn → ℕ
row_after row Moved = 0
row_after row Idle = row + 1
row_after row Last = row

-- the idle turns in a row at the end, if row of them stand before
abbrev pub idle_after : ℕ → List Turn → ℕ
idle_after row [] = row
idle_after row (turn ∷ turns) = idle_after (row_after row turn) turns

-- the idle turns in a row at the end
abbrev pub idle_in_a_row : List Turn → ℕ
idle_in_a_row turned = idle_after 0 turned

abbrev pub is_idle : Turn → Bool
is_idle Idle = true
is_idle _ = false

-- These turns were taken, within these limits, while the count of pauses rose: each is counted, and a pause was made
-- for each idle one and for no other.
pub record CountsTurns (turn_limit idle_limit : ℕ) (turned : List Turn) (pauses_before pauses_after turns idle : ℕ) : Type 0 where
  pub turns_is : turns ≡ length turned
  pub idle_is : idle ≡ idle_in_a_row turned
  pub pauses : RoseExactly (count_by is_idle turned) pauses_before pauses_after
  pub in_turns : turns ≤ turn_limit
  pub in_idle : idle ≤ idle_limit
  -- no turn follows one at which the idle turns in a row reached their limit
  pub stops : (k : ℕ) → k < length turned → idle_in_a_row (take k turned) < idle_limit
