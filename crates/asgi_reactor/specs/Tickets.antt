-- How many connections several threads accept together: the tickets of a quota, and what each thread has taken of them.
use Rattle.std.specs.Prelude.{◌≡◌, ℕ, ◌+◌, ◌^◌, ◌<◌, Bool, true, List, [], ◌∷◌, length, slice_index}
use mathlib.Core.Option.{some}
use lib.ListN.{get_elem?}
use Rattle.atomic_table.specs.Table.{State}
use Rattle.asgi_reactor.specs.declared.quota.Tally.{Tally}

abbrev pub tally : ℕ → ℕ → Bool → Tally
tally held spent over = record { held = held; spent = spent; over = over }

-- of all threads together
abbrev pub total : (Tally → ℕ) → List Tally → ℕ
total f [] = 0
total f (one ∷ others) = f one + total f others

-- What holds at any moment. The first word is how many tickets nobody has taken, and the second how many were not spent.
pub record IsFair (count : ℕ) (s : State (Unit {0}) Tally) : Type 0 where
  pub fits : count < 2 ^ 64
  pub two : length s.words ≡ 2
  -- those that nobody has taken, those in hand and those that were spent are all that were set
  pub free : slice_index s.words 0 + (total (λ v. v.held) s.views + total (λ v. v.spent) s.views) ≡ count
  pub left : slice_index s.words 1 + total (λ v. v.spent) s.views ≡ count
  -- a thread that found all of them spent was right
  pub over : (thread : ℕ) (v : Tally) → get_elem? s.views thread ≡ some v → v.over ≡ true → slice_index s.words 1 ≡ 0
