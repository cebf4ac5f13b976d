-- A loop that stopped at its limit of idle turns has paused at least that often.
use Rattle.std.proofs.Common.{◌≡◌, ℕ, ◌+◌, ◌-◌, ◌^◌, ◌≤◌, List, [], ◌∷◌, ◌++◌, sym, subst, inl, inr, arith}
use Rattle.std.specs.Prelude.{count_by}
use Rattle.std.proofs.lemmas.Bool.{cases_lt}
use Rattle.std.proofs.lemmas.List.Sums.{sum_by-append}
use Rattle.asgi_io.specs.declared.turns.Turn.{Turn}
use Rattle.asgi_io.specs.declared.turns.Turn.TheVariants.{Moved, Idle, Last}
use Rattle.asgi_io.specs.Counting.{RoseBy, RoseExactly}
use Rattle.asgi_io.specs.Turns.{idle_after, is_idle, CountsTurns}

-- the idle turns in a row are some of all idle turns
row_is_some : (row : ℕ) (turned : List Turn) → idle_after row turned ≤ row + count_by is_idle turned
row_is_some row [] = omega arith
row_is_some row (Moved ∷ turned) = let rest = row_is_some 0 turned in omega arith
row_is_some row (Idle ∷ turned) =
    let rest : idle_after row (Idle ∷ turned) ≤ row + 1 + count_by is_idle turned = row_is_some (row + 1) turned in
    let more : count_by is_idle (Idle ∷ turned) ≡ 1 + count_by is_idle turned = sum_by-append _ (Idle ∷ []) turned in omega arith
row_is_some row (Last ∷ turned) = row_is_some row turned

rose_exactly : (n m old new : ℕ) → n ≤ m → RoseExactly m old new → RoseBy n old new
rose_exactly n m old new less rose = elim (cases_lt new (2 ^ 64 - 1)) [ inl low ↦ inl (omega (arith, rose)) | inr high ↦ inr high ]

pub paused_for_each : (turn_limit idle_limit before after turns idle : ℕ) (turned : List Turn)
    → CountsTurns turn_limit idle_limit turned before after turns idle → idle ≡ idle_limit → RoseBy idle_limit before after
paused_for_each turn_limit idle_limit before after turns idle turned counts at_limit =
    let some = row_is_some 0 turned in
    rose_exactly idle_limit _ before after (omega (arith, some, at_limit, counts.idle_is)) counts.pauses

-- one more turn, by limits that are known under two names
pub counts_more : (turn_limit idle_limit turn_held idle_held before now after turns idle turns_then idle_then : ℕ) (turned : List Turn) (t : Turn)
    → turn_held ≡ turn_limit → idle_held ≡ idle_limit → CountsTurns turn_limit idle_limit turned before now turns idle
    → ((turned : List Turn) (before : ℕ) → CountsTurns turn_held idle_held turned before now turns idle → CountsTurns turn_held idle_held (turned ++ t ∷ []) before after turns_then idle_then)
    → CountsTurns turn_limit idle_limit (turned ++ t ∷ []) before after turns_then idle_then
counts_more turn_limit idle_limit turn_held idle_held before now after turns idle turns_then idle_then turned t p q counts more =
    let held = subst (λ (k : ℕ). CountsTurns turn_held k turned before now turns idle) (sym q) (subst (λ (k : ℕ). CountsTurns k idle_limit turned before now turns idle) (sym p) counts) in
    subst (λ (k : ℕ). CountsTurns k idle_limit (turned ++ t ∷ []) before after turns_then idle_then) p
    (subst (λ (k : ℕ). CountsTurns turn_held k (turned ++ t ∷ []) before after turns_then idle_then) q (more turned before held))
