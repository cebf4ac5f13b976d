-- How a count rises. It stops at the greatest `u64`.
use Rattle.std.specs.Prelude.{◌≡◌, ℕ, ◌+◌, ◌-◌, ◌^◌, ◌<◌, ◌≤◌, ◌⊎◌, min, List, length, Result, Ok, Err}

-- n as a count, which stops at the greatest `u64`
abbrev pub counted : ℕ → ℕ
counted n = min n (2 ^ 64 - 1)

-- over several calls: the count rose by n, or stopped at the greatest `u64`
abbrev pub RoseExactly : ℕ → ℕ → ℕ → Type 0
RoseExactly n old new = counted new ≡ counted (old + n)

-- a call that failed, or that took nothing of some bytes
abbrev pub IsFailure : {E : Type 0} → List ℕ → Result ℕ E → Type 0
IsFailure bytes (Ok n) = (n ≡ 0) × (0 < length bytes)
IsFailure bytes (Err e) = Unit {0}

-- over several calls: the count rose by n or more, and a count that stopped is taken as risen by any amount
abbrev pub RoseBy : ℕ → ℕ → ℕ → Type 0
RoseBy n old new = (old + n ≤ new) ⊎ (2 ^ 64 - 1 ≤ new)

-- the count rises by one at a failure, and stays at any other call
pub record CountsFailures {E : Type 0} (old new : ℕ) (bytes : List ℕ) (result : Result ℕ E) : Type 0 where
  pub rises : IsFailure bytes result → new ≡ min (old + 1) (2 ^ 64 - 1)
  pub stays : (IsFailure bytes result → ⊥) → new ≡ old
