-- A table of seats and what has ended in it, whatever a seat holds.
use Rattle.std.specs.Prelude.{◌≡◌, ℕ, List, length, Option, Some, None, slice_get}

-- Each one that came has ended once, at its own place, and as it was promised.
pub record EachOnce {A E : Type 0} (promise : A → E → Type 0) (came : List A) (ended : List (Option E)) : Type 0 where
  pub long : length ended ≡ length came
  pub each : (k : ℕ) (one : A) → slice_get came k ≡ Some one → (end : E) × (slice_get ended k ≡ Some (Some end)) × promise one end

-- Each one that came sits in one seat, where it stands as it should, or has ended as it was promised. One that sits has not ended.
pub record Seating {A S E : Type 0} (number : S → ℕ) (at : A → S → Type 0) (promise : A → E → Type 0) (came : List A) (seats : ℕ → Option S) (ended : List (Option E)) : Type 0 where
  pub long : length ended ≡ length came
  pub sitting : (i : ℕ) (seat : S) → seats i ≡ Some seat
      → (one : A) × (slice_get came (number seat) ≡ Some one) × (slice_get ended (number seat) ≡ Some None) × at one seat
  pub apart : (i j : ℕ) (seat other : S) → seats i ≡ Some seat → seats j ≡ Some other → number seat ≡ number other → i ≡ j
  pub each : (k : ℕ) (end : E) (one : A) → slice_get ended k ≡ Some (Some end) → slice_get came k ≡ Some one → promise one end
  pub waits : (k : ℕ) → slice_get ended k ≡ Some None → (i : ℕ) × (seat : S) × (seats i ≡ Some seat) × (number seat ≡ k)

-- What has ended, in the order of the ends: each end is of one that came, as it was promised, and no two are of the same one.
pub record EndsOf {A E : Type 0} (number : E → ℕ) (promise : A → E → Type 0) (came : List A) (ends : List E) : Type 0 where
  pub each : (i : ℕ) (end : E) → slice_get ends i ≡ Some end → (one : A) × (slice_get came (number end) ≡ Some one) × promise one end
  pub once : (i j : ℕ) (end other : E) → slice_get ends i ≡ Some end → slice_get ends j ≡ Some other → number end ≡ number other → i ≡ j

-- ---- a word of private functions

-- What stands at the places of numbers is what has ended, once each.
pub record KeepsEnds {E : Type 0} (number : E → ℕ) (places : List (Option E)) (ends : List E) : Type 0 where
  pub found : (k : ℕ) (end : E) → slice_get places k ≡ Some (Some end) → (number end ≡ k) × (i : ℕ) × (slice_get ends i ≡ Some end)
  pub placed : (i : ℕ) (end : E) → slice_get ends i ≡ Some end → slice_get places (number end) ≡ Some (Some end)
  pub once : (i j : ℕ) (end other : E) → slice_get ends i ≡ Some end → slice_get ends j ≡ Some other → number end ≡ number other → i ≡ j
