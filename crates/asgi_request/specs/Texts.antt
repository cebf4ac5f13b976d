-- Texts that end in a way of their own: a head, a line, a trailer section. Each is judged only once it is whole.
use Rattle.std.specs.Prelude.{◌≡◌, ℕ, ◌<◌, ◌≤◌, List, [], ◌++◌, length, take}

-- The bytes begin with this text, and rest follows: they begin with no shorter text that ends that way.
pub record IsFirst (Ends : List ℕ → Type 0) (bytes text rest : List ℕ) : Type 0 where
  pub splits : bytes ≡ text ++ rest
  pub ends : Ends text
  pub shortest : (shorter more : List ℕ) → text ≡ shorter ++ more → Ends shorter → more ≡ []

-- The same, within the limit.
abbrev pub IsFirstWithin : (List ℕ → Type 0) → ℕ → List ℕ → List ℕ → List ℕ → Type 0
IsFirstWithin Ends limit bytes text rest = IsFirst Ends bytes text rest × (length text ≤ limit)

-- The bytes begin with no such text.
abbrev pub HasNone : (List ℕ → Type 0) → List ℕ → Type 0
HasNone Ends bytes = (text rest : List ℕ) → bytes ≡ text ++ rest → ¬ (Ends text)

-- At least limit bytes are there, and the first limit of them begin with no such text.
abbrev pub IsTooLong : (List ℕ → Type 0) → ℕ → List ℕ → Type 0
IsTooLong Ends limit bytes = (limit ≤ length bytes) × HasNone Ends (take limit bytes)

-- The bytes may still become such a text.
abbrev pub IsUnfinished : (List ℕ → Type 0) → ℕ → List ℕ → Type 0
IsUnfinished Ends limit bytes = (length bytes < limit) × HasNone Ends bytes
