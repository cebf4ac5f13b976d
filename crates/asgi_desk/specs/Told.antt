-- What it means that a teller got reports in the order of their numbers.
use Rattle.std.specs.Prelude.{◌≡◌, ℕ, List, [], ◌∷◌, map}
use Rattle.std.specs.List.{range_with_len}

module _ {N T : Type 0} (tells : T → T → ℕ → N → Type 0) where
  -- from the teller as it was to the teller as it is, it got each of these reports once, one after another
  abbrev pub Told : T → T → List (ℕ × N) → Type 0
  Told was is [] = is ≡ was
  Told was is (r ∷ rs) = (mid : T) × tells was mid r.0 r.1 × Told mid is rs

abbrev pub numbers_of : {A : Type 0} → List (ℕ × A) → List ℕ
numbers_of xs = map (λ x. x.0) xs

-- the numbers 1, 2, 3 .. up to n
abbrev pub one_to : ℕ → List ℕ
one_to n = range_with_len 1 n
