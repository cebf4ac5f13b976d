-- The counts of pauses before the first connection.
use Rattle.std.proofs.Common.{◌≡◌, ℕ, List, [], ◌∷◌, length, All, map, refl, ap₂, replicate}
use Rattle.std.proofs.lemmas.List.Elements.{All-head, All-tail}

-- each count is none
pub all_none : {A : Type 0} (count : A → ℕ) (xs : List A) → All (λ x. count x ≡ 0) xs → map count xs ≡ replicate (length xs) 0
all_none count [] all = refl
all_none count (x ∷ xs) all =
    ap₂ (λ (n : ℕ) (l : List ℕ). n ∷ l) (All-head (λ x. count x ≡ 0) x xs all) (all_none count xs (All-tail (λ x. count x ≡ 0) x xs all))
