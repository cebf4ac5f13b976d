-- What it means that several parts were worked at.
use Rattle.std.specs.Prelude.{◌≡◌, ⊤, Bool, true, false, List, [], ◌∷◌}

-- each of the first list is in this relation to the one at its place in the second, and there are no others
abbrev pub Each : {W : Type 0} → (W → W → Type 0) → List W → List W → Type 0
Each R [] [] = ⊤
Each R (was ∷ old) (is ∷ new) = R was is × Each R old new
Each R [] (is ∷ new) = ⊥
Each R (was ∷ old) [] = ⊥

-- once the gate has been opened or shut: the part was worked at, or is as it was
abbrev pub Did : {W : Type 0} → (W → W → Type 0) → Bool → W → W → Type 0
Did works true was is = works was is
Did works false was is = is ≡ was
