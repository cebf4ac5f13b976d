-- A queue keeps its order: what went in is what came out, and then what is left.
use Rattle.std.specs.Prelude.{◌≡◌, ℕ, ◌+◌, ◌≤◌, Bool, true, false, List, ◌++◌, length}

-- The places that are open: one for each event of the ring, and the reserved one only for the very last item, which is
-- the disconnect in one direction and the end of the task in the other.
abbrev pub open_places : ℕ → (is_last_in : Bool) → ℕ
open_places ring false = ring
open_places ring true = ring + 1

-- `count` items are left of what was put, each in a place
abbrev pub KeepsOrder : {A : Type 0} → ℕ → List A → List A → ℕ → Type 0
KeepsOrder {A} places put got count = (left : List A) × (put ≡ got ++ left) × (length left ≡ count) × (count ≤ places)
