-- What was dropped once one more read gave something.
use Rattle.std.proofs.Common.{◌≡◌, ◌≤◌, ◌+◌, ℕ, List, ◌++◌, Option, length, take, arith, length-append}
use Rattle.std.proofs.lemmas.List.{length-take}
use Rattle.std.proofs.KnownBytes.{Consumes-trans}
use Rattle.std.specs.Io.KnownBytes.{Consumes}

pub dropped_more : (a b c : Option (List ℕ)) (read piece : List ℕ) (count many : ℕ)
    → Consumes a b read → length read ≡ count → Consumes b c (take many piece) → many ≤ length piece
    → (more : List ℕ) × Consumes a c more × (length more ≡ count + many)
dropped_more a b c read piece count many first long next most = (
  read ++ take many piece,
  Consumes-trans a b c read (take many piece) first next,
  omega (arith, long, most, length-append read (take many piece), length-take many piece),
)
