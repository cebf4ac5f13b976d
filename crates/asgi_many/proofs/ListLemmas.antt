-- One place of a list is changed, or one more is added.
use Rattle.std.proofs.Common.{◌≡◌, ◌≢◌, ℕ, zero, suc, List, [], ◌∷◌, ◌++◌, length, Some, refl, ap, slice_get}
use Rattle.std.proofs.Math.ListN.{set}
use Rattle.std.proofs.lemmas.Option.{none-some}

pub set_here : {X : Type 0} (xs : List X) (i : ℕ) (v x : X) → slice_get xs i ≡ Some x → slice_get (set xs i v) i ≡ Some v
set_here [] i v x is = absurd (none-some x is)
set_here (y ∷ xs) zero v x is = refl
set_here (y ∷ xs) (suc i) v x is = set_here xs i v x is

pub set_other : {X : Type 0} (xs : List X) (i j : ℕ) (v : X) → j ≢ i → slice_get (set xs i v) j ≡ slice_get xs j
set_other [] i j v differs = refl
set_other (y ∷ xs) zero zero v differs = absurd (differs refl)
set_other (y ∷ xs) zero (suc j) v differs = refl
set_other (y ∷ xs) (suc i) zero v differs = refl
set_other (y ∷ xs) (suc i) (suc j) v differs = set_other xs i j v (λ same. differs (ap suc same))

pub push_other : {X : Type 0} (xs : List X) (j : ℕ) (v : X) → j ≢ length xs → slice_get (xs ++ v ∷ []) j ≡ slice_get xs j
push_other [] zero v differs = absurd (differs refl)
push_other [] (suc j) v differs = refl
push_other (y ∷ xs) zero v differs = refl
push_other (y ∷ xs) (suc j) v differs = push_other xs j v (λ same. differs (ap suc same))

pub still_at : {X : Type 0} (xs ys : List X) (j : ℕ) (x : X) → slice_get xs j ≡ Some x → slice_get (xs ++ ys) j ≡ Some x
still_at [] ys j x is = absurd (none-some x is)
still_at (y ∷ xs) ys zero x is = is
still_at (y ∷ xs) ys (suc j) x is = still_at xs ys j x is

pub last_at : {X : Type 0} (xs : List X) (x : X) → slice_get (xs ++ x ∷ []) (length xs) ≡ Some x
last_at [] x = refl
last_at (y ∷ xs) x = last_at xs x
