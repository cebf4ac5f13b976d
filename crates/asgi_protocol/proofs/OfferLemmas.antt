-- A search for an equal text by index.
use Rattle.std.proofs.Common.{◌≡◌, ℕ, ◌+◌, Bool, true, false, List, [], ◌∷◌, take, refl, ap, sym, ◌∙◌, Option, Some, suc, zero, add-one}
use Rattle.std.specs.Prelude.{slice_get, bytes_eq, ◌||◌}
use Rattle.std.specs.List.{list_any}
use Rattle.asgi_protocol.specs.Rules.{is_offered}
use Rattle.asgi_protocol.proofs.RowLemmas.{either_first, either_second}

pub any_at : {X : Type 0} (p : X → Bool) (xs : List X) (i : ℕ) (x : X) → slice_get xs i ≡ Some x → p x ≡ true → list_any p xs ≡ true
any_at p [] i x here h = absurd (cc)
any_at p (y ∷ ys) zero x here h = let same : y ≡ x = cc in either_first (p y) (list_any p ys) (ap p same ∙ h)
any_at p (y ∷ ys) (suc i) x here h = either_second (p y) (list_any p ys) (any_at p ys i x here h)

none_more : {X : Type 0} (p : X → Bool) (xs : List X) (i : ℕ) (x : X) → slice_get xs i ≡ Some x → p x ≡ false → list_any p (take i xs) ≡ false → list_any p (take (suc i) xs) ≡ false
none_more p [] i x here h none = absurd (cc)
none_more p (y ∷ ys) zero x here h none = let same : y ≡ x = cc in let no : p y ≡ false = ap p same ∙ h in rw no refl
none_more p (y ∷ ys) (suc i) x here h none = split (p y) (list_any p (take i ys)) (list_any p (take (suc i) ys)) none (none_more p ys i x here h)
  where
    split : (a b c : Bool) → (a || b) ≡ false → (b ≡ false → c ≡ false) → (a || c) ≡ false
    split true b c h f = h
    split false b c h f = f h

pub none_next : {X : Type 0} (p : X → Bool) (xs : List X) (i : ℕ) (x : X) → slice_get xs i ≡ Some x → p x ≡ false → list_any p (take i xs) ≡ false → list_any p (take (i + 1) xs) ≡ false
none_next p xs i x here h none = ap (λ (k : ℕ). list_any p (take k xs)) (add-one i) ∙ none_more p xs i x here h none

-- the offer that was found
pub offered : (offers : List (List ℕ)) (subprotocol : Option (List ℕ)) (name offer shown named : List ℕ) (i : ℕ) (r : Bool) → slice_get offers i ≡ Some offer
    → shown ≡ offer → named ≡ name → r ≡ bytes_eq shown named → r ≡ true → subprotocol ≡ Some name → true ≡ is_offered offers subprotocol
offered offers subprotocol name offer shown named i r here at_offer at_name tested found some =
    let same : bytes_eq offer name ≡ true = rw (← at_offer, ← at_name) (sym tested ∙ found) in
    sym (rw some (any_at (λ o. bytes_eq o name) offers i offer here same))

pub not_offered : (offers : List (List ℕ)) (name offer shown named : List ℕ) (i : ℕ) (r : Bool) → slice_get offers i ≡ Some offer
    → shown ≡ offer → named ≡ name → r ≡ bytes_eq shown named → r ≡ false → list_any (λ o. bytes_eq o name) (take i offers) ≡ false
    → list_any (λ o. bytes_eq o name) (take (i + 1) offers) ≡ false
not_offered offers name offer shown named i r here at_offer at_name tested missed none =
    let other : bytes_eq offer name ≡ false = rw (← at_offer, ← at_name) (sym tested ∙ missed) in
    none_next (λ o. bytes_eq o name) offers i offer here other none
