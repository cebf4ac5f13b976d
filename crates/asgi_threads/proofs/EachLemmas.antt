-- Parts that were worked at, one more, and none.
use Rattle.std.proofs.Common.{◌≡◌, List, [], ◌∷◌, ◌++◌, false, Bool, refl, sym, ap₂, subst}
use Rattle.asgi_threads.specs.Abreast.{Each, Did}

-- one more part behind the others
pub one_more : {W : Type 0} (R : W → W → Type 0) (old new : List W) (was is : W) → Each R old new → R was is → Each R (old ++ was ∷ []) (new ++ is ∷ [])
one_more R [] [] was is each this = (this, tt)
one_more R (first ∷ old) (now ∷ new) was is (one, more) this = (one, one_more R old new was is more this)
one_more R [] (now ∷ new) was is each this = absurd each
one_more R (first ∷ old) [] was is each this = absurd each

-- none was worked at, so each is as it was
pub none_did : {W : Type 0} (works : W → W → Type 0) (old new : List W) → Each (Did works false) old new → new ≡ old
none_did works [] [] each = refl
none_did works (first ∷ old) (now ∷ new) (same, more) = ap₂ (λ x xs. x ∷ xs) same (none_did works old new more)
none_did works [] (now ∷ new) each = absurd each
none_did works (first ∷ old) [] each = absurd each

-- the thread of one more part has ended
pub one_joined : {W : Type 0} (works : W → W → Type 0) (may so_far seen : Bool) (old new all whole : List W) (was is : W)
    → Each (Did works so_far) old new → Did works seen was is → seen ≡ so_far → may ≡ so_far
    → whole ≡ old ++ was ∷ [] → all ≡ new ++ is ∷ [] → Each (Did works may) whole all
one_joined {W} works may so_far seen old new all whole was is each this agrees same grown more =
    let one : Did works so_far was is = subst (λ b. Did works b was is) agrees this in
    subst (λ b. Each (Did works b) whole all) (sym same)
    (subst (λ (l : List W). Each (Did works so_far) l all) (sym grown)
    (subst (λ (l : List W). Each (Did works so_far) (old ++ was ∷ []) l) (sym more) (one_more (Did works so_far) old new was is each one)))
