-- A text that is split in front.
use Rattle.std.proofs.Common.{◌≡◌, ◌≢◌, ℕ, List, [], ◌∷◌, ◌++◌, Bool, false, IsTrue, Decides, sym, ap, ◌∙◌}

cancel : (xs us vs : List ℕ) → xs ++ us ≡ xs ++ vs → us ≡ vs
cancel [] us vs h = h
cancel (x ∷ xs) us vs h = cancel xs us vs (cc h)

-- the text begins so, and what follows is compared
pub joined : (text first after rest : List ℕ) (same : Bool) → text ≡ first ++ after → Decides same (after ≡ rest)
    → (IsTrue same → text ≡ first ++ rest) × (text ≡ first ++ rest → IsTrue same)
joined text first after rest same split decides =
    (λ yes. split ∙ ap (λ r. first ++ r) (decides.0 yes), λ is. decides.1 (cancel first after rest (sym split ∙ is)))

-- it begins otherwise
pub not_joined : (text first rest : List ℕ) → ((after : List ℕ) → text ≢ first ++ after) → text ≡ first ++ rest → IsTrue false
not_joined text first rest other is = absurd (other rest is)
