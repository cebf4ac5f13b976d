-- What begins a list begins what goes on from it, and the next item takes it further.
use Rattle.std.proofs.Common.{◌≡◌, ℕ, ◌≤◌, Bool, true, false, List, [], ◌∷◌, ◌++◌, ◌⊎◌, inl, inr, length, take, drop, Some, slice_get, refl, ap, sym, ◌∙◌, arith, append_assoc, if◌then◌else◌, take-append-drop}
use Rattle.std.proofs.Math.Seq.{drop-append_seam}
use mathlib.Core.List.{IsPrefix}

pub if_holds : {T : Type 0} (P : T → Type 0) (b : Bool) (y n : T) → (b ≡ true → P y) → (b ≡ false → P n) → P (if b then y else n)
if_holds P true y n yes_ no_ = yes_ refl
if_holds P false y n yes_ no_ = no_ refl

pub prefix_front : {A : Type 0} (xs ys : List A) → IsPrefix xs (xs ++ ys)
prefix_front xs ys = (ys, refl)

pub prefix_after : {A : Type 0} (t xs ys : List A) → IsPrefix xs ys → IsPrefix (t ++ xs) (t ++ ys)
prefix_after t xs ys p = (p.0, append_assoc t xs p.0 ∙ ap (λ w. t ++ w) p.1)

-- a beginning as long as the whole is the whole
pub prefix_whole : {A : Type 0} (xs ys : List A) → IsPrefix xs ys → length ys ≤ length xs → xs ≡ ys
prefix_whole [] [] p le = refl
prefix_whole [] (y ∷ ys) p le = absurd (omega arith)
prefix_whole (x ∷ xs) [] p le = absurd (cc (p.1))
prefix_whole (x ∷ xs) (y ∷ ys) p le =
    let rest = prefix_whole xs ys (p.0, cc (p.1)) (omega arith) in cc (p.1, rest)

-- the next item after a beginning
pub prefix_next : {A : Type 0} (xs ys : List A) (e : A) → IsPrefix xs ys → slice_get ys (length xs) ≡ Some e → IsPrefix (xs ++ e ∷ []) ys
prefix_next [] [] e p h = absurd (cc (h))
prefix_next [] (y ∷ ys) e p h = (ys, cc (h))
prefix_next (x ∷ xs) [] e p h = absurd (cc (p.1))
prefix_next (x ∷ xs) (y ∷ ys) e p h =
    let rest = prefix_next xs ys e (p.0, cc (p.1)) h in (rest.0, cc (p.1, rest.1))

-- a beginning of a list and one more is a beginning of the list, or all
pub prefix_one_more : {A : Type 0} (p q : List A) (d : A) → IsPrefix p (q ++ d ∷ []) → IsPrefix p q ⊎ (p ≡ q ++ d ∷ [])
prefix_one_more [] q d h = inl (q, refl)
prefix_one_more (x ∷ []) [] d h = inr (cc (h.1))
prefix_one_more (x ∷ y ∷ p) [] d h = absurd (cc (h.1))
prefix_one_more (x ∷ p) (y ∷ q) d h =
    elim (prefix_one_more p q d (h.0, cc (h.1))) [ inl r ↦ inl (r.0, cc (h.1, r.1)) | inr e ↦ inr (cc (h.1, e)) ]

pub last_same : {A : Type 0} (p q : List A) (a b : A) → p ++ a ∷ [] ≡ q ++ b ∷ [] → (p ≡ q) × (a ≡ b)
last_same [] [] a b h = (refl, cc (h))
last_same [] (y ∷ []) a b h = absurd (cc (h))
last_same [] (y ∷ z ∷ q) a b h = absurd (cc (h))
last_same (x ∷ []) [] a b h = absurd (cc (h))
last_same (x ∷ z ∷ p) [] a b h = absurd (cc (h))
last_same (x ∷ p) (y ∷ q) a b h =
    let rest = last_same p q a b (cc (h)) in (cc (h, rest.0), rest.1)

-- more of a list after a beginning of it
pub prefix_further : {A : Type 0} (xs ys : List A) (k : ℕ) → IsPrefix xs ys → IsPrefix (xs ++ take k (drop (length xs) ys)) ys
prefix_further xs ys k p =
    let e : drop (length xs) ys ≡ p.0 = ap (λ w. drop (length xs) w) (sym p.1) ∙ drop-append_seam xs p.0 in (
      drop k p.0,
      append_assoc xs (take k (drop (length xs) ys)) (drop k p.0)
          ∙ (ap (λ w. xs ++ (take k w ++ drop k p.0)) e ∙ (ap (λ w. xs ++ w) (take-append-drop k p.0) ∙ p.1)),
    )
