-- What all views have together, as one of them changes.
use Rattle.std.proofs.Common.{◌≡◌, ℕ, zero, suc, ◌+◌, ◌≤◌, List, [], ◌∷◌, ◌++◌, set, refl, sym, ap, ◌∙◌, subst, append_assoc, append-nil, flat_map, arith}
use mathlib.Core.Option.{some, some-ne-none}
use lib.ListN.{get_elem?}
use Rattle.std.specs.List.Sorted.{IsPermutation}
use Rattle.std.proofs.lemmas.List.Sorted.{IsPermutation-refl, IsPermutation-trans, IsPermutation-append_left, IsPermutation-append_right, IsPermutation-append_comm}
use Rattle.asgi_crew.specs.declared.channel.Hand.{Hand}
use Rattle.asgi_crew.specs.private.Channel.{total}

pub some_same : {A : Type 0} (a b : A) → some a ≡ some b → a ≡ b
some_same a b e = cc

module _ {A : Type 0} where
  pub same_elements : (xs ys : List A) → xs ≡ ys → IsPermutation xs ys
  same_elements xs ys e = subst (λ l. IsPermutation xs l) e (IsPermutation-refl xs)

  -- the middle and the last of three change places
  last_first : (xs ys zs : List A) → IsPermutation ((xs ++ ys) ++ zs) ((xs ++ zs) ++ ys)
  last_first xs ys zs =
      rw (append_assoc xs ys zs, append_assoc xs zs ys) (IsPermutation-append_right xs (ys ++ zs) (zs ++ ys) (IsPermutation-append_comm ys zs))

  -- the first two of three change places
  second_first : (xs ys zs : List A) → IsPermutation (xs ++ (ys ++ zs)) (ys ++ (xs ++ zs))
  second_first xs ys zs =
      rw (← append_assoc xs ys zs, ← append_assoc ys xs zs) (IsPermutation-append_left zs (xs ++ ys) (ys ++ xs) (IsPermutation-append_comm xs ys))

module _ {C A : Type 0} (f : Hand C → List A) where
  -- one view has more
  pub flat_more : (views : List (Hand C)) (port : ℕ) (v w : Hand C) (more : List A) → get_elem? views port ≡ some v → f w ≡ f v ++ more
      → IsPermutation (flat_map f views ++ more) (flat_map f (set views port w))
  flat_more [] port v w more at is = absurd (some-ne-none v (sym at))
  flat_more (x ∷ xs) zero v w more at is =
      let same = ap f (some_same x v at) in
      subst (λ (l : List A). IsPermutation ((f x ++ flat_map f xs) ++ more) (l ++ flat_map f xs)) (sym (is ∙ ap (λ (l : List A). l ++ more) (sym same))) (last_first (f x) (flat_map f xs) more)
  flat_more (x ∷ xs) (suc j) v w more at is =
      rw (append_assoc (f x) (flat_map f xs) more) (IsPermutation-append_right (f x) (flat_map f xs ++ more) (flat_map f (set xs j w)) (flat_more xs j v w more at is))

  -- one view has the same
  pub flat_same : (views : List (Hand C)) (port : ℕ) (v w : Hand C) → get_elem? views port ≡ some v → f w ≡ f v → flat_map f (set views port w) ≡ flat_map f views
  flat_same [] port v w at is = absurd (some-ne-none v (sym at))
  flat_same (x ∷ xs) zero v w at is = ap (λ (l : List A). l ++ flat_map f xs) (is ∙ ap f (sym (some_same x v at)))
  flat_same (x ∷ xs) (suc j) v w at is = ap (λ (l : List A). f x ++ l) (flat_same xs j v w at is)

  -- one view has nothing any more
  flat_less : (views : List (Hand C)) (port : ℕ) (u spent : Hand C) → get_elem? views port ≡ some u → f spent ≡ []
      → IsPermutation (flat_map f views) (f u ++ flat_map f (set views port spent))
  flat_less [] port u spent at none = absurd (some-ne-none u (sym at))
  flat_less (x ∷ xs) zero u spent at none =
      same_elements (f x ++ flat_map f xs) (f u ++ (f spent ++ flat_map f xs))
      (ap (λ (y : Hand C). f y ++ flat_map f xs) (some_same x u at) ∙ ap (λ (l : List A). f u ++ (l ++ flat_map f xs)) (sym none))
  flat_less (x ∷ xs) (suc j) u spent at none =
      IsPermutation-trans _ _ _ (IsPermutation-append_right (f x) (flat_map f xs) (f u ++ flat_map f (set xs j spent)) (flat_less xs j u spent at none))
      (second_first (f x) (f u) (flat_map f (set xs j spent)))

  -- one view takes in what another has
  pub flat_both : (views : List (Hand C)) (port : ℕ) (v : Hand C) (other : ℕ) (u both spent : Hand C) → get_elem? views port ≡ some v → ¬ (other ≡ port)
      → get_elem? (set views port both) other ≡ some u → f both ≡ f v ++ f u → f spent ≡ [] → IsPermutation (flat_map f views) (flat_map f (set (set views port both) other spent))
  flat_both [] port v other u both spent at two at-2 is none = absurd (some-ne-none v (sym at))
  flat_both (x ∷ xs) zero v zero u both spent at two at-2 is none = absurd (two refl)
  flat_both (x ∷ xs) zero v (suc k) u both spent at two at-2 is none =
      let rest = flat_map f (set xs k spent) in
      let e : f both ++ rest ≡ f x ++ (f u ++ rest) = ap (λ (l : List A). l ++ rest) (is ∙ ap (λ (y : Hand C). f y ++ f u) (sym (some_same x v at))) ∙ append_assoc (f x) (f u) rest in
      subst (λ (l : List A). IsPermutation (f x ++ flat_map f xs) l) (sym e) (IsPermutation-append_right (f x) (flat_map f xs) (f u ++ rest) (flat_less xs k u spent at-2 none))
  flat_both (x ∷ xs) (suc j) v zero u both spent at two at-2 is none =
      let e : f x ≡ f u = ap f (some_same x u at-2) in
      let grown : IsPermutation (flat_map f xs ++ f u) (flat_map f (set xs j both)) = flat_more xs j v both (f u) at is in
      subst (λ (l : List A). IsPermutation (f x ++ flat_map f xs) (l ++ flat_map f (set xs j both))) (sym none)
      (subst (λ (l : List A). IsPermutation (l ++ flat_map f xs) (flat_map f (set xs j both))) (sym e)
      (IsPermutation-trans _ _ _ (IsPermutation-append_comm (f u) (flat_map f xs)) grown))
  flat_both (x ∷ xs) (suc j) v (suc k) u both spent at two at-2 is none =
      IsPermutation-append_right (f x) (flat_map f xs) (flat_map f (set (set xs j both) k spent))
      (flat_both xs j v k u both spent at (λ e. two (ap suc e)) at-2 is none)

  -- a new view has nothing
  pub flat_snoc : (views : List (Hand C)) (w : Hand C) → f w ≡ [] → flat_map f (views ++ w ∷ []) ≡ flat_map f views
  flat_snoc [] w none = ap (λ (l : List A). l ++ []) none
  flat_snoc (x ∷ xs) w none = ap (λ (l : List A). f x ++ l) (flat_snoc xs w none)

module _ {C : Type 0} (f : Hand C → ℕ) where
  pub total_set : (views : List (Hand C)) (port : ℕ) (v w : Hand C) → get_elem? views port ≡ some v → total f (set views port w) + f v ≡ total f views + f w
  total_set [] port v w at = absurd (some-ne-none v (sym at))
  total_set (x ∷ xs) zero v w at = let e = ap f (some_same x v at) in omega arith
  total_set (x ∷ xs) (suc j) v w at = let e = total_set xs j v w at in omega arith

  pub total_snoc : (views : List (Hand C)) (w : Hand C) → total f (views ++ w ∷ []) ≡ total f views + f w
  total_snoc [] w = omega arith
  total_snoc (x ∷ xs) w = let e = total_snoc xs w in omega arith

  pub at_le : (views : List (Hand C)) (port : ℕ) (v : Hand C) → get_elem? views port ≡ some v → f v ≤ total f views
  at_le [] port v at = absurd (some-ne-none v (sym at))
  at_le (x ∷ xs) zero v at = let e = ap f (some_same x v at) in omega arith
  at_le (x ∷ xs) (suc j) v at = let e = at_le xs j v at in omega arith

-- if one pass has all of k, it has all of what a pass with nothing of k has not
module _ {C A : Type 0} (k : Hand C → ℕ) (f : Hand C → List A) where
  no_flat : (views : List (Hand C)) → total k views ≡ 0 → ((j : ℕ) (u : Hand C) → get_elem? views j ≡ some u → k u ≡ 0 → f u ≡ []) → flat_map f views ≡ []
  no_flat [] e idle = refl
  no_flat (x ∷ xs) e idle =
      let a : f x ≡ [] = idle 0 x refl (omega arith) in
      let b = no_flat xs (omega arith) (λ j u at. idle (suc j) u at) in ap (λ (l : List A). l ++ flat_map f xs) a ∙ b

  pub sole_flat : (views : List (Hand C)) (port : ℕ) (v : Hand C) → get_elem? views port ≡ some v → total k views ≡ k v
      → ((j : ℕ) (u : Hand C) → get_elem? views j ≡ some u → k u ≡ 0 → f u ≡ []) → flat_map f views ≡ f v
  sole_flat [] port v at e idle = absurd (some-ne-none v (sym at))
  sole_flat (x ∷ xs) zero v at e idle =
      let s = some_same x v at in let b = ap k s in
      let c = no_flat xs (omega arith) (λ j u at. idle (suc j) u at) in
      ap (λ (l : List A). f x ++ l) c ∙ append-nil (f x) ∙ ap f s
  sole_flat (x ∷ xs) (suc j) v at e idle =
      let le = at_le k xs j v at in let a : f x ≡ [] = idle 0 x refl (omega arith) in
      let b = sole_flat xs j v at (omega arith) (λ j u at. idle (suc j) u at) in ap (λ (l : List A). l ++ flat_map f xs) a ∙ b

module _ {C : Type 0} (k f : Hand C → ℕ) where
  none_left : (views : List (Hand C)) → total k views ≡ 0 → ((j : ℕ) (u : Hand C) → get_elem? views j ≡ some u → k u ≡ 0 → f u ≡ 0) → total f views ≡ 0
  none_left [] e idle = refl
  none_left (x ∷ xs) e idle =
      let a : f x ≡ 0 = idle 0 x refl (omega arith) in
      let b = none_left xs (omega arith) (λ j u at. idle (suc j) u at) in omega arith

  pub sole : (views : List (Hand C)) (port : ℕ) (v : Hand C) → get_elem? views port ≡ some v → total k views ≡ k v
      → ((j : ℕ) (u : Hand C) → get_elem? views j ≡ some u → k u ≡ 0 → f u ≡ 0) → total f views ≡ f v
  sole [] port v at e idle = absurd (some-ne-none v (sym at))
  sole (x ∷ xs) zero v at e idle =
      let s = some_same x v at in let a = ap f s in let b = ap k s in
      let c = none_left xs (omega arith) (λ j u at. idle (suc j) u at) in omega arith
  sole (x ∷ xs) (suc j) v at e idle =
      let le = at_le k xs j v at in let a : f x ≡ 0 = idle 0 x refl (omega arith) in
      let b = sole xs j v at (omega arith) (λ j u at. idle (suc j) u at) in omega arith
