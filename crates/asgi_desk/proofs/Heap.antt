-- Two heaps are merged: nothing is lost, and the least number stays on top.
use Rattle.std.proofs.Common.{◌≡◌, ℕ, ◌+◌, ◌≤◌, ◌<◌, true, false, List, ◌∷◌, ◌++◌, length, sym, ap, subst, append_assoc, length-append, arith}
use Rattle.std.specs.List.Sorted.{IsPermutation}
use Rattle.std.proofs.lemmas.Bool.Decides.{nat_tests}
use Rattle.std.proofs.lemmas.List.Sorted.{IsPermutation-trans, IsPermutation-append_right, IsPermutation-append_comm, IsPermutation-cons, length_permutation}
use Rattle.asgi_desk.specs.declared.waiting.Waiting.{Waiting}
use Rattle.asgi_desk.specs.declared.waiting.Waiting.TheVariants.{Empty, Top'}
use Rattle.asgi_desk.specs.private.Book.{IsAbove}
use Rattle.asgi_desk.specs.private.Heap.{least, is_before, IsOrdered}

module _ {N : Type 0} where
  pub stays_first : (b : ℕ) (x y : Waiting N) → is_before (least y) (least x) ≡ false → IsAbove b x → IsAbove b y → IsOrdered b x y
  stays_first b Empty y higher up up-2 = up-2
  stays_first b (Top' e way p left q right) Empty higher up up-2 = (up.0, up.1, up.2, tt)
  stays_first b (Top' e way p left q right) (Top' f way-2 p-2 left-2 q-2 right-2) higher up up-2 =
      let le : e.number ≤ f.number = grind (arith, nat_tests) in (up.0, up.1, up.2, (le, up-2.1, up-2.2))

  pub goes_first : (b : ℕ) (x y : Waiting N) → is_before (least y) (least x) ≡ true → IsAbove b x → IsAbove b y → IsOrdered b y x
  goes_first b x Empty lower up up-2 = cc
  goes_first b Empty (Top' f way-2 p-2 left-2 q-2 right-2) lower up up-2 = (up-2.0, up-2.1, up-2.2, tt)
  goes_first b (Top' e way p left q right) (Top' f way-2 p-2 left-2 q-2 right-2) lower up up-2 =
      let le : f.number ≤ e.number = grind (arith, nat_tests) in (up-2.0, up-2.1, up-2.2, (le, up.1, up.2))

module _ {A : Type 0} where
  pub sides_change : (x : A) (left right : List A) → IsPermutation (x ∷ (left ++ right)) (x ∷ (right ++ left))
  sides_change x left right = IsPermutation-cons x (left ++ right) (right ++ left) (IsPermutation-append_comm left right)

  -- what lies under the top one goes into its right side
  pub goes_right : (all : List A) (x : A) (left right below grown whole : List A) → IsPermutation all ((x ∷ (left ++ right)) ++ below) → IsPermutation (right ++ below) grown
      → IsPermutation (x ∷ (left ++ grown)) whole → IsPermutation all whole
  goes_right all x left right below grown whole first more last =
      let moved : IsPermutation ((left ++ right) ++ below) (left ++ grown) =
      subst (λ (l : List A). IsPermutation l (left ++ grown)) (sym (append_assoc left right below)) (IsPermutation-append_right left (right ++ below) grown more) in
      IsPermutation-trans _ _ _ first (IsPermutation-trans _ _ _ (IsPermutation-cons x ((left ++ right) ++ below) (left ++ grown) moved) last)

  -- the sides of the top one are merged
  pub top_goes : (all inner front rest : List A) (x : A) → all ≡ x ∷ inner → front ≡ inner → IsPermutation front rest → IsPermutation all (x ∷ rest)
  top_goes all inner front rest x is same merged =
      subst (λ (l : List A). IsPermutation l (x ∷ rest)) (sym is) (IsPermutation-cons x inner rest (subst (λ (l : List A). IsPermutation l rest) same merged))

  -- what is merged in the right side is less than the whole
  pub fewer : (one other top below left right : List A) (x : A) → IsPermutation (one ++ other) (top ++ below) → top ≡ x ∷ (left ++ right)
      → length right + length below < length one + length other
  fewer one other top below left right x same is =
      let long = length_permutation _ _ same in let many = ap length is in
      omega (arith, length-append one other, length-append top below, length-append left right)
