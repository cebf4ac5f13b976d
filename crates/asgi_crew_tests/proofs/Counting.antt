-- Numbers that ascend by one from 1 on are 1, 2, 3 .. in order.
use Rattle.std.proofs.Common.{◌≡◌, ℕ, suc, ◌+◌, ◌<◌, List, [], ◌∷◌, length, get_or, refl, ap, ◌∙◌, subst, arith}
use Rattle.std.specs.List.{range_with_len}
use Rattle.std.specs.List.Sorted.{IsPermutation}
use Rattle.std.proofs.lemmas.List.Sorted.{IsPermutation-sym, length_permutation}
use Rattle.asgi_desk.specs.Told.{one_to}

ascend : (a : ℕ) (xs : List ℕ) → ((k : ℕ) → k < length xs → get_or xs k 0 ≡ k + a) → xs ≡ range_with_len a (length xs)
ascend a [] each = refl
ascend a (x ∷ xs) each =
    let first : x ≡ a = (let e = each 0 (omega arith) in omega arith) in
    ap (λ (y : ℕ). y ∷ xs) first ∙ ap (λ (l : List ℕ). a ∷ l) (ascend (a + 1) xs (λ k lt. let e = each (suc k) (omega arith) in omega arith))

pub are_one_to : (numbers sorted : List ℕ) → IsPermutation numbers sorted → ((k : ℕ) → k < length sorted → get_or sorted k 0 ≡ k + 1) → IsPermutation (one_to (length numbers)) numbers
are_one_to numbers sorted same each =
    let is = ascend 1 sorted each in let long = length_permutation numbers sorted same in
    subst (λ (l : List ℕ). IsPermutation l numbers) (is ∙ ap one_to long) (IsPermutation-sym numbers sorted same)
