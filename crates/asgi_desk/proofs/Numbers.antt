-- If the numbers are 1 to n, and the teller got the reports of 1 to k, one that waits is the next one's, or there is none.
use Rattle.std.proofs.Common.{◌≡◌, ◌≢◌, ℕ, zero, suc, ◌+◌, ◌<◌, ◌≤◌, true, false, List, [], ◌∷◌, ◌++◌, refl, sym, ap, ◌∙◌, ⊎_elim, eqb, if◌then◌else◌, ◌==◌, arith, lt_of_not-le}
use Rattle.std.specs.List.{sum_by, range_with_len}
use Rattle.std.specs.List.Sorted.{IsPermutation}
use Rattle.std.proofs.lemmas.List.{map-append}
use Rattle.std.proofs.lemmas.List.Sorted.{sum_by-IsPermutation, IsPermutation-map}
use Rattle.std.proofs.lemmas.List.Sums.{sum_by-cons}
use Rattle.std.proofs.lemmas.Bool.Decides.{nat_tests, eqb_tells}
use Rattle.asgi_desk.specs.declared.waiting.Waiting.{Waiting}
use Rattle.asgi_desk.specs.declared.waiting.Waiting.TheVariants.{Empty, Top'}
use Rattle.asgi_desk.specs.Told.{numbers_of, one_to}
use Rattle.asgi_desk.specs.private.Book.{waiting_of, IsAbove, is_due}

-- how often a number stands in a list
abbrev times : ℕ → List ℕ → ℕ
times x [] = 0
times x (n ∷ ns) = (if n == x then 1 else 0) + times x ns

times_sum : (x : ℕ) (ns : List ℕ) → times x ns ≡ sum_by (λ n. if n == x then 1 else 0) ns
times_sum x [] = refl
times_sum x (n ∷ ns) = ap (λ k. (if n == x then 1 else 0) + k) (times_sum x ns) ∙ sym (sum_by-cons (λ (y : ℕ). if y == x then 1 else 0) n ns)

times_permuted : (x : ℕ) (ms ns : List ℕ) → IsPermutation ms ns → times x ns ≡ times x ms
times_permuted x ms ns p = times_sum x ns ∙ sum_by-IsPermutation (λ (n : ℕ). if n == x then 1 else 0) ms ns p ∙ sym (times_sum x ms)

times_append : (x : ℕ) (ms ns : List ℕ) → times x (ms ++ ns) ≡ times x ms + times x ns
times_append x [] ns = omega arith
times_append x (m ∷ ms) ns = let e = times_append x ms ns in omega arith

one_here : (x : ℕ) (ns : List ℕ) → 0 < times x (x ∷ ns)
one_here x ns = grind (arith, nat_tests)

none_below : (x a n : ℕ) → x < a → times x (range_with_len a n) ≡ 0
none_below x a zero below = refl
none_below x a (suc n) below = let e = none_below x (a + 1) n (omega arith) in grind (arith, nat_tests)

none_after : (x a n : ℕ) → a + n ≤ x → times x (range_with_len a n) ≡ 0
none_after x a zero after = refl
none_after x a (suc n) after = let e = none_after x (a + 1) n (omega arith) in let ne : a < x = omega arith in grind (arith, nat_tests)

once : (x a n : ℕ) → a ≤ x → x < a + n → times x (range_with_len a n) ≡ 1
once x a zero from to = absurd (omega arith)
once x a (suc n) from to =
    ⊎_elim
    (λ (h : (eqb a x ≡ true) × (a ≡ x)). let is = h.1 in let e = none_below x (a + 1) n (omega arith) in grind (arith, nat_tests))
    (λ (h : (eqb a x ≡ false) × (a ≢ x)). let ne = h.1 in let e = once x (a + 1) n (grind arith) (omega arith) in grind (arith, nat_tests)) (eqb_tells a x)

none_under : {N : Type 0} (x b : ℕ) (w : Waiting N) → IsAbove b w → x < b → times x (numbers_of (waiting_of w)) ≡ 0
none_under x b Empty up below = refl
none_under x b (Top' e way p left q right) up below =
    let le = up.0 in let lt : x < e.number = omega arith in
    let l = none_under x e.number left up.1 lt in let r = none_under x e.number right up.2 lt in
    let both = times_append x (numbers_of (waiting_of left)) (numbers_of (waiting_of right)) in
    let split = ap (times x) (map-append (λ (y : ℕ × _). y.0) (waiting_of left) (waiting_of right)) in grind (arith, nat_tests)

module _ {N : Type 0} where
  -- how often a number stands among 1 to n, of which the teller got 1 to k
  split_numbers : (x n k : ℕ) (put told rest : List (ℕ × N)) → numbers_of told ≡ one_to k → IsPermutation put (told ++ rest) → IsPermutation (one_to n) (numbers_of put)
      → times x (one_to n) ≡ times x (one_to k) + times x (numbers_of rest)
  split_numbers x n k put told rest is all whole =
      let one = times_permuted x (one_to n) (numbers_of put) whole in
      let two = times_permuted x (numbers_of put) (numbers_of (told ++ rest)) (IsPermutation-map (λ (r : ℕ × N). r.0) put (told ++ rest) all) in
      let three = ap (times x) (map-append (λ (r : ℕ × N). r.0) told rest) in
      let four = times_append x (numbers_of told) (numbers_of rest) in
      let five = ap (times x) is in omega arith

  pub none_waits : (n k : ℕ) (put told : List (ℕ × N)) (w : Waiting N) → numbers_of told ≡ one_to k → IsPermutation put (told ++ waiting_of w) → IsPermutation (one_to n) (numbers_of put)
      → IsAbove 0 w → is_due k w ≡ false → waiting_of w ≡ []
  none_waits n k put told Empty is all whole up not_due = refl
  none_waits n k put told (Top' e way p left q right) is all whole up not_due =
      let w : Waiting N = Top' e way p left q right in let m : ℕ = e.number in
      let at = split_numbers m n k put told (waiting_of w) is all whole in
      let here : 0 < times m (numbers_of (waiting_of w)) = one_here m (numbers_of (waiting_of left ++ waiting_of right)) in
      let from : 1 < suc m = lt_of_not-le {n = suc m} {m = 1} (λ lt. let none = none_below m 1 n lt in omega arith) in
      let to : m < 1 + n = lt_of_not-le {n = 1 + n} {m = m} (λ le. let none = none_after m 1 n le in omega arith) in
      let single = once m 1 n (omega arith) to in
      let later : k < m = lt_of_not-le {n = m} {m = k} (λ le. let told_once = once m 1 k (omega arith) (omega arith) in omega arith) in
      let gap : k + 1 < m = grind (arith, nat_tests) in
      let next = split_numbers (k + 1) n k put told (waiting_of w) is all whole in
      let due = once (k + 1) 1 n (omega arith) (omega arith) in
      let not_told = none_after (k + 1) 1 k (omega arith) in
      let under : IsAbove m w = ((omega arith), up.1, up.2) in
      let not_here = none_under (k + 1) m w under gap in absurd (omega arith)
