-- What holds of a book as the teller gets a report, and as the desk is closed.
use Rattle.std.proofs.Common.{◌≡◌, ℕ, zero, suc, ◌+◌, List, [], ◌∷◌, ◌++◌, length, refl, sym, ap, ◌∙◌, subst, append_assoc, append-nil, Option, Some, arith}
use Rattle.std.specs.List.{range_with_len}
use Rattle.std.specs.List.Sorted.{IsPermutation}
use Rattle.std.proofs.lemmas.List.{map-append, length-map}
use Rattle.std.proofs.lemmas.List.FromFn.{length-range_with_len}
use Rattle.std.proofs.lemmas.List.Sorted.{IsPermutation-trans, IsPermutation-append_right, length_permutation}
use Rattle.asgi_desk.specs.declared.book.Book.{Book}
use Rattle.asgi_desk.specs.declared.waiting.Waiting.{Waiting}
use Rattle.asgi_desk.specs.Told.{Told, numbers_of, one_to}
use Rattle.asgi_desk.specs.private.Book.{waiting_of, all_of, IsAbove, Keeps, IsKeptFrom}
use Rattle.asgi_desk.specs.declared.channel.Hand.{Hand}
use Rattle.asgi_desk.specs.private.Channel.{took}
use Rattle.asgi_desk.proofs.Numbers.{none_waits}

range_more : (a n : ℕ) → range_with_len a (suc n) ≡ range_with_len a n ++ (a + n) ∷ []
range_more a zero = let e : a ≡ a + 0 = omega arith in ap (λ (m : ℕ). m ∷ []) e
range_more a (suc n) =
    let e : a + 1 + n ≡ a + suc n = omega arith in
    ap (λ (l : List ℕ). a ∷ l) (range_more (a + 1) n ∙ ap (λ (m : ℕ). range_with_len (a + 1) n ++ m ∷ []) e)

some_is : {A : Type 0} (a b : A) → Some a ≡ Some b → a ≡ b
some_is a b e = cc

numbers_more : {N : Type 0} (rs : List (ℕ × N)) (k n : ℕ) (r : N) → numbers_of rs ≡ one_to k → n ≡ k + 1 → numbers_of (rs ++ (n, r) ∷ []) ≡ one_to n
numbers_more rs k n r is next =
    let e : 1 + k ≡ n = omega arith in let f : suc k ≡ n = omega arith in
    map-append (λ (x : ℕ × _). x.0) rs ((n, r) ∷ []) ∙ ap (λ (l : List ℕ). l ++ n ∷ []) is
    ∙ ap (λ (m : ℕ). one_to k ++ m ∷ []) (sym e) ∙ sym (range_more 1 k) ∙ ap one_to f

module _ {A : Type 0} where
  -- one report goes from those that wait to those that the teller got
  pub one_moves : (all told left rest : List A) (x : A) → IsPermutation all (told ++ left) → IsPermutation left (x ∷ rest) → IsPermutation all ((told ++ x ∷ []) ++ rest)
  one_moves all told left rest x one two =
      subst (λ (l : List A). IsPermutation all l) (sym (append_assoc told (x ∷ []) rest)) (IsPermutation-trans _ _ _ one (IsPermutation-append_right told left (x ∷ rest) two))

  -- one report comes to those that wait
  pub one_comes : (told left more : List A) (x : A) → IsPermutation (left ++ x ∷ []) more → IsPermutation ((told ++ left) ++ x ∷ []) (told ++ more)
  one_comes told left more x grown =
      subst (λ (l : List A). IsPermutation l (told ++ more)) (sym (append_assoc told left (x ∷ []))) (IsPermutation-append_right told (left ++ x ∷ []) more grown)

module _ {N T : Type 0} where
  -- the teller gets the next report
  pub all_stay : (all : List (ℕ × N)) (b c : Book N T) (rest : Waiting N) (x : ℕ × N) → IsPermutation all (all_of b) → IsPermutation (waiting_of b.waiting) (x ∷ waiting_of rest)
      → c.told.items ≡ b.told.items ++ x ∷ [] → c.waiting ≡ rest → IsPermutation all (all_of c)
  all_stay all b c rest x one two told same =
      let is : all_of c ≡ (b.told.items ++ x ∷ []) ++ waiting_of rest =
      ap (λ (l : List (ℕ × N)). l ++ waiting_of c.waiting) told ∙ ap (λ (w : Waiting N). (b.told.items ++ x ∷ []) ++ waiting_of w) same in
      subst (λ (l : List (ℕ × N)). IsPermutation all l) (sym is) (one_moves all b.told.items (waiting_of b.waiting) (waiting_of rest) x one two)

module _ {N T : Type 0} (tells : T → T → ℕ → N → Type 0) where
  told_more : (was mid is : T) (rs : List (ℕ × N)) (n : ℕ) (r : N) → Told tells was mid rs → tells mid is n r → Told tells was is (rs ++ (n, r) ∷ [])
  told_more was mid is [] n r so_far one = (is, subst (λ (t : T). tells t is n r) so_far one, refl)
  told_more was mid is (q ∷ rs) n r so_far one = (so_far.0, so_far.1, told_more so_far.0 mid is rs n r so_far.2 one)

  -- the teller gets the next report
  pub keeps_more : (was : T) (b c : Book N T) (n : ℕ) (r : N) → Keeps tells was b → c.told.items ≡ b.told.items ++ (n, r) ∷ [] → tells b.teller c.teller n r
      → n ≡ b.count + 1 → c.count ≡ n → (IsAbove 0 b.waiting → IsAbove 0 c.waiting) → Keeps tells was c
  keeps_more was b c n r keeps told one next count order = record {
    told = subst (λ (l : List (ℕ × N)). Told tells was c.teller l) (sym told) (told_more was b.teller c.teller b.told.items n r keeps.told one);
    numbers = ap numbers_of told ∙ numbers_more b.told.items b.count n r keeps.numbers next ∙ ap one_to (sym count);
    order = order keeps.order;
  }

  -- at first there are no reports, and the teller got none
  pub none_in : (xs : List (ℕ × N)) → xs ≡ [] → xs ++ [] ≡ []
  none_in xs none = ap (λ (l : List (ℕ × N)). l ++ []) none

  pub none_told : (t : T) (xs : List (ℕ × N)) → xs ≡ [] → Told tells t t xs
  none_told t xs none = subst (λ (l : List (ℕ × N)). Told tells t t l) (sym none) refl

  -- what is known as the desk is closed
  pub record IsClosed (first : Option T) (put : List (ℕ × N)) (b : Book N T) : Type 0 where
    pub each : IsPermutation put b.told.items
    pub in_order : numbers_of b.told.items ≡ one_to (length put)
    pub told : (was : T) → first ≡ Some was → Told tells was b.teller b.told.items

  pub closes : (first : Option T) (put : List (ℕ × N)) (b : Book N T) → IsKeptFrom tells first b → IsPermutation put (all_of b) → IsPermutation (one_to (length put)) (numbers_of put)
      → IsClosed first put b
  closes first put b kept all whole =
      let k = kept.2 in let keeps = k.keeps in
      let none : waiting_of b.waiting ≡ [] = none_waits (length put) b.count put b.told.items b.waiting keeps.numbers all whole keeps.order k.none_due in
      let each : IsPermutation put b.told.items =
      subst (λ (l : List (ℕ × N)). IsPermutation put l) (ap (λ (l : List (ℕ × N)). b.told.items ++ l) none ∙ append-nil b.told.items) all in
      let long = length_permutation _ _ each in
      let many = ap length keeps.numbers in
      let same : b.count ≡ length put = omega (arith, length-map b.told.items (λ (r : ℕ × N). r.0), length-range_with_len 1 b.count) in record {
        each = each;
        in_order = keeps.numbers ∙ ap one_to same;
        told = λ was e. subst (λ (t : T). Told tells t b.teller b.told.items) (some_is kept.0 was (sym kept.1 ∙ e)) keeps.told;
      }

  pub closes_at : (v w : Hand N T) (b : Book N T) → IsKeptFrom tells v.first b → w ≡ took v b → IsPermutation w.put w.held → IsPermutation (one_to (length v.put)) (numbers_of v.put)
      → IsClosed v.first v.put b
  closes_at v w b kept is all whole = closes v.first v.put b kept (subst (λ (h : Hand N T). IsPermutation h.put h.held) is all) whole
