-- What stands of a table after one of its seats has changed.
use Rattle.std.proofs.Common.{◌≡◌, ◌≢◌, ℕ, ◌+◌, List, [], ◌∷◌, ◌++◌, length, Option, Some, None, refl, sym, ap, ◌∙◌, inl, inr, arith, slice_get, get_or, length-append}
use Rattle.std.proofs.Math.ListN.{set}
use Rattle.std.proofs.lemmas.Bool.{cases_eq}
use Rattle.std.proofs.lemmas.List.{length-set}
use Rattle.std.proofs.lemmas.Option.{slice_get_within, slice_get-get_or, same_Some, none-some}
use Rattle.asgi_many.specs.Seats.{EachOnce, Seating}
use Rattle.asgi_many.proofs.ListLemmas.{set_here, set_other, push_other, still_at, last_at}

-- the same place holds the same
the_one : {X : Type 0} (xs : ℕ → Option X) (i j : ℕ) (x y : X) → xs i ≡ Some x → xs j ≡ Some y → j ≡ i → x ≡ y
the_one xs i j x y at_i at_j same = same_Some x y (sym at_i ∙ ap xs (sym same) ∙ at_j)

-- a place holds something or nothing
not_both : {X : Type 0} (xs : ℕ → Option X) (i j : ℕ) (x : X) → xs i ≡ None → xs j ≡ Some x → j ≢ i
not_both xs i j x at_i at_j same = none-some x (sym at_i ∙ ap xs (sym same) ∙ at_j)

module _ {A S E : Type 0} (number : S → ℕ) (at : A → S → Type 0) (promise : A → E → Type 0) where
  -- ---- a table in which nobody sits

  all_at : (came : List A) (seats : ℕ → Option S) (ended : List (Option E)) → ((i : ℕ) → seats i ≡ None) → Seating number at promise came seats ended
      → (k : ℕ) (one : A) → slice_get came k ≡ Some one → (place : Option E) → slice_get ended k ≡ Some place
      → (end : E) × (slice_get ended k ≡ Some (Some end)) × promise one end
  all_at came seats ended free s k one there None is = let (i, seat, sits, its) = s.waits k is in absurd (none-some seat (sym (free i) ∙ sits))
  all_at came seats ended free s k one there (Some end) is = (end, is, s.each k end one is there)

  pub all_ended : (came : List A) (seats : ℕ → Option S) (ended : List (Option E)) → ((i : ℕ) → seats i ≡ None) → Seating number at promise came seats ended
      → EachOnce promise came ended
  all_ended came seats ended free s = record {
    long = s.long;
    each = λ k one there.
        let within = slice_get_within came k one there in
        let long = s.long in
        all_at came seats ended free s k one there (get_or ended k None) (slice_get-get_or ended k None (omega (arith, within, long)));
  }

  -- ---- one seat has changed: `before` and `after`

  module _ (came : List A) (before after : ℕ → Option S) (ended : List (Option E)) (i : ℕ) (others : (j : ℕ) → j ≢ i → after j ≡ before j)
      (s : Seating number at promise came before ended) where
    -- who sits there goes on
    pub goes_on : (was is : S) → before i ≡ Some was → after i ≡ Some is → number is ≡ number was → ((one : A) → at one was → at one is)
        → Seating number at promise came after ended
    goes_on was is old new same moves = record {
      long = s.long;
      sitting = λ j seat there. let (then, stood, its, moved) = back j seat there in let (one, given, none, at_one) = s.sitting j then stood in
          (one, rw its given, rw its none, moved one at_one);
      apart = λ j k seat other there also eq.
          let (then, stood, its, _) = back j seat there in
          let (one, sat, own, _) = back k other also in
          s.apart j k then one stood sat (sym its ∙ eq ∙ own);
      each = s.each;
      waits = λ k none. let (j, seat, sits, its) = s.waits k none in let (now, sat, own) = forth j seat sits in (j, now, sat, own ∙ its);
    }
      where
        back : (j : ℕ) (seat : S) → after j ≡ Some seat → (then : S) × (before j ≡ Some then) × (number seat ≡ number then) × ((one : A) → at one then → at one seat)
        back j seat there = elim (cases_eq j i) [
          | inl here ↦ let eq : is ≡ seat = the_one after i j is seat new there here in
              (was, ap before here ∙ old, rw (← eq) same, λ one stood. rw (← eq) (moves one stood))
          | inr differs ↦ (seat, sym (others j differs) ∙ there, refl, λ one stood. stood)
        ]

        forth : (j : ℕ) (seat : S) → before j ≡ Some seat → (now : S) × (after j ≡ Some now) × (number now ≡ number seat)
        forth j seat there = elim (cases_eq j i) [
          | inl here ↦ (is, ap after here ∙ new, same ∙ ap number (the_one before i j was seat old there here))
          | inr differs ↦ (seat, others j differs ∙ there, refl)
        ]

    -- who sat there has ended
    pub ends : (was : S) (end : E) → before i ≡ Some was → after i ≡ None → ((one : A) → at one was → promise one end)
        → Seating number at promise came after (set ended (number was) (Some end))
    ends was end old new kept =
        let (one, given, none, stood) = s.sitting i was old in
        let told : slice_get (set ended (number was) (Some end)) (number was) ≡ Some (Some end) = set_here ended (number was) (Some end) None none in
        record {
          long = length-set ended (number was) (Some end) ∙ s.long;
          sitting = λ j seat there.
              let (differs, sat) = back j seat there in
              let (own, came_so, waiting, at_own) = s.sitting j seat sat in
              (own, came_so, set_other ended (number was) (number seat) (Some end) (λ eq. differs (s.apart j i seat was sat old eq)) ∙ waiting, at_own);
          apart = λ j k seat other there also eq. s.apart j k seat other (back j seat there).1 (back k other also).1 eq;
          each = λ k last own there came_so. elim (cases_eq k (number was)) [
            | inl here ↦
                let eq : end ≡ last = same_Some end last (the_one (λ n. slice_get (set ended (number was) (Some end)) n) (number was) k (Some end) (Some last) told there here) in
                let who : one ≡ own = the_one (λ n. slice_get came n) (number was) k one own given came_so here in
                rw (← eq, ← who) (kept one stood)
            | inr differs ↦ s.each k last own (sym (set_other ended (number was) k (Some end) differs) ∙ there) came_so
          ];
          waits = λ k waiting. elim (cases_eq k (number was)) [
            | inl here ↦ let eq = the_one (λ n. slice_get (set ended (number was) (Some end)) n) (number was) k (Some end) None told waiting here in
                absurd (none-some end (sym eq))
            | inr differs ↦
                let (j, seat, sits, its) = s.waits k (sym (set_other ended (number was) k (Some end) differs) ∙ waiting) in
                (j, seat, others j (λ here. differs (sym its ∙ sym (ap number (the_one before i j was seat old sits here)))) ∙ sits, its)
          ];
        }
      where
        back : (j : ℕ) (seat : S) → after j ≡ Some seat → (j ≢ i) × (before j ≡ Some seat)
        back j seat there = let differs = not_both after i j seat new there in (differs, sym (others j differs) ∙ there)

    -- one more takes a seat in which nobody sat
    pub comes : (is : S) (one : A) → before i ≡ None → after i ≡ Some is → number is ≡ length ended → at one is
        → Seating number at promise (came ++ one ∷ []) after (ended ++ None ∷ [])
    comes is one old new next stood = record {
      long = length-append ended (None ∷ []) ∙ ap (λ n. n + 1) s.long ∙ sym (length-append came (one ∷ []));
      sitting = λ j seat there. elim (cases_eq j i) [
        | inl here ↦
            let eq : is ≡ seat = the_one after i j is seat new there here in
            rw (← eq) ((one, rw (next ∙ s.long) (last_at came one), rw next (last_at ended None), stood))
        | inr differs ↦
            let (own, came_so, waiting, at_own) = s.sitting j seat (sym (others j differs) ∙ there) in
            (own, still_at came (one ∷ []) (number seat) own came_so, still_at ended (None ∷ []) (number seat) None waiting, at_own)
      ];
      apart = λ j k seat other there also eq. elim (cases_eq j i) [
        | inl here ↦ elim (cases_eq k i) [
          | inl too ↦ here ∙ sym too
          | inr differs ↦ absurd (alone k other differs also (sym eq ∙ sym (ap number (the_one after i j is seat new there here)) ∙ next))
        ]
        | inr differs ↦ elim (cases_eq k i) [
          | inl too ↦ absurd (alone j seat differs there (eq ∙ sym (ap number (the_one after i k is other new also too)) ∙ next))
          | inr both ↦ s.apart j k seat other (sym (others j differs) ∙ there) (sym (others k both) ∙ also) eq
        ]
      ];
      each = λ k end own there came_so. elim (cases_eq k (length ended)) [
        | inl here ↦ absurd (none-some end (the_one (λ n. slice_get (ended ++ None ∷ []) n) (length ended) k None (Some end) (last_at ended None) there here))
        | inr differs ↦ s.each k end own (sym (push_other ended k None differs) ∙ there) (sym (push_other came k one (λ here. differs (here ∙ sym s.long))) ∙ came_so)
      ];
      waits = λ k waiting. elim (cases_eq k (length ended)) [
        | inl here ↦ (i, is, new, next ∙ sym here)
        | inr differs ↦
            let (j, seat, sits, its) = s.waits k (sym (push_other ended k None differs) ∙ waiting) in
            (j, seat, others j (not_both before i j seat old sits) ∙ sits, its)
      ];
    }
      where
        alone : (j : ℕ) (seat : S) → j ≢ i → after j ≡ Some seat → number seat ≡ length ended → ⊥
        alone j seat differs there last =
            let (own, came_so, waiting, at_own) = s.sitting j seat (sym (others j differs) ∙ there) in
            let within = slice_get_within ended (number seat) None waiting in
            omega (arith, within, last)
