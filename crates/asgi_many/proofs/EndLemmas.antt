-- What stands at the places of numbers, and what has ended.
use Rattle.std.proofs.Common.{◌≡◌, ◌≢◌, ℕ, zero, suc, ◌<◌, List, [], ◌∷◌, ◌++◌, length, Option, Some, None, refl, sym, ap, ◌∙◌, inl, inr, arith, slice_get}
use Rattle.std.proofs.Math.ListN.{set}
use Rattle.std.proofs.lemmas.Bool.{cases_eq}
use Rattle.std.proofs.lemmas.Option.{slice_get_within, same_Some, none-some}
use Rattle.asgi_many.specs.Seats.{EachOnce, EndsOf, KeepsEnds, Seating}
use Rattle.asgi_many.proofs.ListLemmas.{set_here, set_other, push_other, still_at, last_at}

-- a place holds one thing
same_there : {X : Type 0} (xs : List X) (i j : ℕ) (x y : X) → slice_get xs i ≡ Some x → slice_get xs j ≡ Some y → j ≡ i → x ≡ y
same_there xs i j x y at_i at_j same = same_Some x y (sym at_i ∙ ap (slice_get xs) (sym same) ∙ at_j)

-- below the length there is something
pub there_is : {X : Type 0} (xs : List X) (k : ℕ) → k < length xs → (x : X) × (slice_get xs k ≡ Some x)
there_is [] k within = absurd (omega (arith, within))
there_is (x ∷ xs) zero within = (x, refl)
there_is (x ∷ xs) (suc k) within = there_is xs k (omega (arith, within))

module _ {E : Type 0} (number : E → ℕ) where
  pub begins : KeepsEnds number [] []
  begins = record {
    found = λ k end there. absurd (none-some (Some end) there);
    placed = λ i end there. absurd (none-some end there);
    once = λ i j end other there also same. absurd (none-some end there);
  }

  pub comes : (places : List (Option E)) (ends : List E) → KeepsEnds number places ends → KeepsEnds number (places ++ None ∷ []) ends
  comes places ends keeps = record {
    found = λ k end there. elim (cases_eq k (length places)) [
      | inl here ↦ absurd (none-some end (same_there (places ++ None ∷ []) (length places) k None (Some end) (last_at places None) there here))
      | inr differs ↦ keeps.found k end (sym (push_other places k None differs) ∙ there)
    ];
    placed = λ i end there. still_at places (None ∷ []) (number end) (Some end) (keeps.placed i end there);
    once = keeps.once;
  }

  pub ends_so : (places : List (Option E)) (ends : List E) (end : E) → slice_get places (number end) ≡ Some None → KeepsEnds number places ends
      → KeepsEnds number (set places (number end) (Some end)) (ends ++ end ∷ [])
  ends_so places ends end free keeps = record {
    found = λ k other there. elim (cases_eq k (number end)) [
      | inl here ↦
          let eq : end ≡ other = same_Some end other (same_there (set places (number end) (Some end)) (number end) k (Some end) (Some other) told there here) in
          rw (← eq) ((sym here, length ends, last_at ends end))
      | inr differs ↦
          let (its, i, at) = keeps.found k other (sym (set_other places (number end) k (Some end) differs) ∙ there) in
          (its, i, still_at ends (end ∷ []) i other at)
    ];
    placed = λ i other there. elim (cases_eq i (length ends)) [
      | inl here ↦ let eq : end ≡ other = same_there (ends ++ end ∷ []) (length ends) i end other (last_at ends end) there here in rw (← eq) told
      | inr differs ↦
          let at = sym (push_other ends i end differs) ∙ there in
          set_other places (number end) (number other) (Some end) (not_the_last i other at) ∙ keeps.placed i other at
    ];
    once = λ i j one other there also same. elim (cases_eq i (length ends)) [
      | inl here ↦ elim (cases_eq j (length ends)) [
        | inl too ↦ here ∙ sym too
        | inr differs ↦
            let eq : end ≡ one = same_there (ends ++ end ∷ []) (length ends) i end one (last_at ends end) there here in
            absurd (not_the_last j other (sym (push_other ends j end differs) ∙ also) (sym same ∙ sym (ap number eq)))
      ]
      | inr apart ↦ elim (cases_eq j (length ends)) [
        | inl too ↦
            let eq : end ≡ other = same_there (ends ++ end ∷ []) (length ends) j end other (last_at ends end) also too in
            absurd (not_the_last i one (sym (push_other ends i end apart) ∙ there) (same ∙ sym (ap number eq)))
        | inr differs ↦ keeps.once i j one other (sym (push_other ends i end apart) ∙ there) (sym (push_other ends j end differs) ∙ also) same
      ]
    ];
  }
    where
      told : slice_get (set places (number end) (Some end)) (number end) ≡ Some (Some end)
      told = set_here places (number end) (Some end) None free

      -- one that had ended before has another number
      not_the_last : (i : ℕ) (other : E) → slice_get ends i ≡ Some other → number other ≢ number end
      not_the_last i other at same = none-some other (same_Some None (Some other) (sym free ∙ sym (ap (slice_get places) same) ∙ keeps.placed i other at))

  module _ {A S : Type 0} (seat_number : S → ℕ) (at : A → S → Type 0) (promise : A → E → Type 0) (came : List A) (seats : ℕ → Option S) (places : List (Option E)) (ends : List E)
      (keeps : KeepsEnds number places ends) (seating : Seating seat_number at promise came seats places) where
    -- what has ended is of those that came
    pub ends_of : EndsOf number promise came ends
    ends_of = record {
      each = λ i end there.
          let placed = keeps.placed i end there in
          let within = slice_get_within places (number end) (Some end) placed in
          let long = seating.long in
          let (one, given) = there_is came (number end) (omega (arith, within, long)) in
          (one, given, seating.each (number end) end one placed given);
      once = keeps.once;
    }

    -- each that came has ended, once nobody sits there
    pub all_of : EachOnce promise came places → (k : ℕ) (one : A) → slice_get came k ≡ Some one → (i : ℕ) × (end : E) × (slice_get ends i ≡ Some end) × (number end ≡ k)
    all_of each k one given =
        let (end, placed, kept) = each.each k one given in
        let (its, i, there) = keeps.found k end placed in
        (i, end, there, its)
