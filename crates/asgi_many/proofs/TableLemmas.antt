-- What holds of a table after one of its seats has changed.
use Rattle.std.proofs.Common.{◌≡◌, ◌≢◌, ℕ, zero, suc, ◌+◌, List, [], ◌∷◌, ◌++◌, Option, Some, None, is_some, cond, count_by, refl, sym, ap, ◌∙◌, arith, slice_get, length-append, subst}
use Rattle.std.specs.Prelude.{slice_set, slice_index_or}
use Rattle.std.proofs.lemmas.List.Sums.{sum_by-cons}
use Rattle.std.proofs.lemmas.Option.{none-some}
use Rattle.asgi_types.specs.declared.end_kind.EndKind.{EndKind}
use Rattle.asgi_types.specs.declared.incoming.Incoming.{Incoming}
use Rattle.asgi_types.specs.declared.limits.Limits.{Limits}
use Rattle.asgi_types.specs.declared.outgoing.Outgoing.{Outgoing}
use Rattle.asgi_types.specs.declared.state.StateValue.{StateValue}
use Rattle.asgi_pipes.specs.declared.ends.AppEnd as app_end
use Rattle.asgi_pipes.specs.declared.ends.ConnEnd as conn_end
use Rattle.asgi_ws.specs.Lines.{LineState}
use Rattle.asgi_apps.specs.Promises.{Promise}
use Rattle.asgi_run.specs.declared.runner.AppSide.{AppSide}
use Rattle.slab.specs.Slab.{Slab, Updates, get, slab_len, with_value}
use Rattle.slab.proofs.SlabLemmas.{Updates-with_value}
use Rattle.asgi_many.specs.declared.seat.Ended.{Ended}
use Rattle.asgi_many.specs.declared.seat.Newcomer.{Newcomer}
use Rattle.asgi_many.specs.declared.seat.Seat.{Seat}
use Rattle.asgi_many.specs.declared.table.Table.{Table}
use Rattle.asgi_many.specs.Seats.{EachOnce, Seating}
use Rattle.asgi_many.specs.Standing.{Holds, IsAt, IsEmpty, IsServed, number_of}
use Rattle.asgi_many.proofs.SeatLemmas as seats

nobody_in : {S : Type 0} (slots : List (Option S)) → count_by is_some slots ≡ 0 → (i : ℕ) → slice_index_or slots i None ≡ None
nobody_in [] none i = refl
nobody_in (None ∷ rest) none zero = refl
nobody_in (None ∷ rest) none (suc i) = nobody_in rest (omega (arith, none, sum_by-cons (λ o. cond (is_some o) 1 0) None rest)) i
nobody_in (Some seat ∷ rest) none i = absurd (omega (arith, none, sum_by-cons (λ o. cond (is_some o) 1 0) (Some seat) rest))

-- where no value is, no key has one
pub nobody : {S : Type 0} (s : Slab S) → slab_len s ≡ 0 → (i : ℕ) → get s i ≡ None
nobody s none = nobody_in s.slots none

stays_in : {S : Type 0} (slots : List (Option S)) (i : ℕ) (was is : S) → slice_index_or slots i None ≡ Some was
    → count_by is_some (slice_set slots i (Some is)) ≡ count_by is_some slots
stays_in [] i was is there = refl
stays_in (None ∷ rest) zero was is there = absurd (none-some was there)
stays_in (Some one ∷ rest) zero was is there =
    omega (arith, sum_by-cons (λ o. cond (is_some o) 1 0) (Some one) rest, sum_by-cons (λ o. cond (is_some o) 1 0) (Some is) rest)
stays_in (slot ∷ rest) (suc i) was is there =
    omega (arith, stays_in rest i was is there, sum_by-cons (λ o. cond (is_some o) 1 0) slot rest, sum_by-cons (λ o. cond (is_some o) 1 0) slot (slice_set rest i (Some is)))

-- as many sit there
pub stays : {S : Type 0} (s : Slab S) (i : ℕ) (was is : S) → get s i ≡ Some was → slab_len (with_value s i is) ≡ slab_len s
stays s i was is there = stays_in s.slots i was is there

-- a value is written where one was
pub writes : {S : Type 0} (s : Slab S) (i : ℕ) (was is : S) → get s i ≡ Some was → Updates s (with_value s i is) i (Some is)
writes s i was is there = Updates-with_value s i is (rw there refl)

module _ {T C E X L : Type 0} (answers : T → List Incoming → List Outgoing → Option EndKind → Type 0) (conns : conn_end.Ghosts C) (ends : app_end.Ghosts E) (conn : X → C)
    (began : X → AppSide T E → Type 0) (promise : Promise) (line_state : L → LineState) (state : List (List ℕ × StateValue)) where
  -- this holds with these newcomers and these ends
  abbrev Now : List (Newcomer L) → Table X L → List (Option (Ended L)) → Type 0
  Now came table ended = Holds answers conns ends conn began promise line_state state came table ended

  abbrev At : Limits → Newcomer L → Seat X L → Type 0
  At limits one seat = IsAt answers conns ends conn began promise line_state limits state one seat

  -- once nobody sits there, each has ended once
  pub all_ended : (came : List (Newcomer L)) (table : Table X L) (ended : List (Option (Ended L))) → Now came table ended → IsEmpty table
      → EachOnce (IsServed promise line_state table.limits state) came ended
  all_ended came table ended holds empty =
      seats.all_ended number_of (At table.limits) (IsServed promise line_state table.limits state) came (get table.seats) ended (nobody table.seats empty) holds.seating

  module _ {came : List (Newcomer L)} {ended : List (Option (Ended L))} (old new : Table X L) (i : ℕ) (same : new.limits ≡ old.limits) (holds : Now came old ended) where
    -- a newcomer has a seat
    pub comes : (one : Newcomer L) (seat : Seat X L) → new.came ≡ old.came + 1 → get old.seats i ≡ None → Updates old.seats new.seats i (Some seat)
        → seat.number ≡ old.came → At old.limits one seat → Now (came ++ one ∷ []) new (ended ++ None ∷ [])
    comes one seat next free updates number at = record {
      counted = next ∙ ap (λ n. n + 1) holds.counted ∙ sym (length-append came (one ∷ []));
      seating = rw same (seats.comes number_of (At old.limits) (IsServed promise line_state old.limits state) came (get old.seats) (get new.seats) ended i updates.others
          holds.seating seat one free updates.changed (number ∙ holds.counted ∙ sym holds.seating.long) at);
    }

    -- a connection goes on
    pub goes_on : (was is : Seat X L) → new.came ≡ old.came → get old.seats i ≡ Some was → new.seats ≡ with_value old.seats i is → is.number ≡ was.number
        → ((one : Newcomer L) → At old.limits one was → At old.limits one is) → Now came new ended
    goes_on was is next there written number moves =
        let updates = writes old.seats i was is there in
        record {
          counted = next ∙ holds.counted;
          seating = rw (same, written) (seats.goes_on number_of (At old.limits) (IsServed promise line_state old.limits state) came (get old.seats) (get (with_value old.seats i is)) ended i
              updates.others holds.seating was is there updates.changed number moves);
        }

    -- a connection has ended
    pub ends_at : (was : Seat X L) (end : Ended L) → new.came ≡ old.came → get old.seats i ≡ Some was → get new.seats i ≡ None
        → ((j : ℕ) → j ≢ i → get new.seats j ≡ get old.seats j) → end.number ≡ was.number
        → ((one : Newcomer L) → At old.limits one was → IsServed promise line_state old.limits state one end) → Now came new (slice_set ended end.number (Some end))
    ends_at was end next there gone others number kept = record {
      counted = next ∙ holds.counted;
      seating = rw same (subst (λ (n : ℕ). Seating number_of (At old.limits) (IsServed promise line_state old.limits state) came (get new.seats) (slice_set ended n (Some end)))
          (sym number) (seats.ends number_of (At old.limits) (IsServed promise line_state old.limits state) came (get old.seats) (get new.seats) ended i
          others holds.seating was end there gone kept));
    }

    -- what has ended had not ended before, and is of the one that came under its number
    pub over : (was : Seat X L) (end : Ended L) → get old.seats i ≡ Some was → end.number ≡ was.number
        → ((one : Newcomer L) → At old.limits one was → IsServed promise line_state old.limits state one end)
        → (slice_get ended end.number ≡ Some None) × (one : Newcomer L) × (slice_get came end.number ≡ Some one) × IsServed promise line_state old.limits state one end
    over was end there number kept =
        let (one, given, none, at) = holds.seating.sitting i was there in
        (rw number none, one, rw number given, kept one at)
