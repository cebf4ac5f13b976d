-- What holds of a server after one of its steps.
use Rattle.std.proofs.Common.{◌≡◌, ◌≢◌, ◌⊎◌, ℕ, ◌+◌, ◌-◌, ◌^◌, ◌<◌, ◌≤◌, length, arith, List, [], ◌∷◌, ◌++◌, map, Option, Some, None, refl, sym, ap, ◌∙◌, inl, inr, subst, slice_get, append_assoc, append-nil}
use Rattle.std.specs.Prelude.{slice_set}
use Rattle.asgi_types.specs.declared.end_kind.EndKind.{EndKind}
use Rattle.asgi_types.specs.declared.incoming.Incoming.{Incoming}
use Rattle.asgi_types.specs.declared.limits.Limits.{Limits}
use Rattle.asgi_types.specs.declared.outgoing.Outgoing.{Outgoing}
use Rattle.asgi_types.specs.declared.state.StateValue.{StateValue}
use Rattle.asgi_pipes.specs.declared.ends.AppEnd as app_end
use Rattle.asgi_pipes.specs.declared.ends.ConnEnd as conn_end
use Rattle.asgi_ws.specs.Lines.{LineState}
use Rattle.asgi_apps.specs.Promises.{Promise}
use Rattle.asgi_desk.specs.Told.{Told}
use Rattle.asgi_run.specs.declared.runner.AppSide.{AppSide}
use Rattle.slab.specs.Slab.{get}
use Rattle.asgi_many.specs.declared.intake.Intake.{Intake}
use Rattle.asgi_many.specs.declared.intake.Intake.TheVariants.{Asks, Waits, Closed}
use Rattle.asgi_many.specs.declared.reactor.Next.{Next}
use Rattle.asgi_many.specs.declared.reactor.Next.TheVariants.{Arrived, NoneNow, NoneEver}
use Rattle.asgi_many.specs.declared.seat.Departure.{Departure}
use Rattle.asgi_many.specs.declared.seat.Ended.{Ended}
use Rattle.asgi_many.specs.declared.seat.Newcomer.{Newcomer}
use Rattle.asgi_many.specs.declared.serving.Served.{Served}
use Rattle.asgi_many.specs.declared.serving.Served.TheVariants.{All, TooLong}
use Rattle.asgi_many.specs.declared.table.Table.{Table}
use Rattle.asgi_many.specs.Moves.{asks_again}
use Rattle.asgi_many.specs.Seats.{KeepsEnds}
use Rattle.asgi_many.specs.Serving.{Adds, Going, SaidNoneEver, ServesMany, Sits, came_in, departure_of, end_number, told_of}
use Rattle.asgi_many.specs.Standing.{Holds, IsEmpty, IsServed, number_of}
use Rattle.asgi_many.proofs.EndLemmas as ended
use Rattle.asgi_many.proofs.TableLemmas as tables

came_one : {L : Type 0} (answers : List (Next L)) (newcomer : Newcomer L) → came_in (answers ++ Arrived newcomer ∷ []) ≡ came_in answers ++ newcomer ∷ []
came_one [] newcomer = refl
came_one (Arrived other ∷ answers) newcomer = ap (λ rest. other ∷ rest) (came_one answers newcomer)
came_one (NoneNow ∷ answers) newcomer = came_one answers newcomer
came_one (NoneEver ∷ answers) newcomer = came_one answers newcomer

came_none : {L : Type 0} (answers : List (Next L)) → came_in (answers ++ NoneNow ∷ []) ≡ came_in answers
came_none [] = refl
came_none (Arrived other ∷ answers) = ap (λ rest. other ∷ rest) (came_none answers)
came_none (NoneNow ∷ answers) = came_none answers
came_none (NoneEver ∷ answers) = came_none answers

came_no_more : {L : Type 0} (answers : List (Next L)) → came_in (answers ++ NoneEver ∷ []) ≡ came_in answers
came_no_more [] = refl
came_no_more (Arrived other ∷ answers) = ap (λ rest. other ∷ rest) (came_no_more answers)
came_no_more (NoneNow ∷ answers) = came_no_more answers
came_no_more (NoneEver ∷ answers) = came_no_more answers

-- one more report was told
told_one : {K L : Type 0} (tells : K → K → ℕ → Departure → Type 0) (was mid is : K) (ends : List (Ended L)) (end : Ended L)
    → Told tells was mid (map told_of ends) → tells mid is (end.number + 1) (departure_of end) → Told tells was is (map told_of (ends ++ end ∷ []))
told_one tells was mid is [] end before one = (is, subst (λ (t : _). tells t is (end.number + 1) (departure_of end)) before one, refl)
told_one tells was mid is (first ∷ ends) end (next, this, rest) one = (next, this, told_one tells next mid is ends end rest one)

is_too_long : Served → Type 0
is_too_long All = ⊥
is_too_long TooLong = Unit {0}

pub not_long : {P : Type 0} → All ≡ TooLong → P
unfolding is_too_long
not_long same = absurd (subst is_too_long (sym same) tt)

-- they are two ends
pub not_all : {P : Type 0} → TooLong ≡ All → P
unfolding is_too_long
not_all same = absurd (subst is_too_long same tt)

-- ---- how often one was asked for

length_push : {A : Type 0} (xs : List A) (x : A) → length (xs ++ x ∷ []) ≡ length xs + 1
length_push [] x = omega (arith)
length_push (y ∷ xs) x = let rest = length_push xs x in omega (arith, rest)

length_both : {A : Type 0} (xs ys : List A) → length (xs ++ ys) ≡ length xs + length ys
length_both [] ys = omega (arith)
length_both (x ∷ xs) ys = let rest = length_both xs ys in omega (arith, rest)

pub one_more : {A : Type 0} (old new : List A) (one : A) → new ≡ old ++ one ∷ [] → length new ≤ length old + 1
one_more old new one same = let long = length_push old one in let now = ap length same in omega (arith, long, now)

pub none_more : {A : Type 0} (old new : List A) → new ≡ old → length new ≤ length old + 1
none_more old new same = let now = ap length same in omega (arith, now)

few_in : {L : Type 0} (answers : List (Next L)) → length (came_in answers) ≤ length answers
few_in [] = omega (arith)
few_in (Arrived newcomer ∷ answers) = let rest = few_in answers in omega (arith, rest)
few_in (NoneNow ∷ answers) = let rest = few_in answers in omega (arith, rest)
few_in (NoneEver ∷ answers) = let rest = few_in answers in omega (arith, rest)

-- ---- whether one is asked for again

cancel : {A : Type 0} (xs us vs : List A) → xs ++ us ≡ xs ++ vs → us ≡ vs
cancel [] us vs same = same
cancel (x ∷ xs) us vs same = let tails : xs ++ us ≡ xs ++ vs = cc in cancel xs us vs tails

is_closed : Intake → Type 0
is_closed Asks = ⊥
is_closed Waits = ⊥
is_closed Closed = Unit {0}

-- it asks, so it is not closed
pub asks_on : {P : Type 0} → Asks ≡ Closed → P
unfolding is_closed
asks_on same = absurd (subst is_closed (sym same) tt)

pub waits_on : {P : Type 0} → Waits ≡ Closed → P
unfolding is_closed
waits_on same = absurd (subst is_closed (sym same) tt)

-- to be told of arrivals opens nothing
pub was_closed : (intake : Intake) → asks_again intake ≡ Closed → intake ≡ Closed
was_closed Asks same = asks_on same
was_closed Waits same = asks_on same
was_closed Closed same = refl

-- Closed by this step, or before it.
pub stays_closed : {L : Type 0} (asked_old asked_now asked_new : List (Next L)) (was : Intake) → (was ≡ Closed → SaidNoneEver asked_old asked_now)
    → ((at : List (Next L)) × (asked_now ≡ asked_old ++ at)) → (asked_new ≡ asked_now ++ NoneEver ∷ []) ⊎ ((was ≡ Closed) × (asked_new ≡ asked_now)) → SaidNoneEver asked_old asked_new
stays_closed asked_old asked_now asked_new was before (at, asked) (inl said) =
    (at, said ∙ ap (λ l. l ++ NoneEver ∷ []) asked ∙ append_assoc asked_old at (NoneEver ∷ []))
stays_closed asked_old asked_now asked_new was before asked (inr (closed, same)) = rw same (before closed)

module _ {T C E X L : Type 0} (answers_of : T → List Incoming → List Outgoing → Option EndKind → Type 0) (conns : conn_end.Ghosts C) (app_ends : app_end.Ghosts E) (conn : X → C)
    (began : X → AppSide T E → Type 0) (promise : Promise) (line_state : L → LineState) (limits : Limits) (state : List (List ℕ × StateValue)) where
  abbrev SitsNow : List (Next L) → List (Next L) → List (Option (Ended L)) → Table X L → Type 0
  SitsNow asked_old asked_now places table = Sits answers_of conns app_ends conn began promise line_state limits state asked_old asked_now places table

  abbrev HoldsNow : List (Newcomer L) → Table X L → List (Option (Ended L)) → Type 0
  HoldsNow came table places = Holds answers_of conns app_ends conn began promise line_state state came table places

  abbrev GoingNow : {K : Type 0} → (K → K → ℕ → Departure → Type 0) → List (Next L) → List (Next L) → K → K → Table X L → Type 0
  GoingNow tells asked_old asked_now teller_old teller_now table = Going answers_of conns app_ends conn began promise line_state limits state tells asked_old asked_now teller_old teller_now table

  -- ---- it begins

  pub begins : {K : Type 0} (tells : K → K → ℕ → Departure → Type 0) (asked : List (Next L)) (teller : K) (table : Table X L) → table.limits ≡ limits → HoldsNow [] table []
      → GoingNow tells asked asked teller teller table
  begins tells asked teller table limited holds = record {
    places = [];
    ends = [];
    sits = record {
      answers = [];
      asked = sym (append-nil asked);
      limited = limited;
      holds = holds;
    };
    keeps = ended.begins end_number;
    told = refl;
  }

  -- ---- one is asked for

  pub arrives : (asked_old asked_now asked_new : List (Next L)) (places : List (Option (Ended L))) (old new : Table X L) (newcomer : Newcomer L)
      → asked_new ≡ asked_now ++ Arrived newcomer ∷ [] → new.limits ≡ old.limits
      → ((came : List (Newcomer L)) → HoldsNow came old places → HoldsNow (came ++ newcomer ∷ []) new (places ++ None ∷ []))
      → SitsNow asked_old asked_now places old → SitsNow asked_old asked_new (places ++ None ∷ []) new
  arrives asked_old asked_now asked_new places old new newcomer told same seated sits = record {
    answers = sits.answers ++ Arrived newcomer ∷ [];
    asked = told ∙ ap (λ l. l ++ Arrived newcomer ∷ []) sits.asked ∙ append_assoc asked_old sits.answers (Arrived newcomer ∷ []);
    limited = same ∙ sits.limited;
    holds = subst (λ (came : List (Newcomer L)). HoldsNow came new (places ++ None ∷ [])) (sym (came_one sits.answers newcomer)) (seated (came_in sits.answers) sits.holds);
  }

  pub none_arrives : (asked_old asked_now asked_new : List (Next L)) (places : List (Option (Ended L))) (table : Table X L)
      → asked_new ≡ asked_now ++ NoneNow ∷ [] → SitsNow asked_old asked_now places table → SitsNow asked_old asked_new places table
  none_arrives asked_old asked_now asked_new places table told sits = record {
    answers = sits.answers ++ NoneNow ∷ [];
    asked = told ∙ ap (λ l. l ++ NoneNow ∷ []) sits.asked ∙ append_assoc asked_old sits.answers (NoneNow ∷ []);
    limited = sits.limited;
    holds = subst (λ (came : List (Newcomer L)). HoldsNow came table places) (sym (came_none sits.answers)) sits.holds;
  }

  pub none_will_arrive : (asked_old asked_now asked_new : List (Next L)) (places : List (Option (Ended L))) (table : Table X L)
      → asked_new ≡ asked_now ++ NoneEver ∷ [] → SitsNow asked_old asked_now places table → SitsNow asked_old asked_new places table
  none_will_arrive asked_old asked_now asked_new places table told sits = record {
    answers = sits.answers ++ NoneEver ∷ [];
    asked = told ∙ ap (λ l. l ++ NoneEver ∷ []) sits.asked ∙ append_assoc asked_old sits.answers (NoneEver ∷ []);
    limited = sits.limited;
    holds = subst (λ (came : List (Newcomer L)). HoldsNow came table places) (sym (came_no_more sits.answers)) sits.holds;
  }

  -- a place more
  keeps_more : (places more : List (Option (Ended L))) (ends : List (Ended L)) → Adds places more → KeepsEnds end_number places ends → KeepsEnds end_number more ends
  keeps_more places more ends (inl same) keeps = rw same keeps
  keeps_more places more ends (inr one) keeps = rw one (ended.comes end_number places ends keeps)

  pub takes_in : {K : Type 0} (tells : K → K → ℕ → Departure → Type 0) (asked_old asked_now asked_new : List (Next L)) (teller_old teller_now : K) (old new : Table X L)
      → ((places : List (Option (Ended L))) → SitsNow asked_old asked_now places old → (more : List (Option (Ended L))) × Adds places more × SitsNow asked_old asked_new more new)
      → GoingNow tells asked_old asked_now teller_old teller_now old → GoingNow tells asked_old asked_new teller_old teller_now new
  takes_in tells asked_old asked_now asked_new teller_old teller_now old new taken going =
      let (more, adds, sits) = taken going.places going.sits in record {
        places = more;
        ends = going.ends;
        sits = sits;
        keeps = keeps_more going.places more going.ends adds going.keeps;
        told = going.told;
      }

  -- ---- one goes on

  pub goes_on : {K : Type 0} (tells : K → K → ℕ → Departure → Type 0) (asked_old asked_now asked_new : List (Next L)) (teller_old teller_now : K) (old new : Table X L)
      → asked_new ≡ asked_now → new.limits ≡ old.limits
      → ((came : List (Newcomer L)) (places : List (Option (Ended L))) → HoldsNow came old places → HoldsNow came new places)
      → GoingNow tells asked_old asked_now teller_old teller_now old → GoingNow tells asked_old asked_new teller_old teller_now new
  goes_on tells asked_old asked_now asked_new teller_old teller_now old new asked same turned going = record {
    places = going.places;
    ends = going.ends;
    sits = record {
      answers = going.sits.answers;
      asked = asked ∙ going.sits.asked;
      limited = same ∙ going.sits.limited;
      holds = turned (came_in going.sits.answers) going.places going.sits.holds;
    };
    keeps = going.keeps;
    told = going.told;
  }

  pub ends_one : {K : Type 0} (tells : K → K → ℕ → Departure → Type 0) (asked_old asked_now asked_new : List (Next L)) (teller_old teller_now teller_new : K) (old new : Table X L) (end : Ended L)
      → asked_new ≡ asked_now → new.limits ≡ old.limits → tells teller_now teller_new (end.number + 1) (departure_of end)
      → ((came : List (Newcomer L)) (places : List (Option (Ended L))) → HoldsNow came old places → HoldsNow came new (slice_set places end.number (Some end)))
      → ((came : List (Newcomer L)) (places : List (Option (Ended L))) → HoldsNow came old places → slice_get places end.number ≡ Some None)
      → GoingNow tells asked_old asked_now teller_old teller_now old → GoingNow tells asked_old asked_new teller_old teller_new new
  ends_one tells asked_old asked_now asked_new teller_old teller_now teller_new old new end asked same told turned over going = record {
    places = slice_set going.places end.number (Some end);
    ends = going.ends ++ end ∷ [];
    sits = record {
      answers = going.sits.answers;
      asked = asked ∙ going.sits.asked;
      limited = same ∙ going.sits.limited;
      holds = turned (came_in going.sits.answers) going.places going.sits.holds;
    };
    keeps = ended.ends_so end_number going.places going.ends end (over (came_in going.sits.answers) going.places going.sits.holds) going.keeps;
    told = told_one tells teller_old teller_now teller_new going.ends end going.told told;
  }

  -- fewer have come than it was asked, and so fewer than there are numbers
  pub few_came : {K : Type 0} (tells : K → K → ℕ → Departure → Type 0) (asked_old asked_now : List (Next L)) (teller_old teller_now : K) (table : Table X L) (count : ℕ)
      → length asked_now ≤ length asked_old + count → count < 2 ^ 64 - 1 → GoingNow tells asked_old asked_now teller_old teller_now table → table.came ≢ 2 ^ 64 - 1
  few_came tells asked_old asked_now teller_old teller_now table count many less going all =
      let counted = going.sits.holds.counted in
      let within = few_in going.sits.answers in
      let split = length_both asked_old going.sits.answers in
      let now = ap length going.sits.asked in
      omega (arith, counted, within, split, now, many, less, all)

  -- ---- it ends

  pub serves : {K : Type 0} (tells : K → K → ℕ → Departure → Type 0) (asked_old asked_now : List (Next L)) (teller_old teller_now : K) (table : Table X L) (how : Served)
      → (how ≡ All → IsEmpty table) → (how ≡ All → SaidNoneEver asked_old asked_now) → GoingNow tells asked_old asked_now teller_old teller_now table
      → ServesMany tells promise line_state limits state asked_old asked_now teller_old teller_now how
  serves tells asked_old asked_now teller_old teller_now table how empty said going =
      let holds = going.sits.holds in
      let seating = rw going.sits.limited at holds.seating in
      record {
        answers = going.sits.answers;
        asked = going.sits.asked;
        ends = going.ends;
        served = ended.ends_of end_number number_of _ (IsServed promise line_state limits state) (came_in going.sits.answers) (get table.seats) going.places going.ends going.keeps seating;
        told = going.told;
        all = λ is_all k one given. ended.all_of end_number number_of _ (IsServed promise line_state limits state) (came_in going.sits.answers) (get table.seats) going.places going.ends going.keeps seating
            (rw going.sits.limited at (tables.all_ended answers_of conns app_ends conn began promise line_state state (came_in going.sits.answers) table going.places holds (empty is_all))) k one given;
        no_more = λ is_all. let (before, same) = said is_all in (before, cancel asked_old going.sits.answers (before ++ NoneEver ∷ []) (sym going.sits.asked ∙ same));
      }
