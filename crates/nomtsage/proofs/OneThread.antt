-- A server in one thread promises what a server in seats does.
use Rattle.std.proofs.Common.{◌≡◌, ◌⊎◌, inl, inr, ◌∙◌, ap, refl, subst, sym, ◌≤◌, arith, ℕ, List, [], ◌∷◌, Option, Some, None, Result}
use Rattle.std.specs.Prelude.{IfSome}
use Rattle.std.specs.declared.io.Error.{Error}
use Rattle.asgi_types.specs.declared.incoming.Incoming.{Incoming}
use Rattle.asgi_types.specs.declared.limits.Limits.{Limits}
use Rattle.asgi_types.specs.declared.outgoing.Outgoing.{Outgoing}
use Rattle.asgi_types.specs.declared.state.StateValue.{StateValue}
use Rattle.asgi_ws.specs.Lines.{LineState}
use Rattle.asgi_apps.specs.Promises.{Promise}
use Rattle.asgi_conversation.specs.declared.report.Report.{Report}
use Rattle.asgi_lifespan.specs.Lifespan.{StartAnswer, started, failed, unsupported}
use Rattle.asgi_many.specs.declared.reactor.Next.{Next}
use Rattle.nomtsage.specs.declared.ending.Ending.{Ending}
use Rattle.nomtsage.specs.declared.ending.Served.{Served}
use Rattle.nomtsage.specs.declared.ending.Served.TheVariants as served
use Rattle.nomtsage.specs.declared.fault.ServeError.{ServeError}
use Rattle.nomtsage.specs.Seats.{RanFew, ServesSeats}
use Rattle.nomtsage.specs.Serving.{Follows, Lives, LivesOn, LivesOrNot, around}
use Rattle.nomtsage.specs.Tables.{EachServes, RanTablesFew, ServesTables, ServesThread, Thread, came_to, error_in, first_error, in_all, thread}

-- how one ended is how all did
in_all_one : (how : Served) → in_all how served.Each ≡ how
in_all_one served.Each = refl
in_all_one served.ListenerFailed = refl
in_all_one served.NoMemory = refl
in_all_one served.NoThread = refl
in_all_one served.TooLong = refl

-- its error is the first of all
if_error : (P : Error → Type 0) (why : Option Error) → IfSome (error_in why None) P → IfSome why P
if_error P (Some e) given = given
if_error P None given = given

module _ {L K : Type 0} (line_state : L → LineState) (tells : K → K → ℕ → Report → Type 0) (answers : Promise) (limits seconds : Limits) (teller : K) where
  -- It is one thread still, of which this holds.
  abbrev One : (Thread (Next L) K → Type 0) → List (Thread (Next L) K) → Type 0
  One P new = (one : Thread (Next L) K) × (new ≡ one ∷ []) × P one

  each_one : (state : List (List ℕ × StateValue)) (new : List (Thread (Next L) K)) (how : Served)
      → EachServes (ServesThread line_state tells answers seconds state) (thread [] teller None ∷ []) new how
      → One (λ one. ServesSeats line_state tells answers seconds one.why state (around [] teller) (around one.asked one.teller) how) new
  each_one state [] how none = absurd none
  each_one state (is ∷ []) how (one, others, serves, rest, same) = (
    is,
    refl,
    subst (λ h. ServesSeats line_state tells answers seconds is.why state (around [] teller) (around is.asked is.teller) h)
        (sym (same ∙ ap (λ o. in_all one o) rest ∙ in_all_one one)) serves,
  )
  each_one state (is ∷ more ∷ others) how (one, rest, serves, none, same) = absurd none

  tables_one : (state : List (List ℕ × StateValue)) (new : List (Thread (Next L) K)) (how : Served)
      → ServesTables line_state tells answers seconds state (thread [] teller None ∷ []) new how
      → One (λ one. ServesSeats line_state tells answers seconds one.why state (around [] teller) (around one.asked one.teller) how) new
  tables_one state new how (inl each) = each_one state new how each
  tables_one state new how (inr (same, is, several)) = absurd (several refl)

  follows_one : (told : Option StartAnswer) (heard : List Incoming) (said : List Outgoing) (new : List (Thread (Next L) K)) (before after : ℕ) (ends : Ending)
      → Follows (ServesTables line_state tells answers seconds) answers limits told heard said (thread [] teller None ∷ []) new before after ends
      → One (λ one. Follows (ServesSeats line_state tells answers seconds one.why) answers limits told heard said (around [] teller) (around one.asked one.teller) before after ends) new
  follows_one (Some (started state)) heard said new before after ends (how, answer, serves, stops, is) =
      let (one, same, seats) = tables_one state new how serves in (one, same, (how, answer, seats, stops, is))
  follows_one (Some unsupported) heard said new before after ends (how, serves, rests, is) =
      let (one, same, seats) = tables_one [] new how serves in (one, same, (how, seats, rests, is))
  follows_one (Some (failed message)) heard said new before after ends (same, rests, is) = (thread [] teller None, same, (refl, rests, is))
  follows_one None heard said new before after ends (same, rests, is) = (thread [] teller None, same, (refl, rests, is))

  lives_one : (new : List (Thread (Next L) K)) (before after : ℕ) (ends : Ending)
      → LivesOrNot (ServesTables line_state tells answers seconds) answers limits (thread [] teller None ∷ []) new before after ends
      → One (λ one. LivesOrNot (ServesSeats line_state tells answers seconds one.why) answers limits (around [] teller) (around one.asked one.teller) before after ends) new
  lives_one new before after ends (inl x) =
      let (one, same, follows) = follows_one _ x.heard x.said new x.between after ends x.follows in (
        one,
        same,
        inl record {
          heard = x.heard;
          said = x.said;
          ended = x.ended;
          hears = x.hears;
          lawful = x.lawful;
          promised = x.promised;
          gave_up = x.gave_up;
          between = x.between;
          turns = x.turns;
          follows = follows;
        },
      )
  lives_one new before after ends (inr (same, rests, is)) = (thread [] teller None, same, inr (refl, rests, is))

  lives_on_one : (new : List (Thread (Next L) K)) (ends : Ending)
      → LivesOn (ServesTables line_state tells answers seconds) answers limits (thread [] teller None ∷ []) new ends
      → One (λ one. LivesOn (ServesSeats line_state tells answers seconds one.why) answers limits (around [] teller) (around one.asked one.teller) ends) new
  lives_on_one new ends (inl (pauses, lives)) = let (one, same, on) = lives_one new 0 pauses ends lives in (one, same, inl (pauses, on))
  lives_on_one new ends (inr (same, is)) = (thread [] teller None, same, inr (refl, is))

-- what a server in one thread did is what a server in seats does
pub one_thread_is_in_seats : {L K : Type 0} (line_state : L → LineState) (tells : K → K → ℕ → Report → Type 0) (answers : Promise) (limits : Limits) (count : ℕ) (teller : K)
    (result : Result (Unit {0}) ServeError) → RanTablesFew line_state tells answers limits 1 count teller result → RanFew line_state tells answers limits count teller result
one_thread_is_in_seats line_state tells answers limits count teller result (x, few) =
    let (one, same, lives) = lives_on_one line_state tells answers limits x.seconds teller x.threads x.ends x.serves in
    let is_why = if_error (λ e. x.given ≡ e) one.why (subst (λ threads. IfSome (first_error threads) (λ e. x.given ≡ e)) same x.is_given) in
    let came : came_to (one ∷ []) ≤ count = subst (λ threads. came_to threads ≤ count) same few in (
      record {
        asked = one.asked;
        told = one.teller;
        why = one.why;
        seconds = x.seconds;
        in_seconds = x.in_seconds;
        ends = x.ends;
        serves = lives;
        given = x.given;
        is_why = is_why;
        result_is = x.result_is;
      },
      omega (arith, came),
    )
