-- What a server in several threads did, by what each thread did.
use Rattle.std.proofs.Common.{◌≡◌, inl, inr, ap₂, refl, sym, subst, ◌≤◌, ℕ, List, [], ◌∷◌, All, length, map, replicate, Option, None, Result}
use Rattle.std.specs.Prelude.{IfSome}
use Rattle.std.proofs.lemmas.List.Elements.{All-head, All-tail, All-weaker}
use Rattle.std.specs.declared.io.Error.{Error}
use Rattle.asgi_types.specs.Scopes.{scope_with}
use Rattle.asgi_types.specs.declared.limits.Limits.{Limits}
use Rattle.asgi_types.specs.declared.scope.Peer.{Peer}
use Rattle.asgi_types.specs.declared.state.StateValue.{StateValue}
use Rattle.asgi_ws.specs.Lines.{LineState}
use Rattle.asgi_apps.specs.Promises.{Promise}
use Rattle.asgi_conversation.specs.ExchangeRecord.{ExchangeRecord}
use Rattle.asgi_conversation.specs.Promised.{IsPromised, task_end}
use Rattle.asgi_conversation.specs.declared.report.Report.{Report}
use Rattle.asgi_conn.specs.Serving.{Serves}
use Rattle.asgi_many.specs.declared.reactor.Next.{Next}
use Rattle.asgi_many.specs.declared.seat.Departure.{Departure}
use Rattle.asgi_many.specs.declared.serving.Served as many_served
use Rattle.asgi_many.specs.Serving.{ServesMany}
use Rattle.asgi_threads.specs.Abreast.{Each}
use Rattle.nomtsage.specs.declared.ending.Ending.{Ending}
use Rattle.nomtsage.specs.declared.ending.Served.{Served}
use Rattle.nomtsage.specs.declared.fault.ServeError.{ServeError}
use Rattle.nomtsage.specs.Promises.{PromisesWithin}
use Rattle.nomtsage.specs.Running.{IsResultOf}
use Rattle.nomtsage.specs.Seats.{InSeconds, ServesSeats, of_reports}
use Rattle.nomtsage.specs.Serving.{Around, LivesOn}
use Rattle.nomtsage.specs.Tables.{EachServes, RanTablesFew, ServesTables, Thread, came_to, first_error, thread}
use Rattle.nomtsage.specs.private.Together.{all_in}

module _ (one other : Promise) (within : PromisesWithin one other) (limits : Limits) (state : List (List ℕ × StateValue)) where
  -- What was served by one promise was served by each that this promise is within: one connection,
  serves_within : (client server : Option Peer) (old new : LineState) (before after : ℕ) (report : Report)
      → Serves one limits client server state old new before after report → Serves other limits client server state old new before after report
  serves_within client server old new before after report x = record {
    read = x.read;
    end = x.end;
    written = x.written;
    traffic = x.traffic;
    carried = x.carried;
    exchanges = x.exchanges;
    converses = x.converses;
    ahead = x.ahead;
    promised = All-weaker (IsPromised one client server state) (IsPromised other client server state)
        (λ (e : ExchangeRecord). within.within (scope_with e.scope client server state) e.heard e.said (task_end e.ended)) x.exchanges x.promised;
    turned = x.turned;
    counts = x.counts;
    idle = x.idle;
  }

  -- all that came to a table,
  many_within : {K L : Type 0} (tells : K → K → ℕ → Departure → Type 0) (line_state : L → LineState) (asked_old asked_new : List (Next L)) (was is : K) (how : many_served.Served)
      → ServesMany tells one line_state limits state asked_old asked_new was is how → ServesMany tells other line_state limits state asked_old asked_new was is how
  many_within tells line_state asked_old asked_new was is how x = record {
    answers = x.answers;
    asked = x.asked;
    ends = x.ends;
    served = record {
      each = λ i end at. let (came, found, served) = x.served.each i end at in
          (came, found, (served.0, serves_within came.client came.server (line_state came.line) (line_state end.line) 0 end.pauses end.report served.1));
      once = x.served.once;
    };
    told = x.told;
    all = x.all;
    no_more = x.no_more;
  }

  -- and that or nothing.
  pub seats_within : {K L : Type 0} (line_state : L → LineState) (tells : K → K → ℕ → Report → Type 0) (why : Option Error) (old new : Around (Next L) K) (how : Served)
      → ServesSeats line_state tells one limits why state old new how → ServesSeats line_state tells other limits why state old new how
  seats_within line_state tells why old new how (inl (end, serves, is)) =
      inl (end, many_within (of_reports tells) line_state old.asked new.asked old.teller new.teller end serves, is)
  seats_within line_state tells why old new how (inr none) = inr none

-- each part was served as its thread promises, so they were served together
each_served : {P T : Type 0} (works : P → P → Type 0) (old new : List P) → Each works old new
    → (serves : T → T → Served → Type 0) (part : P → T) (how_of : P → Served) → ((was is : P) → works was is → serves (part was) (part is) (how_of is))
    → EachServes serves (map part old) (map part new) (all_in (map how_of new))
each_served works [] [] each serves part how_of so = refl
each_served works (was ∷ old) (is ∷ new) (one, more) serves part how_of so =
    (how_of is, all_in (map how_of new), so was is one, each_served works old new more serves part how_of so, refl)
each_served works [] (is ∷ new) each serves part how_of so = absurd each
each_served works (was ∷ old) [] each serves part how_of so = absurd each

pub served_together : {P T : Type 0} (works : P → P → Type 0) (old new : List P) → Each works old new
    → (serves : T → T → Served → Type 0) (part : P → T) (how_of : P → Served) → ((was is : P) → works was is → serves (part was) (part is) (how_of is))
    → (how : Served) → how ≡ all_in (map how_of new) → EachServes serves (map part old) (map part new) how
served_together works old new each serves part how_of so how same =
    subst (λ h. EachServes serves (map part old) (map part new) h) (sym same) (each_served works old new each serves part how_of so)

-- what no thread has been asked for anything, and each has the teller that was set
pub all_fresh : {P Q K : Type 0} (asked : P → List Q) (teller : P → K) (why : P → Option Error) (set : K) (xs : List P)
    → All (λ p. (asked p ≡ []) × (why p ≡ None) × (teller p ≡ set)) xs → map (λ p. thread (asked p) (teller p) (why p)) xs ≡ replicate (length xs) (thread [] set None)
all_fresh asked teller why set [] all = refl
all_fresh {P} {Q} {K} asked teller why set (x ∷ xs) all =
    let this = All-head (λ (p : P). (asked p ≡ []) × (why p ≡ None) × (teller p ≡ set)) x xs all in
    let others = All-tail (λ (p : P). (asked p ≡ []) × (why p ≡ None) × (teller p ≡ set)) x xs all in
    let same : thread (asked x) (teller x) (why x) ≡ thread [] set None = rw (this.0, this.1, this.2) refl in
    ap₂ (λ (y : Thread Q K) (ys : List (Thread Q K)). y ∷ ys) same (all_fresh asked teller why set xs others)

-- what a server in several threads did that had been asked for nothing before
pub ran_tables : {L K : Type 0} (line_state : L → LineState) (tells : K → K → ℕ → Report → Type 0) (answers : Promise) (limits seconds : Limits) (count most : ℕ)
    (was threads : List (Thread (Next L) K)) (teller : K) (ends : Ending) (given : Error) (result : Result (Unit {0}) ServeError) → was ≡ replicate count (thread [] teller None)
    → InSeconds limits seconds → LivesOn (ServesTables line_state tells answers seconds) answers limits was threads ends
    → IfSome (first_error threads) (λ e. given ≡ e) → IsResultOf ends given result → came_to threads ≤ most
    → RanTablesFew line_state tells answers limits count most teller result
ran_tables {L} {K} line_state tells answers limits seconds count most was threads teller ends given result none in_seconds serves is_given is few = (
  record {
    threads = threads;
    seconds = seconds;
    in_seconds = in_seconds;
    ends = ends;
    serves = subst (λ (l : List (Thread (Next L) K)). LivesOn (ServesTables line_state tells answers seconds) answers limits l threads ends) none serves;
    given = given;
    is_given = is_given;
    result_is = is;
  },
  few,
)
