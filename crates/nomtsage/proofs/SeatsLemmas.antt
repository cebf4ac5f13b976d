-- What a server in seats did, by what gets the reports alone.
use Rattle.std.proofs.Common.{◌≡◌, ◌+◌, ◌≤◌, ap, ap₂, arith, length, subst, ℕ, List, [], ◌∷◌, Option, Result}
use Rattle.std.specs.Prelude.{IfSome}
use Rattle.std.specs.declared.io.Error.{Error}
use Rattle.asgi_types.specs.declared.limits.Limits.{Limits}
use Rattle.asgi_types.specs.declared.state.StateValue.{StateValue}
use Rattle.asgi_ws.specs.Lines.{LineState}
use Rattle.asgi_apps.specs.Promises.{Promise}
use Rattle.asgi_desk.specs.Told.{Told}
use Rattle.asgi_conversation.specs.declared.report.Report.{Report}
use Rattle.asgi_many.specs.declared.reactor.Next.{Next}
use Rattle.asgi_many.specs.declared.seat.Departure.{Departure}
use Rattle.asgi_many.specs.declared.serving.Served as many_served
use Rattle.asgi_many.specs.Serving.{ServesMany, came_in}
use Rattle.asgi_reactor.specs.Accepting.{in_all}
use Rattle.nomtsage.specs.declared.ending.Ending.{Ending}
use Rattle.nomtsage.specs.declared.fault.ServeError.{ServeError}
use Rattle.nomtsage.specs.Running.{IsResultOf}
use Rattle.nomtsage.specs.Seats.{InSeconds, RanFew, ServesSeats, of_reports}
use Rattle.nomtsage.specs.Serving.{LivesOn, around}

module _ {K T : Type 0} (tells : K → K → ℕ → Report → Type 0) (part : T → K) where
  -- what is told of one that ends, if a part of the teller gets its report
  abbrev pub by_part : T → T → ℕ → Departure → Type 0
  by_part was is number departure = tells (part was) (part is) number departure.report

  told_part : (was is : T) (list : List (ℕ × Departure)) → Told by_part was is list → Told (of_reports tells) (part was) (part is) list
  told_part was is [] same = ap part same
  told_part was is (first ∷ list) (mid, this, rest) = (part mid, this, told_part mid is list rest)

  -- the part got the reports, once each
  pub served_part : {L : Type 0} (line_state : L → LineState) (promise : Promise) (limits : Limits) (state : List (List ℕ × StateValue))
      (asked_old asked_new : List (Next L)) (was is : T) (how : many_served.Served)
      → ServesMany by_part promise line_state limits state asked_old asked_new was is how
      → ServesMany (of_reports tells) promise line_state limits state asked_old asked_new (part was) (part is) how
  served_part line_state promise limits state asked_old asked_new was is how x = record {
    answers = x.answers;
    asked = x.asked;
    ends = x.ends;
    served = x.served;
    told = told_part was is _ x.told;
    all = x.all;
    no_more = x.no_more;
  }

-- nothing was asked for, and nothing told
pub same_around : {Q K T : Type 0} (part : T → K) (asked_old asked_new : List Q) (was is : T) → asked_new ≡ asked_old → is ≡ was → around asked_new (part is) ≡ around asked_old (part was)
same_around part asked_old asked_new was is asked same = ap₂ (λ a t. around a (part t)) asked same

-- at most as many came as were left at first, if none had come before
few_came : {L : Type 0} (was asked : List (Next L)) (left_old left_new : ℕ) → was ≡ [] → in_all asked left_new ≡ in_all was left_old → length (came_in asked) ≤ left_old
few_came {L} was asked left_old left_new none same =
    let from_none : in_all was left_old ≡ in_all {L = L} [] left_old = ap (λ (l : List (Next L)). in_all l left_old) none in
    omega (arith, same, from_none)

-- what a server in seats did that had been asked for nothing before
pub ran_few : {L K : Type 0} (line_state : L → LineState) (tells : K → K → ℕ → Report → Type 0) (answers : Promise) (limits seconds : Limits)
    (was asked : List (Next L)) (left_old left_new : ℕ) (teller told : K) (why : Option Error) (ends : Ending) (given : Error) (result : Result (Unit {0}) ServeError) → was ≡ []
    → InSeconds limits seconds → LivesOn (ServesSeats line_state tells answers seconds why) answers limits (around was teller) (around asked told) ends
    → in_all asked left_new ≡ in_all was left_old
    → IfSome why (λ e. given ≡ e) → IsResultOf ends given result → RanFew line_state tells answers limits left_old teller result
ran_few {L} line_state tells answers limits seconds was asked left_old left_new teller told why ends given result none in_seconds serves kept is_why is = (
  record {
    asked = asked;
    told = told;
    why = why;
    seconds = seconds;
    in_seconds = in_seconds;
    ends = ends;
    serves = subst (λ (l : List (Next L)). LivesOn (ServesSeats line_state tells answers seconds why) answers limits (around l teller) (around asked told) ends) none serves;
    given = given;
    is_why = is_why;
    result_is = is;
  },
  few_came was asked left_old left_new none kept,
)
