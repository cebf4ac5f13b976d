-- How a server serves in seats: many connections in one thread, each taken up turn by turn.
use Rattle.std.specs.Prelude.{◌≡◌, ◌⊎◌, ◌+◌, ◌*◌, ◌<◌, ◌≤◌, ℕ, List, [], length, Option, Some, None, Result, IfSome}
use Rattle.std.specs.Result.{IsErrOf}
use Rattle.std.specs.declared.io.Error.{Error}
use Rattle.asgi_types.specs.declared.limits.Limits.{Limits}
use Rattle.asgi_types.specs.declared.state.StateValue.{StateValue}
use Rattle.asgi_types.specs.Ranges.{AreLimits}
use Rattle.asgi_ws.specs.Lines.{LineState}
use Rattle.asgi_apps.specs.Promises.{Promise}
use Rattle.asgi_conversation.specs.declared.report.Report.{Report}
use Rattle.asgi_many.specs.declared.reactor.Next.{Next}
use Rattle.asgi_many.specs.declared.seat.Departure.{Departure}
use Rattle.asgi_many.specs.declared.serving.Served as many_served
use Rattle.asgi_many.specs.declared.serving.Served.TheVariants as many
use Rattle.asgi_many.specs.Serving.{ServesMany, came_in}
use Rattle.nomtsage.specs.declared.ending.Ending.{Ending}
use Rattle.nomtsage.specs.declared.ending.Served.{Served}
use Rattle.nomtsage.specs.declared.ending.Served.TheVariants as served
use Rattle.nomtsage.specs.declared.fault.ListenFault.{ListenFault}
use Rattle.nomtsage.specs.declared.fault.ServeError.{ServeError}
use Rattle.nomtsage.specs.declared.fault.ServeError.TheVariants as error
use Rattle.nomtsage.specs.Running.{IsResultOf, Settings, exit_of}
use Rattle.nomtsage.specs.Serving.{Around, LivesOn, around}

-- ---- the limits of a connection in a seat

-- 400 idle turns of the limits that were set are a second without a move, which is one idle turn in a seat; there is at least one
abbrev pub AreSeconds : ℕ → ℕ → Type 0
AreSeconds turns seconds = (1 ≤ seconds) × ((seconds * 400 ≤ turns) ⊎ (seconds ≡ 1)) × (turns < (seconds + 1) * 400)

-- all others are as they were set
abbrev pub InSeconds : Limits → Limits → Type 0
InSeconds set limits =
    (seconds : ℕ) × AreSeconds set.idle_turns seconds × AreLimits limits set.max_head set.max_headers set.max_body set.block set.ring seconds set.turns

-- ---- the connections and their reports

-- by how serving in seats ended, and the system's error if no connection could be accepted any more
abbrev pub served_in : many_served.Served → Option Error → Served
served_in many.All None = served.Each
served_in many.All (Some why) = served.ListenerFailed
served_in many.TooLong why = served.TooLong

-- of what is told as a connection ends, the report
abbrev pub of_reports : {K : Type 0} → (K → K → ℕ → Report → Type 0) → K → K → ℕ → Departure → Type 0
of_reports tells was is number departure = tells was is number departure.report

module _ {L K : Type 0} (line_state : L → LineState) (tells : K → K → ℕ → Report → Type 0) (answers : Promise) where
  -- The connections that came were served with this state, each once, as `Serves` of asgi_conn states; the teller got a report of each,
  -- once, as it ended, under the number of its arrival. Or memory for the seats was refused, and no connection was asked for.
  abbrev pub ServesSeats : Limits → Option Error → List (List ℕ × StateValue) → Around (Next L) K → Around (Next L) K → Served → Type 0
  ServesSeats limits why state old new how =
      ((end : many_served.Served) × ServesMany (of_reports tells) answers line_state limits state old.asked new.asked old.teller new.teller end × (how ≡ served_in end why))
      ⊎ ((new ≡ old) × (how ≡ served.NoMemory))

  -- ---- what a server did from the call of `run` to its return

  -- A socket was asked for connections, from the first on. Of those that came each was served in a seat, once, between a start and a stop that
  -- were answered; if the start failed, none was asked for.
  pub record RanSeats (limits : Limits) (teller : K) (result : Result (Unit {0}) ServeError) : Type 0 where
    -- the answer to each call for a connection, and what got the reports, as it then was
    pub asked : List (Next L)
    pub told : K
    -- the system's error, if no connection could be accepted any more
    pub why : Option Error
    -- the limits of each connection
    pub seconds : Limits
    pub in_seconds : InSeconds limits seconds
    pub ends : Ending
    pub serves : LivesOn (ServesSeats seconds why) answers limits (around [] teller) (around asked told) ends
    pub given : Error
    pub is_why : IfSome why (λ e. given ≡ e)
    pub result_is : IsResultOf ends given result

  -- the same, and at most so many connections came
  abbrev pub RanFew : Limits → (count : ℕ) → K → Result (Unit {0}) ServeError → Type 0
  RanFew limits count teller result = (ran : RanSeats limits teller result) × (length (came_in ran.asked) ≤ count)

  -- it served so as it was set, or the address can't be listened on, and nothing was started
  abbrev pub RunsSeats : Settings K → (count : ℕ) → Result (Unit {0}) ServeError → Type 0
  RunsSeats set count result = RanFew set.limits count set.teller result ⊎ ((why : ListenFault) × IsErrOf result (error.CannotListen set.address why))

  -- the same of a program that ends by it
  abbrev pub RunsSeatsTo : Settings K → (count : ℕ) → (status : ℕ) → Type 0
  RunsSeatsTo set count status = (result : Result (Unit {0}) ServeError) × RunsSeats set count result × (status ≡ exit_of result)
