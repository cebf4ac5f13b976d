-- How a server serves in several threads: each has a table of its own, in which it serves in seats, and all share one socket that listens.
use Rattle.std.specs.Prelude.{◌≡◌, ◌≢◌, ◌⊎◌, ◌+◌, ◌≤◌, ℕ, List, [], ◌∷◌, length, replicate, Option, Some, None, Result, IfSome}
use Rattle.std.specs.declared.io.Error.{Error}
use Rattle.asgi_types.specs.declared.limits.Limits.{Limits}
use Rattle.asgi_types.specs.declared.state.StateValue.{StateValue}
use Rattle.asgi_ws.specs.Lines.{LineState}
use Rattle.asgi_apps.specs.Promises.{Promise}
use Rattle.asgi_conversation.specs.declared.report.Report.{Report}
use Rattle.asgi_many.specs.declared.reactor.Next.{Next}
use Rattle.asgi_many.specs.Serving.{came_in}
use Rattle.nomtsage.specs.declared.ending.Ending.{Ending}
use Rattle.nomtsage.specs.declared.ending.Served.{Served}
use Rattle.nomtsage.specs.declared.ending.Served.TheVariants as served
use Rattle.nomtsage.specs.declared.fault.ServeError.{ServeError}
use Rattle.nomtsage.specs.Running.{IsNumberBy, IsResultOf, IsUnbegun, Settings, exit_of}
use Rattle.nomtsage.specs.Seats.{InSeconds, ServesSeats}
use Rattle.nomtsage.specs.Serving.{LivesOn, around}

-- ---- what a thread is known by

-- The answer to each of its calls for a connection, what gets its reports, and the system's error, if it can accept none any more.
pub record Thread (Q K : Type 0) : Type 0 where
  pub asked : List Q
  pub teller : K
  pub why : Option Error

abbrev pub thread : {Q K : Type 0} → List Q → K → Option Error → Thread Q K
thread asked teller why = record { asked = asked; teller = teller; why = why }

-- how many connections came to all of them
abbrev pub came_to : {L K : Type 0} → List (Thread (Next L) K) → ℕ
came_to [] = 0
came_to (one ∷ others) = length (came_in one.asked) + came_to others

-- ---- how they ended in all

-- what went wrong in a thread comes before what went wrong in those after it
abbrev pub in_all : Served → Served → Served
in_all served.Each others = others
in_all served.ListenerFailed others = served.ListenerFailed
in_all served.NoMemory others = served.NoMemory
in_all served.NoThread others = served.NoThread
in_all served.TooLong others = served.TooLong

-- the first of the system's errors, if there is one
abbrev pub error_in : Option Error → Option Error → Option Error
error_in (Some why) others = Some why
error_in None others = others

abbrev pub first_error : {Q K : Type 0} → List (Thread Q K) → Option Error
first_error [] = None
first_error (one ∷ others) = error_in one.why (first_error others)

-- each thread served, and this is how they ended in all
abbrev pub EachServes : {T : Type 0} → (T → T → Served → Type 0) → List T → List T → Served → Type 0
EachServes serves [] [] how = how ≡ served.Each
EachServes serves (was ∷ old) (is ∷ new) how = (one others : Served) × serves was is one × EachServes serves old new others × (how ≡ in_all one others)
EachServes serves [] (is ∷ new) how = ⊥
EachServes serves (was ∷ old) [] how = ⊥

-- ---- the connections and their reports

module _ {L K : Type 0} (line_state : L → LineState) (tells : K → K → ℕ → Report → Type 0) (answers : Promise) where
  -- One thread served the connections that came to it as a server in seats does.
  abbrev pub ServesThread : Limits → List (List ℕ × StateValue) → Thread (Next L) K → Thread (Next L) K → Served → Type 0
  ServesThread limits state old new how =
      ServesSeats line_state tells answers limits new.why state (around old.asked old.teller) (around new.asked new.teller) how

  -- Each thread did, all with this state. Or, of several, one was refused, and none asked for a connection.
  abbrev pub ServesTables : Limits → List (List ℕ × StateValue) → List (Thread (Next L) K) → List (Thread (Next L) K) → Served → Type 0
  ServesTables limits state old new how =
      EachServes (ServesThread limits state) old new how ⊎ ((new ≡ old) × (how ≡ served.NoThread) × (length old ≢ 1))

  -- ---- what a server did from the call of `run` to its return

  -- So many threads asked one socket for connections, from the first on. Of those that came to a thread each was served in a seat of its table,
  -- once, between a start and a stop that were answered, of which there was one for all; if the start failed, none was asked for.
  pub record RanTables (limits : Limits) (count : ℕ) (teller : K) (result : Result (Unit {0}) ServeError) : Type 0 where
    -- each thread in the end; at first it had asked for nothing, and its teller was the one that was set
    pub threads : List (Thread (Next L) K)
    -- the limits of each connection
    pub seconds : Limits
    pub in_seconds : InSeconds limits seconds
    pub ends : Ending
    pub serves : LivesOn (ServesTables seconds) answers limits (replicate count (thread [] teller None)) threads ends
    pub given : Error
    pub is_given : IfSome (first_error threads) (λ e. given ≡ e)
    pub result_is : IsResultOf ends given result

  -- the same, and at most so many connections came to all threads together
  abbrev pub RanTablesFew : Limits → (threads count : ℕ) → K → Result (Unit {0}) ServeError → Type 0
  RanTablesFew limits threads count teller result = (ran : RanTables limits threads teller result) × (came_to ran.threads ≤ count)

  -- it served so, by as many threads as were set, or nothing was begun
  abbrev pub RunsTables : Settings K → (count : ℕ) → Result (Unit {0}) ServeError → Type 0
  RunsTables set count result = ((threads : ℕ) × IsNumberBy set.workers threads × RanTablesFew set.limits threads count set.teller result) ⊎ IsUnbegun set result

  -- the same of a program that ends by it
  abbrev pub RunsTablesTo : Settings K → (count : ℕ) → (status : ℕ) → Type 0
  RunsTablesTo set count status = (result : Result (Unit {0}) ServeError) × RunsTables set count result × (status ≡ exit_of result)
