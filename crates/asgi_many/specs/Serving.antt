-- What a server of many connections promises: each that came is served once, and told of once.
use Rattle.std.specs.Prelude.{◌≡◌, ◌+◌, ◌⊎◌, ℕ, List, [], ◌∷◌, ◌++◌, map, Option, Some, None, slice_get}
use Rattle.asgi_types.specs.declared.end_kind.EndKind.{EndKind}
use Rattle.asgi_types.specs.declared.incoming.Incoming.{Incoming}
use Rattle.asgi_types.specs.declared.limits.Limits.{Limits}
use Rattle.asgi_types.specs.declared.outgoing.Outgoing.{Outgoing}
use Rattle.asgi_types.specs.declared.state.StateValue.{StateValue}
use Rattle.asgi_pipes.specs.declared.ends.AppEnd as app_end
use Rattle.asgi_pipes.specs.declared.ends.ConnEnd as conn_end
use Rattle.asgi_ws.specs.Lines.{LineState}
use Rattle.asgi_apps.specs.Promises.{Promise}
use Rattle.asgi_desk.specs.Told.{Told}
use Rattle.asgi_run.specs.declared.runner.AppSide.{AppSide}
use Rattle.asgi_many.specs.declared.reactor.Next.{Next}
use Rattle.asgi_many.specs.declared.reactor.Next.TheVariants.{Arrived, NoneNow, NoneEver}
use Rattle.asgi_many.specs.declared.seat.Departure.{Departure}
use Rattle.asgi_many.specs.declared.seat.Ended.{Ended}
use Rattle.asgi_many.specs.declared.seat.Newcomer.{Newcomer}
use Rattle.asgi_many.specs.declared.serving.Served.{Served}
use Rattle.asgi_many.specs.declared.serving.Served.TheVariants.{All}
use Rattle.asgi_many.specs.declared.table.Table.{Table}
use Rattle.asgi_many.specs.Seats.{EndsOf, KeepsEnds}
use Rattle.asgi_many.specs.Standing.{Holds, IsServed}

-- the connections that arrived, in order
abbrev pub came_in : {L : Type 0} → List (Next L) → List (Newcomer L)
came_in [] = []
came_in (Arrived newcomer ∷ more) = newcomer ∷ came_in more
came_in (NoneNow ∷ more) = came_in more
came_in (NoneEver ∷ more) = came_in more

abbrev pub end_number : {L : Type 0} → Ended L → ℕ
end_number end = end.number

-- what is told of an end: its report and its client
abbrev pub departure_of : {L : Type 0} → Ended L → Departure
departure_of end = record { report = end.report; client = end.client }

-- the same under the number of its arrival, 1 upwards
abbrev pub told_of : {L : Type 0} → Ended L → ℕ × Departure
told_of end = (end.number + 1, departure_of end)

-- From what was asked of the reactor to what is, and from the teller as it was to the teller as it is.
pub record ServesMany {K L : Type 0} (tells : K → K → ℕ → Departure → Type 0) (promise : Promise) (line_state : L → LineState) (limits : Limits)
    (state : List (List ℕ × StateValue)) (asked_old asked_new : List (Next L)) (teller_old teller_new : K) (how : Served) : Type 0 where
  -- how the reactor answered when it was asked for connections
  pub answers : List (Next L)
  pub asked : asked_new ≡ asked_old ++ answers
  -- the connections that have ended, in the order in which they did: of each that came one at the most, served as is promised of its own line
  pub ends : List (Ended L)
  pub served : EndsOf end_number (IsServed promise line_state limits state) (came_in answers) ends
  -- the teller got the report of each of them and its client once, as it ended
  pub told : Told tells teller_old teller_new (map told_of ends)
  -- if it did not end too soon, each that came has ended
  pub all : how ≡ All → (k : ℕ) (one : Newcomer L) → slice_get (came_in answers) k ≡ Some one
      → (i : ℕ) × (end : Ended L) × (slice_get ends i ≡ Some end) × (end.number ≡ k)
  -- and the last answer was that none will come any more
  pub no_more : how ≡ All → (before : List (Next L)) × (answers ≡ before ++ NoneEver ∷ [])

-- ---- words of private functions

-- The last time that a connection was asked for, the answer was that none will come any more.
abbrev pub SaidNoneEver : {L : Type 0} (asked_old asked_now : List (Next L)) → Type 0
SaidNoneEver {L} asked_old asked_now = (before : List (Next L)) × (asked_now ≡ asked_old ++ (before ++ NoneEver ∷ []))

-- a place more for what ends, or none
abbrev pub Adds : {E : Type 0} → List (Option E) → List (Option E) → Type 0
Adds places more = (more ≡ places) ⊎ (more ≡ places ++ None ∷ [])

module _ {T C E X L : Type 0} (answers_of : T → List Incoming → List Outgoing → Option EndKind → Type 0) (conns : conn_end.Ghosts C) (app_ends : app_end.Ghosts E) (conn : X → C)
    (began : X → AppSide T E → Type 0) (promise : Promise) (line_state : L → LineState) (limits : Limits) (state : List (List ℕ × StateValue)) where
  -- Those that the reactor gave sit in this table, or have ended at these places.
  pub record Sits (asked_old asked_now : List (Next L)) (places : List (Option (Ended L))) (table : Table X L) : Type 0 where
    pub answers : List (Next L)
    pub asked : asked_now ≡ asked_old ++ answers
    pub limited : table.limits ≡ limits
    pub holds : Holds answers_of conns app_ends conn began promise line_state state (came_in answers) table places

  -- A server stands there between two steps.
  pub record Going {K : Type 0} (tells : K → K → ℕ → Departure → Type 0) (asked_old asked_now : List (Next L)) (teller_old teller_now : K) (table : Table X L) : Type 0 where
    pub places : List (Option (Ended L))
    pub ends : List (Ended L)
    pub sits : Sits asked_old asked_now places table
    pub keeps : KeepsEnds end_number places ends
    pub told : Told tells teller_old teller_now (map told_of ends)
