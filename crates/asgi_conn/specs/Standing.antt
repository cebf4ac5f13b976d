-- Where a connection stands between two of its turns. Own: what is promised of a whole connection is `Serves`.
use Rattle.std.specs.Prelude.{◌≡◌, ℕ, ◌+◌, ◌≤◌, ◌<◌, ◌^◌, ⊤, List, [], ◌∷◌, ◌++◌, length, Option}
use Rattle.asgi_types.specs.declared.end_kind.EndKind.{EndKind}
use Rattle.asgi_types.specs.declared.facts.Facts.{Facts}
use Rattle.asgi_types.specs.declared.incoming.Incoming.{Incoming}
use Rattle.asgi_types.specs.declared.limits.Limits.{Limits}
use Rattle.asgi_types.specs.declared.outgoing.Outgoing.{Outgoing}
use Rattle.asgi_types.specs.declared.scope.Scope.{Scope}
use Rattle.asgi_types.specs.Scopes.{scope_with}
use Rattle.asgi_io.specs.declared.answer.Answer.{Answer}
use Rattle.asgi_io.specs.Answers.{turn_of}
use Rattle.asgi_io.specs.declared.turns.Turn.{Turn}
use Rattle.asgi_io.specs.declared.turns.Turn.TheVariants as turn
use Rattle.asgi_io.specs.Turns.{CountsTurns}
use Rattle.asgi_request.specs.declared.next.Next.{Next}
use Rattle.asgi_request.specs.Reading.{StandsFor}
use Rattle.asgi_pipes.specs.declared.ends.AppEnd as app_end
use Rattle.asgi_pipes.specs.declared.ends.ConnEnd as conn_end
use Rattle.asgi_exchange.specs.Calls.{IsViewOf, IsExchangeOf}
use Rattle.asgi_exchange.specs.Views.{ConnView}
use Rattle.asgi_conversation.specs.declared.following.NextStep.TheVariants.{NextRequest}
use Rattle.asgi_conversation.specs.declared.input.InputEnd.{InputEnd}
use Rattle.asgi_conversation.specs.declared.report.Outcome.{Outcome}
use Rattle.asgi_conversation.specs.declared.report.Outcome.TheVariants.{Idle}
use Rattle.asgi_conversation.specs.declared.report.Report.{Report}
use Rattle.asgi_conversation.specs.Conversation.{Conversation}
use Rattle.asgi_conversation.specs.Exchanges.{fault_count, heads_of, requests_of}
use Rattle.asgi_conversation.specs.ExchangeRecord.{ExchangeRecord}
use Rattle.asgi_conversation.specs.Persistence.{CountsExchanges}
use Rattle.asgi_conversation.specs.Promised.{ArePromised}
use Rattle.asgi_conversation.specs.Sessions.{SessionTraffic}
use Rattle.asgi_conversation.specs.SoFar.{Between}
use Rattle.asgi_apps.specs.Promises.{Promise}
use Rattle.asgi_run.specs.declared.exchange_half.Half as any_half
use Rattle.asgi_run.specs.declared.runner.AppSide.{AppSide}
use Rattle.asgi_run.specs.Limits.{IsAtLimit, IsSettled}
use Rattle.asgi_run.specs.Lines.{Transferred}
use Rattle.asgi_run.specs.Running.{OfEnd, IsOpened}
use Rattle.asgi_halves.specs.declared.stage.Stage.{Stage}
use Rattle.asgi_halves.specs.declared.stage.Stage.TheVariants.{Over, Cut}
use Rattle.asgi_halves.specs.declared.wire.Wire.{Wire}
use Rattle.asgi_halves.specs.contracts.impls.HttpHalfHalf.TheImpl as http_half
use Rattle.asgi_halves.specs.contracts.impls.WebSocketHalfHalf.TheImpl as session_half
use Rattle.asgi_halves.specs.HttpHalf.{HttpScene}
use Rattle.asgi_halves.specs.Kinds.{following_of}
use Rattle.asgi_halves.specs.ReadAhead.{ReadsAhead}
use Rattle.asgi_halves.specs.Traffic.{HasCarried, failures_in}
use Rattle.asgi_halves.specs.WebSocketHalf.{SessionScene}
use Rattle.asgi_ws.specs.Lines.{LineState}
use Rattle.asgi_conn.specs.declared.connection.Connection.{Connection}
use Rattle.asgi_conn.specs.Places.{Place, place_of}
use Rattle.asgi_conn.specs.Places as place
use Rattle.asgi_conn.specs.declared.connection.Step.{Step}
use Rattle.asgi_conn.specs.declared.connection.Step.TheVariants as step
use Rattle.asgi_conn.specs.declared.looking.Standing.{Standing}
use Rattle.asgi_conn.specs.declared.looking.Standing.TheVariants as standing
use Rattle.asgi_conn.specs.declared.setting.Setting.{Setting}
use Rattle.asgi_conn.specs.declared.tally.Tally.{Tally}

-- ---- between two requests

-- these results were given, and these bytes come after them
pub record BetweenRequests (limits : Limits) (start now : LineState) (wire : Wire) (read : List ℕ) (given : List Next) (exchanges : List ExchangeRecord) (after written : List ℕ) : Type 0 where
  pub moved : Transferred start now wire.input read written 0
  pub limits_are : (wire.limits ≡ limits) × (wire.requests.limits ≡ limits)
  pub between : Between limits wire.input read given exchanges after written
  pub stands : StandsFor wire.requests read given
  pub empty : wire.out.items ≡ []
  pub heads : heads_of given ≡ requests_of exchanges
  pub ahead : ReadsAhead limits read (requests_of exchanges)

-- ---- in an exchange

-- The half of an exchange stands in it, and its runner began it with what the call opened over a fresh end of its request.
pub record InExchange {H T C E X : Type 0} (halves : any_half.Ghosts H) (answers : T → List Incoming → List Outgoing → Option EndKind → Type 0) (conns : conn_end.Ghosts C)
    (ends : app_end.Ghosts E) (conn : X → C) (began : X → AppSide T E → Type 0) (promise : List Incoming → List Outgoing → Option EndKind → Type 0)
    (scene : halves.Scene) (now : LineState) (half : H) (read : List ℕ) (exchange : X) : Type 0 where
  pub view : ConnView halves.In halves.Out
  pub stands : halves.stands scene now half read view
  pub seen : IsViewOf conns (conn exchange) view
  pub side : AppSide T E
  pub begun : began exchange side
  pub fresh : E
  pub opened : IsOpened promise answers ends fresh side
  pub unheard : (ends.heard fresh ≡ []) × (ends.said fresh ≡ [])
  pub request : OfEnd side (λ app. IsExchangeOf ends app (halves.exchange scene))

-- the exchange after these, of which this was written
abbrev pub http_scene : Limits → LineState → List ExchangeRecord → List ℕ → Scope → Facts → List Next → HttpScene
http_scene limits start exchanges written scope facts opened =
    record { limits = limits; at = record { start = start; exchanges = exchanges; before = written; scope = scope; facts = facts; opened = opened } }

-- the same for an opening handshake, after which these frames came
abbrev pub session_scene : Limits → LineState → List ExchangeRecord → List ℕ → Scope → Facts → List ℕ → List ℕ → SessionScene
session_scene limits start exchanges written scope facts frames asked =
    record { limits = limits; start = start; exchanges = exchanges; before = written; scope = scope; facts = facts; frames = frames; read = asked }

-- ---- at the end

-- The connection has ended with this outcome, whatever else its report holds.
pub record EndsSo (limits : Limits) (start now : LineState) (read : List ℕ) (exchanges : List ExchangeRecord) (written : List ℕ) (outcome : Outcome) : Type 0 where
  pub end : InputEnd
  pub traffic : SessionTraffic
  pub carried : HasCarried start now end read written (failures_in outcome traffic) traffic
  pub converses : (report : Report) → report.outcome ≡ outcome → CountsExchanges report exchanges → Conversation limits end read exchanges traffic written report
  pub ahead : ReadsAhead limits read (requests_of exchanges)

-- ---- wherever it stands

-- the scope of a request, with what the connection knows
abbrev pub scope_in : Setting → Scope → Scope
scope_in setting scope = scope_with scope setting.client.now setting.server.now setting.state.now

-- what was received and sent in each of these exchanges is as the application promises it, in this setting
abbrev pub ArePromisedIn : Promise → Setting → List ExchangeRecord → Type 0
ArePromisedIn promise setting exchanges = ArePromised promise setting.client.now setting.server.now setting.state.now exchanges

-- these exchanges are counted, and those of them that faulted
abbrev pub IsTallied : Tally → List ExchangeRecord → Type 0
IsTallied tally exchanges = (tally.exchanges ≡ length exchanges) × (tally.faults ≡ fault_count exchanges)

-- there is room to count one more exchange: each that is followed by a request took a turn
abbrev pub HasRoom : {X : Type 0} → Place X → Tally → Type 0
HasRoom (place.Between wire) tally = tally.exchanges ≤ tally.turns.turns
HasRoom (place.Http half exchange) tally = (tally.exchanges ≤ tally.turns.turns) × (half.stage ≡ Over NextRequest → tally.exchanges < tally.turns.turns)
HasRoom (place.Session half exchange) tally = tally.exchanges ≤ tally.turns.turns
HasRoom (place.Ended outcome) tally = ⊤

-- The turns of a connection are counted within its limits, and the pauses since it began. It has ended as idle only at a limit.
pub record IsCounted {X : Type 0} (limits : Limits) (before pauses : ℕ) (at : Place X) (tally : Tally) : Type 0 where
  pub turn_limit : tally.turns.turn_limit ≡ limits.turns
  pub idle_limit : tally.turns.idle_limit ≡ limits.idle_turns
  pub turned : List Turn
  pub counts : CountsTurns limits.turns limits.idle_turns turned before pauses tally.turns.turns tally.turns.idle
  pub at_limit : at ≡ place.Ended Idle → IsAtLimit tally.turns
  pub within : tally.turns.turn_limit ≤ 2 ^ 48
  pub room : HasRoom at tally

module _ {T C E X : Type 0} (answers : T → List Incoming → List Outgoing → Option EndKind → Type 0) (conns : conn_end.Ghosts C) (ends : app_end.Ghosts E) (conn : X → C)
    (began : X → AppSide T E → Type 0) (promise : Promise) (limits : Limits) (setting : Setting) (start : LineState) where
  -- between two requests, in an exchange with what it was begun for, or at the end
  abbrev pub IsAt : Place X → LineState → List ℕ → List ExchangeRecord → List ℕ → Type 0
  IsAt (place.Between wire) now read exchanges written =
      (given : List Next) × (after : List ℕ) × BetweenRequests limits start now wire read given exchanges after written
  IsAt (place.Http half exchange) now read exchanges written =
      (scope : Scope) × (facts : Facts) × (opened : List Next)
      × InExchange http_half.ghosts answers conns ends conn began (promise (scope_in setting scope))
      (http_scene limits start exchanges written scope facts opened) now half read exchange
  IsAt (place.Session half exchange) now read exchanges written =
      (scope : Scope) × (facts : Facts) × (frames asked : List ℕ) × ReadsAhead limits asked (requests_of exchanges)
      × InExchange session_half.ghosts answers conns ends conn began (promise (scope_in setting scope))
      (session_scene limits start exchanges written scope facts frames asked) now half read exchange
  IsAt (place.Ended outcome) now read exchanges written = EndsSo limits start now read exchanges written outcome

  -- The connection stands there: its exchanges are as the application promises them, and are counted.
  pub record IsServing (now : LineState) (tally : Tally) (at : Place X) : Type 0 where
    pub read : List ℕ
    pub written : List ℕ
    pub exchanges : List ExchangeRecord
    pub promised : ArePromisedIn promise setting exchanges
    pub counted : IsTallied tally exchanges
    pub stands : IsAt at now read exchanges written

  -- It stands there, since its line was in the state `start` and there had been the pauses `before`.
  pub record Stands (before : ℕ) (now : LineState) (pauses : ℕ) (connection : Connection X) : Type 0 where
    pub serving : IsServing now connection.tally (place_of connection)
    pub counted : IsCounted limits before pauses (place_of connection) connection.tally

-- ---- what a turn answers

-- no report yet
abbrev pub GoesOn : Step → Type 0
GoesOn step.Moved = ⊤
GoesOn step.Idle = ⊤
GoesOn (step.Over report) = ⊥

-- what is answered of a turn: the last one of a task has moved something
abbrev pub step_of : Turn → Step
step_of turn.Moved = step.Moved
step_of turn.Idle = step.Idle
step_of turn.Last = step.Moved

-- what a turn counts as that leaves its exchange at this stage
abbrev pub counts_at : Stage → Turn → Turn
counts_at (Cut outcome) took = turn.Idle
counts_at stage took = took

-- What a turn counts as, by where it left the connection: behind a cut it is idle, whatever was dropped in it, until the exchange is over.
abbrev pub counts_as : {X : Type 0} → Place X → Turn → Turn
counts_as (place.Between wire) took = took
counts_as (place.Http half exchange) took = counts_at half.stage took
counts_as (place.Session half exchange) took = counts_at half.stage took
counts_as (place.Ended outcome) took = took

-- One turn was taken, and was this: a read between two requests, or one turn of the exchange.
abbrev pub TakesTurn : {X : Type 0} → (X → Turn → X → Type 0) → LineState → Place X → Turn → LineState → Place X → Type 0
TakesTurn takes was (place.Between wire) turn now (place.Between later) = (answer : Answer) × (now.reads ≡ was.reads ++ answer ∷ []) × (turn ≡ turn_of answer)
TakesTurn takes was (place.Http half exchange) turn now (place.Http later after) = takes exchange turn after
TakesTurn takes was (place.Session half exchange) turn now (place.Session later after) = takes exchange turn after
TakesTurn takes was at turn now then = ⊥

-- there is an exchange that is over, and not as idle: it is ended before the next turn
abbrev pub IsToEnd : {X : Type 0} → Place X → Type 0
IsToEnd (place.Between wire) = ⊥
IsToEnd (place.Http half exchange) = IsSettled (following_of half.stage)
IsToEnd (place.Session half exchange) = IsSettled (following_of half.stage)
IsToEnd (place.Ended outcome) = ⊥

-- what is told of where it stands
abbrev pub StandsAt : {X : Type 0} → Standing → Place X → Type 0
StandsAt standing.Between (place.Between wire) = ⊤
StandsAt standing.InRequest (place.Http half exchange) = ⊤
StandsAt standing.InSession (place.Session half exchange) = ⊤
StandsAt standing.Ended (place.Ended outcome) = ⊤
StandsAt standing at = ⊥

-- this holds of the report, if there is one
abbrev pub IfOver : Step → (Report → Type 0) → Type 0
IfOver step.Moved P = ⊤
IfOver step.Idle P = ⊤
IfOver (step.Over report) P = P report

-- the connection has ended, and this is its report
abbrev pub IsReportOf : {X : Type 0} → Connection X → Report → Type 0
IsReportOf connection report =
    (place_of connection ≡ place.Ended report.outcome) × (report.exchanges ≡ connection.tally.exchanges) × (report.faults ≡ connection.tally.faults)
    × (report.turns ≡ connection.tally.turns.turns) × (report.idle ≡ connection.tally.turns.idle)

-- one turn was taken, of the same limit
abbrev pub TakesOne : {X : Type 0} → Connection X → Connection X → Type 0
TakesOne old new = (new.tally.turns.turns ≡ old.tally.turns.turns + 1) × (new.tally.turns.turn_limit ≡ old.tally.turns.turn_limit)

-- ---- the calls of the application

-- an exchange was begun here, and is not counted yet
abbrev pub begun_at : {X : Type 0} → Place X → ℕ
begun_at (place.Between wire) = 0
begun_at (place.Http half exchange) = 1
begun_at (place.Session half exchange) = 1
begun_at (place.Ended outcome) = 0

-- the exchanges that a connection has begun: those that it has counted, and the one that it is in
abbrev pub exchanges_of : {X : Type 0} → Connection X → ℕ
exchanges_of connection = connection.tally.exchanges + begun_at (place_of connection)
