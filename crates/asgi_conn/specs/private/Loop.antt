-- The steps of a connection between two turns: words of private functions. No promise is stated by them.
use Rattle.std.specs.Prelude.{◌≡◌, ◌≢◌, ◌⊎◌, ℕ, ◌<◌, ⊤, false, List, [], ◌∷◌, ◌++◌, Option, Some, None}
use Rattle.asgi_types.specs.declared.end_kind.EndKind.{EndKind}
use Rattle.asgi_types.specs.declared.facts.Facts.{Facts}
use Rattle.asgi_types.specs.declared.incoming.Incoming.{Incoming}
use Rattle.asgi_types.specs.declared.outgoing.Outgoing.{Outgoing}
use Rattle.asgi_types.specs.declared.scope.Kind.{Kind}
use Rattle.asgi_types.specs.declared.scope.Scope.{Scope}
use Rattle.asgi_request.specs.Reading.{IsWaiting}
use Rattle.asgi_pipes.specs.declared.ends.AppEnd as app_end
use Rattle.asgi_pipes.specs.declared.ends.ConnEnd as conn_end
use Rattle.asgi_conversation.specs.declared.following.NextStep.{NextStep}
use Rattle.asgi_conversation.specs.declared.following.NextStep.TheVariants.{NextRequest, ConnectionEnds}
use Rattle.asgi_conversation.specs.declared.report.Outcome.{Outcome}
use Rattle.asgi_conversation.specs.TaskEnds.{has_ended}
use Rattle.asgi_run.specs.declared.runner.AppSide.{AppSide}
use Rattle.asgi_run.specs.Running.{OfEnd, IsOpened}
use Rattle.asgi_halves.specs.declared.stage.Stage.TheVariants.{Over}
use Rattle.asgi_conn.specs.Places.{Place}
use Rattle.asgi_conn.specs.Places as place
use Rattle.asgi_conn.specs.Standing.{BetweenRequests, EndsSo}
use Rattle.asgi_io.specs.declared.turns.Turns.{Turns}
use Rattle.asgi_types.specs.declared.limits.Limits.{Limits}
use Rattle.asgi_request.specs.declared.next.Next.{Next}
use Rattle.asgi_conversation.specs.declared.report.Outcome.TheVariants.{Idle}
use Rattle.asgi_conversation.specs.ExchangeRecord.{ExchangeRecord}
use Rattle.asgi_run.specs.Limits.{IsAtLimit, IsSettled}
use Rattle.asgi_halves.specs.declared.wire.Wire.{Wire}
use Rattle.asgi_halves.specs.Kinds.{following_of}
use Rattle.asgi_ws.specs.Lines.{LineState}

-- what follows an exchange with which the connection has ended so, or has not
abbrev pub next_step_of : Option Outcome → NextStep
next_step_of None = NextRequest
next_step_of (Some outcome) = ConnectionEnds outcome

-- ---- where a turn is due

-- no limit on turns is reached
abbrev pub MayTurn : Turns → Type 0
MayTurn turns = (turns.turns < turns.turn_limit) × (turns.idle < turns.idle_limit)

-- more bytes are needed, and may come
abbrev pub Waits : Wire → Turns → Type 0
Waits wire turns = (has_ended wire.input ≡ false) × IsWaiting wire.requests × MayTurn turns

-- a turn is due, or the connection has ended
abbrev pub IsDue : {X : Type 0} → Place X → Turns → Type 0
IsDue (place.Between wire) turns = Waits wire turns
IsDue (place.Http half exchange) turns = MayTurn turns
IsDue (place.Session half exchange) turns = MayTurn turns
IsDue (place.Ended outcome) turns = ⊤

-- the same, or it is between two requests
abbrev pub IsDueOrBetween : {X : Type 0} → Place X → Turns → Type 0
IsDueOrBetween (place.Between wire) turns = ⊤
IsDueOrBetween (place.Http half exchange) turns = MayTurn turns
IsDueOrBetween (place.Session half exchange) turns = MayTurn turns
IsDueOrBetween (place.Ended outcome) turns = ⊤

-- after the reader's next result: more bytes are needed, an exchange has begun, or the connection has ended, as idle only at a limit
abbrev pub IsNext : {X : Type 0} → Place X → Turns → Type 0
IsNext (place.Between wire) turns = Waits wire turns
IsNext (place.Http half exchange) turns = half.stage ≢ Over NextRequest
IsNext (place.Session half exchange) turns = ⊤
IsNext (place.Ended outcome) turns = outcome ≡ Idle → IsAtLimit turns

-- an exchange is over, or a limit on turns is reached in it
abbrev pub IsOver : {X : Type 0} → Place X → Turns → Type 0
IsOver (place.Between wire) turns = ⊥
IsOver (place.Http half exchange) turns = IsAtLimit turns ⊎ IsSettled (following_of half.stage)
IsOver (place.Session half exchange) turns = IsAtLimit turns ⊎ IsSettled (following_of half.stage)
IsOver (place.Ended outcome) turns = ⊥

-- no exchange is there
abbrev pub IsFree : {X : Type 0} → Place X → Type 0
IsFree (place.Between wire) = ⊤
IsFree (place.Http half exchange) = ⊥
IsFree (place.Session half exchange) = ⊥
IsFree (place.Ended outcome) = ⊤

abbrev pub IsBetween : {X : Type 0} → Place X → Type 0
IsBetween (place.Between wire) = ⊤
IsBetween _ = ⊥

abbrev pub HasEnded : {X : Type 0} → Place X → Type 0
HasEnded (place.Ended outcome) = ⊤
HasEnded _ = ⊥

abbrev pub IsGoing : {X : Type 0} → Place X → Type 0
IsGoing (place.Ended outcome) = ⊥
IsGoing _ = ⊤

-- no request follows the exchange that is there, if there is one
abbrev pub IsOpen : {X : Type 0} → Place X → Type 0
IsOpen (place.Between wire) = ⊤
IsOpen (place.Http half exchange) = half.stage ≢ Over NextRequest
IsOpen (place.Session half exchange) = ⊤
IsOpen (place.Ended outcome) = ⊥

-- between two requests, or at the end
abbrev pub IsAtRest : {X : Type 0} → Place X → Limits → LineState → LineState → List ℕ → List ExchangeRecord → List ℕ → Type 0
IsAtRest (place.Between wire) limits start now read exchanges written =
    (given : List Next) × (after : List ℕ) × BetweenRequests limits start now wire read given exchanges after written
IsAtRest (place.Ended outcome) limits start now read exchanges written = EndsSo limits start now read exchanges written outcome
IsAtRest _ limits start now read exchanges written = ⊥

-- ---- an exchange begins

-- An exchange began with what a call opened over a fresh end of this request, and nothing passed yet.
pub record HasBegun {T C E X : Type 0} (answers : T → List Incoming → List Outgoing → Option EndKind → Type 0) (conns : conn_end.Ghosts C) (ends : app_end.Ghosts E) (conn : X → C)
    (began : X → AppSide T E → Type 0) (promise : List Incoming → List Outgoing → Option EndKind → Type 0) (kind : Kind) (facts : Facts) (exchange : X) : Type 0 where
  pub side : AppSide T E
  pub begun : began exchange side
  pub fresh : E
  pub opened : IsOpened promise answers ends fresh side
  pub unheard : (ends.heard fresh ≡ []) × (ends.said fresh ≡ [])
  pub request : OfEnd side (λ app. (kind ≡ ends.kind app) × (facts ≡ ends.facts app))
  pub empty : (conns.offered (conn exchange) ≡ []) × (conns.is_broken (conn exchange) ≡ false) × (conns.got (conn exchange) ≡ [])

-- The application was called with this scope once if an exchange is here, and not at all otherwise.
abbrev pub CallsWith : {X : Type 0} → Scope → Place X → List Scope → List Scope → Type 0
CallsWith scope (place.Between wire) old new = new ≡ old
CallsWith scope (place.Http half exchange) old new = new ≡ old ++ scope ∷ []
CallsWith scope (place.Session half exchange) old new = new ≡ old ++ scope ∷ []
CallsWith scope (place.Ended outcome) old new = new ≡ old
