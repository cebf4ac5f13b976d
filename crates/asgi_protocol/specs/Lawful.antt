-- The lists of events that an application may send in one scope (ASGI HTTP and WebSocket message
-- format 2.4, lifespan protocol 2.0).
use Rattle.std.specs.Prelude.{◌≡◌, ℕ, true, false, List, [], ◌∷◌, ◌++◌, map, Option, Some, None, is_some, ◌⊎◌}
use Rattle.asgi_types.specs.Fields.{HeaderField}
use Rattle.asgi_types.specs.declared.scope.Kind.{Kind}
use Rattle.asgi_types.specs.declared.scope.Kind.TheVariants.{Http, WebSocket, Lifespan}
use Rattle.asgi_types.specs.declared.facts.Facts.{Facts}
use Rattle.asgi_types.specs.declared.incoming.Payload.{Payload}
use Rattle.asgi_types.specs.declared.outgoing.Outgoing.{Outgoing}
use Rattle.asgi_types.specs.declared.outgoing.Outgoing.TheVariants.{ResponseStart, ResponseBody, ResponseTrailers, WsAccept, WsSend, WsClose, DenialStart, DenialBody, StartupComplete, StartupFailed, ShutdownComplete, ShutdownFailed}
use Rattle.asgi_types.specs.declared.state.StateValue.{StateValue}
use Rattle.asgi_protocol.specs.Rules.{MeetsRules}

-- the fields of a trailer section (RFC 9110, section 6.5), as an application sends them: some with `more_trailers`, and the last ones
pub record Trailers : Type 0 where
  pub parts : List (List HeaderField)
  pub last : List HeaderField

abbrev pub trailer_events : Option Trailers → List Outgoing
trailer_events None = []
trailer_events (Some trailers) = map (λ part. ResponseTrailers part true) trailers.parts ++ ResponseTrailers trailers.last false ∷ []

-- HTTP: one "Response Start", bodies with `more_body`, and the last body; and if the start has announced them, "Response Trailers"
pub record IsResponse (events : List Outgoing) : Type 0 where
  pub status : ℕ
  pub headers : List HeaderField
  pub parts : List (List ℕ)
  pub last : List ℕ
  pub trailers : Option Trailers
  pub in_order : events ≡ ResponseStart status headers (is_some trailers) ∷ map (λ part. ResponseBody part true) parts ++ ResponseBody last false ∷ trailer_events trailers

-- WebSocket: "Accept", messages, and "Close"
pub record IsSession (events : List Outgoing) : Type 0 where
  pub subprotocol : Option (List ℕ)
  pub headers : List HeaderField
  pub messages : List Payload
  pub code : ℕ
  pub reason : List ℕ
  pub in_order : events ≡ WsAccept subprotocol headers ∷ map WsSend messages ++ WsClose code reason ∷ []

-- or "Close" alone
pub record IsRejection (events : List Outgoing) : Type 0 where
  pub code : ℕ
  pub reason : List ℕ
  pub in_order : events ≡ WsClose code reason ∷ []

-- or a denial, with the shape of a response
pub record IsDenial (events : List Outgoing) : Type 0 where
  pub status : ℕ
  pub headers : List HeaderField
  pub parts : List (List ℕ)
  pub last : List ℕ
  pub in_order : events ≡ DenialStart status headers ∷ map (λ part. DenialBody part true) parts ++ DenialBody last false ∷ []

-- Lifespan: "Startup Complete", and a reply to the shutdown
pub record IsService (events : List Outgoing) : Type 0 where
  pub state : List (List ℕ × StateValue)
  pub answer : Outgoing
  pub is_answer : (answer ≡ ShutdownComplete) ⊎ ((message : List ℕ) × (answer ≡ ShutdownFailed message))
  pub in_order : events ≡ StartupComplete state ∷ answer ∷ []

-- or "Startup Failed" alone
pub record IsFailedStart (events : List Outgoing) : Type 0 where
  pub message : List ℕ
  pub in_order : events ≡ StartupFailed message ∷ []

-- a whole word: all that an application sends in a scope of this kind
abbrev pub IsWord : Kind → List Outgoing → Type 0
IsWord Http events = IsResponse events
IsWord WebSocket events = IsSession events ⊎ IsRejection events ⊎ IsDenial events
IsWord Lifespan events = IsService events ⊎ IsFailedStart events

-- the events are the beginning of a word
abbrev pub BeginsWord : Kind → List Outgoing → Type 0
BeginsWord kind events = (rest : List Outgoing) × IsWord kind (events ++ rest)

-- lawful: the beginning of a word, in which each event meets the rules at its place
pub record IsLawful (kind : Kind) (facts : Facts) (events : List Outgoing) : Type 0 where
  pub begins : BeginsWord kind events
  pub each : (before after : List Outgoing) (event : Outgoing) → events ≡ before ++ event ∷ after → MeetsRules facts before event

-- closed: the word is whole, and its last event was the closing one
abbrev pub IsClosed : Kind → List Outgoing → Type 0
IsClosed kind events = IsWord kind events
