-- What an application receives (ASGI, HTTP "Disconnect" and WebSocket "Disconnect").
use Rattle.std.specs.Prelude.{◌≡◌, ℕ, ◌<◌, ◌⊎◌, Bool, true, false, ◌||◌, if◌then◌else◌, List, [], ◌∷◌, ◌++◌, Option, Some, None, is_some, replicate}
use Rattle.asgi_types.specs.declared.scope.Kind.{Kind}
use Rattle.asgi_types.specs.declared.scope.Kind.TheVariants.{Http, WebSocket, Lifespan}
use Rattle.asgi_types.specs.declared.incoming.Incoming.{Incoming}
use Rattle.asgi_types.specs.declared.incoming.Incoming.TheVariants.{HttpDisconnect, WsDisconnect}
use Rattle.asgi_types.specs.declared.outgoing.Outgoing.{Outgoing}
use Rattle.asgi_types.specs.declared.outgoing.Outgoing.TheVariants.{WsAccept, WsClose}
use Rattle.asgi_protocol.specs.Shapes.{is_closed}
use Rattle.asgi_protocol.specs.Verdicts.{is_disconnect}
use Rattle.asgi_pipes.specs.declared.disconnect.Disconnect.{Disconnect}
use Rattle.asgi_pipes.specs.declared.disconnect.Disconnect.TheVariants as disconnect

-- the event, if it is a disconnect
abbrev pub disconnect_in : Incoming → Option Incoming
disconnect_in event = if is_disconnect event then Some event else None

abbrev pub or_else : Option Incoming → Option Incoming → Option Incoming
or_else (Some event) other = Some event
or_else None other = other

-- the first disconnect of a list
abbrev pub first_disconnect : List Incoming → Option Incoming
first_disconnect [] = None
first_disconnect (event ∷ events) = or_else (disconnect_in event) (first_disconnect events)

abbrev pub has_disconnect : List Incoming → Bool
has_disconnect heard = is_some (first_disconnect heard)

-- a session was accepted
abbrev pub is_accept : Outgoing → Bool
is_accept (WsAccept subprotocol headers) = true
is_accept _ = false

abbrev pub is_accepted : List Outgoing → Bool
is_accepted [] = false
is_accepted (event ∷ events) = is_accept event || is_accepted events

abbrev pub last_of : List Outgoing → Option Outgoing
last_of [] = None
last_of (event ∷ []) = Some event
last_of (event ∷ another ∷ events) = last_of (another ∷ events)

-- the code of a close of an open session, else 1006 (RFC 6455, section 7.4.1)
abbrev pub code_of : Bool → Option Outgoing → ℕ
code_of true (Some (WsClose code reason)) = code
code_of _ _ = 1006

-- the disconnect that is received after the application's own closing event
abbrev pub own_disconnect : Kind → List Outgoing → Incoming
own_disconnect Http said = HttpDisconnect
own_disconnect _ said = WsDisconnect (code_of (is_accepted said) (last_of said)) []

-- What is received without a look at the queue: after the application's own closing event its disconnect, and a
-- received disconnect again. A lifespan scope has neither.
abbrev pub answer_at_once : Kind → List Outgoing → List Incoming → Option Incoming
answer_at_once Lifespan said heard = None
answer_at_once Http said heard = if is_closed Http said then Some (own_disconnect Http said) else first_disconnect heard
answer_at_once WebSocket said heard = if is_closed WebSocket said then Some (own_disconnect WebSocket said) else first_disconnect heard

-- the event of a disconnect (a word of private functions alone)
abbrev pub event_of : Disconnect → Incoming
event_of disconnect.Http = HttpDisconnect
event_of (disconnect.WebSocket code reason) = WsDisconnect code reason

-- why a disconnect was received, and what came through the queue by then
abbrev pub Cause : Kind → List Outgoing → List Incoming → List Incoming → Incoming → Type 0
Cause kind said events pulled event =
    -- the application has closed, and the events are what came through the queue
    ((is_closed kind said ≡ true) × (event ≡ own_disconnect kind said) × (pulled ≡ events))
    -- the disconnect came through the queue, as the last item
    ⊎ ((is_closed kind said ≡ false) × (disconnect_in event ≡ Some event) × (pulled ≡ events ++ event ∷ []))

-- events that came through the queue, and then equal disconnects
pub record HearsUntil (kind : Kind) (said : List Outgoing) (pulled heard : List Incoming) : Type 0 where
  pub events : List Incoming
  pub times : ℕ
  pub disconnect : Incoming
  pub in_order : heard ≡ events ++ replicate times disconnect
  pub no_other : first_disconnect events ≡ None
  pub cause : ((times ≡ 0) × (pulled ≡ events)) ⊎ ((0 < times) × Cause kind said events pulled disconnect)

-- A lifespan scope receives exactly what came through the queue.
abbrev pub Hears : Kind → List Outgoing → List Incoming → List Incoming → Type 0
Hears Http said pulled heard = HearsUntil Http said pulled heard
Hears WebSocket said pulled heard = HearsUntil WebSocket said pulled heard
Hears Lifespan said pulled heard = heard ≡ pulled

-- what is received again after an event that came through the queue (a word of private functions alone)
abbrev pub repeated_in : Kind → Incoming → Option Incoming
repeated_in Lifespan event = None
repeated_in _ event = disconnect_in event
