-- What every schedule of a session keeps: what was received, sent, taken and written (ASGI WebSocket message format 2.4).
use Rattle.std.specs.Prelude.{◌≡◌, ◌≢◌, ℕ, ◌⊎◌, List, [], ◌++◌, Some, None, replicate}
use mathlib.Core.List.{IsPrefix}
use Rattle.asgi_types.specs.declared.facts.Facts.{Facts}
use Rattle.asgi_types.specs.declared.incoming.Incoming.{Incoming}
use Rattle.asgi_types.specs.declared.incoming.Incoming.TheVariants.{WsDisconnect}
use Rattle.asgi_types.specs.declared.scope.Kind.TheVariants.{WebSocket}
use Rattle.asgi_protocol.specs.Lawful.{IsLawful, IsClosed}
use Rattle.asgi_pipes.specs.Disconnects.{own_disconnect}
use Rattle.asgi_exchange.specs.Items.{end_of}
use Rattle.asgi_ws.specs.declared.messages.Msg.{Msg}
use Rattle.asgi_exchange.specs.Messages.{session_events, session_disconnect}
use Rattle.asgi_exchange.specs.Session.{Output, Handshake}
use Rattle.asgi_exchange.specs.Views.{ByInput, ByCut, World, said_of, taken_of}
use Rattle.asgi_exchange.specs.ExchangeTexts.{session_text}

-- why the disconnect was received after these events, and which one it is
abbrev pub HasSessionCause : World Msg Output → List Incoming → Incoming → Type 0
HasSessionCause w events disconnect =
    -- the application closed, denied or refused the session: its own code if the session was open, else 1006
    (IsClosed WebSocket (said_of w.app) × (disconnect ≡ own_disconnect WebSocket (said_of w.app)))
    -- the client closed, or the input ended or failed, and all that was due was received: the client's code, or 1006
    ⊎ (((w.conn.broken ≡ Some ByInput) × (events ≡ session_events w.conn.arrived) × (disconnect ≡ session_disconnect w.conn.arrived))
    -- the connection was cut short
    ⊎ ((w.conn.broken ≡ Some ByCut) × (disconnect ≡ WsDisconnect 1006 [])))

pub record IsSessionExchange (handshake : Handshake) (facts : Facts) (w : World Msg Output) : Type 0 where
  -- what was received is a beginning of the events that were due, and then equal disconnects
  pub events : List Incoming
  pub times : ℕ
  pub disconnect : Incoming
  pub heard : w.app.heard ≡ events ++ replicate times disconnect
  pub due : IsPrefix events (session_events w.conn.arrived)
  pub cause : (times ≡ 0) ⊎ HasSessionCause w events disconnect
  -- what was sent is lawful, and what was taken is a beginning of it: all of it once the last event or the end was taken
  pub lawful : IsLawful WebSocket facts (said_of w.app)
  pub taken : IsPrefix (taken_of w.conn) (said_of w.app)
  pub closed : IsClosed WebSocket (taken_of w.conn) → taken_of w.conn ≡ said_of w.app
  pub ended : end_of w.conn.got ≢ None → taken_of w.conn ≡ said_of w.app
  -- the end that was taken is the one that was put
  pub end_is : end_of w.conn.got ≢ None → end_of w.conn.got ≡ end_of w.app.put
  -- what was written is a beginning of what is to be written for what was taken
  pub written : IsPrefix w.conn.written (session_text handshake facts (taken_of w.conn) (end_of w.conn.got) w.conn.broken_first)
