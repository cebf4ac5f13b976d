-- What every schedule of an HTTP exchange keeps: what was received, sent, taken and written (ASGI HTTP message format 2.4).
use Rattle.std.specs.Prelude.{◌≡◌, ◌≢◌, ℕ, ◌⊎◌, List, ◌++◌, Some, None, replicate}
use mathlib.Core.List.{IsPrefix}
use Rattle.asgi_types.specs.declared.facts.Facts.{Facts}
use Rattle.asgi_types.specs.declared.incoming.Incoming.{Incoming}
use Rattle.asgi_types.specs.declared.incoming.Incoming.TheVariants.{HttpDisconnect}
use Rattle.asgi_types.specs.declared.limits.Limits.{Limits}
use Rattle.asgi_types.specs.declared.scope.Kind.TheVariants.{Http}
use Rattle.asgi_protocol.specs.Lawful.{IsLawful, IsClosed}
use Rattle.asgi_request.specs.ChunkedBody.{BodyState}
use Rattle.asgi_request.specs.RequestEvents.{ReadsBody}
use Rattle.asgi_exchange.specs.ExchangeTexts.{input_of, text_of}
use Rattle.asgi_exchange.specs.Items.{end_of}
use Rattle.asgi_exchange.specs.Views.{ByInput, ByCut, World, said_of, taken_of}

-- why a disconnect was received after the first of the events that are due ("Disconnect")
abbrev pub HasCause : World ℕ ℕ → (events first : List Incoming) → Type 0
HasCause w events first =
    -- the response is complete
    IsClosed Http (said_of w.app)
    -- the input ended, failed or was faulty, and all events were received
    ⊎ (((w.conn.broken ≡ Some ByInput) × (first ≡ events))
    -- the connection was cut short
    ⊎ (w.conn.broken ≡ Some ByCut))

pub record IsHttpExchange (limits : Limits) (facts : Facts) (w : World ℕ ℕ) : Type 0 where
  -- what arrived is a body up to this state, from which these events are due
  pub events : List Incoming
  pub state : BodyState
  pub body : ReadsBody limits facts.framing w.conn.arrived events state
  -- the first of them were received, and then disconnects, which have a cause if there are any
  pub first : List Incoming
  pub times : ℕ
  pub heard : w.app.heard ≡ first ++ replicate times HttpDisconnect
  pub due : IsPrefix first events
  pub cause : (times ≡ 0) ⊎ HasCause w events first
  -- what was sent is lawful, and what was taken is a beginning of it: all of it once the last event or the end was taken
  pub lawful : IsLawful Http facts (said_of w.app)
  pub taken : IsPrefix (taken_of w.conn) (said_of w.app)
  pub closed : IsClosed Http (taken_of w.conn) → taken_of w.conn ≡ said_of w.app
  pub ended : end_of w.conn.got ≢ None → taken_of w.conn ≡ said_of w.app
  -- the end that was taken is the one that was put
  pub end_is : end_of w.conn.got ≢ None → end_of w.conn.got ≡ end_of w.app.put
  -- what was written is a beginning of the text of what was taken
  pub written : IsPrefix w.conn.written (text_of facts (taken_of w.conn) (end_of w.conn.got) (input_of state))
