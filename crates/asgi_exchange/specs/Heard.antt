-- What an application receives (ASGI, HTTP and WebSocket message format 2.4, "Disconnect").
use Rattle.std.specs.Prelude.{◌≡◌, ℕ, ◌⊎◌, List, ◌++◌, Some, replicate}
use mathlib.Core.List.{IsPrefix}
use Rattle.asgi_types.specs.declared.incoming.Incoming.{Incoming}
use Rattle.asgi_protocol.specs.Lawful.{IsClosed}
use Rattle.asgi_pipes.specs.Disconnects.{own_disconnect}
use Rattle.asgi_exchange.specs.Exchange.{Exchange, cut_disconnect}
use Rattle.asgi_exchange.specs.Views.{ByInput, ByCut, World, said_of}

-- why the disconnect is received after these events
pub data Cause {A W : Type 0} (x : Exchange A W) (w : World A W) (events : List Incoming) (disconnect : Incoming) : Type 0 where
  -- the application's own list is closed; the events are any beginning of what was due
  Closed : IsClosed x.kind (said_of w.app) → disconnect ≡ own_disconnect x.kind (said_of w.app) → Cause x w events disconnect
  -- the input ended, failed or was faulty; the events are all that was due from what arrived
  Input : w.conn.broken ≡ Some ByInput → events ≡ x.due w.conn.arrived → disconnect ≡ x.input_disconnect w.conn.arrived → Cause x w events disconnect
  -- the connection was cut short; the events are any beginning of what was due
  Cut : w.conn.broken ≡ Some ByCut → disconnect ≡ cut_disconnect x.kind → Cause x w events disconnect

-- a beginning of the events due, and then equal disconnects, which have a cause if there are any
pub record HearsDue {A W : Type 0} (x : Exchange A W) (w : World A W) : Type 0 where
  pub events : List Incoming
  pub times : ℕ
  pub disconnect : Incoming
  pub in_order : w.app.heard ≡ events ++ replicate times disconnect
  pub due : IsPrefix events (x.due w.conn.arrived)
  pub cause : (times ≡ 0) ⊎ Cause x w events disconnect
