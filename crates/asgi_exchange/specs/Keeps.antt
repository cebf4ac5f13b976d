-- What every schedule of an exchange keeps.
use Rattle.std.specs.Prelude.{◌≡◌, ◌≢◌, None}
use mathlib.Core.List.{IsPrefix}
use Rattle.asgi_protocol.specs.Lawful.{IsLawful, IsClosed}
use Rattle.asgi_exchange.specs.Items.{end_of}
use Rattle.asgi_exchange.specs.Exchange.{Exchange}
use Rattle.asgi_exchange.specs.Views.{World, said_of, taken_of, output}
use Rattle.asgi_exchange.specs.Heard.{HearsDue}

pub record IsExchange {A W : Type 0} (x : Exchange A W) (w : World A W) : Type 0 where
  -- what was received is a beginning of what was due, and then equal disconnects with their cause
  pub heard : HearsDue x w
  -- what was sent is lawful
  pub lawful : IsLawful x.kind x.facts (said_of w.app)
  -- what was taken is a beginning of what was sent: all of it once the closing event or the end was taken
  pub taken : IsPrefix (taken_of w.conn) (said_of w.app)
  pub closed : IsClosed x.kind (taken_of w.conn) → taken_of w.conn ≡ said_of w.app
  pub ended : end_of w.conn.got ≢ None → taken_of w.conn ≡ said_of w.app
  -- the end that was taken is the one that was put
  pub end_is : end_of w.conn.got ≢ None → end_of w.conn.got ≡ end_of w.app.put
  -- what was written is a beginning of what is to be written for what was taken
  pub written : IsPrefix w.conn.written (output x w.conn)
