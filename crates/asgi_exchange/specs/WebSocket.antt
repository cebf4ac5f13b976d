-- The exchange of an opening handshake: messages arrive, and what is written is a text and then messages.
use Rattle.std.specs.Prelude.{ℕ}
use Rattle.asgi_types.specs.declared.facts.Facts.{Facts}
use Rattle.asgi_types.specs.declared.scope.Kind.TheVariants.{WebSocket}
use Rattle.asgi_exchange.specs.Exchange.{Exchange}
use Rattle.asgi_ws.specs.declared.messages.Msg.{Msg}
use Rattle.asgi_exchange.specs.Messages.{has_close, session_events, session_disconnect}
use Rattle.asgi_exchange.specs.Session.{Output, Handshake, session_output, session_ending}

abbrev pub web_socket : Handshake → Facts → (ring : ℕ) → Exchange Msg Output
web_socket handshake facts ring = record {
  kind = WebSocket;
  facts = facts;
  due = session_events;
  is_over = has_close;
  input_disconnect = session_disconnect;
  text = session_output handshake facts;
  added = λ events kind broken messages. session_ending facts events kind broken;
  ring = ring;
}
