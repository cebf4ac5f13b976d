-- Where a connection stands between two turns: what its fields say, read as one of four cases.
use Rattle.std.specs.Prelude.{Box, Option, Some, None}
use Rattle.std.specs.declared.alloc.Global.{Global}
use Rattle.asgi_conversation.specs.declared.report.Outcome.{Outcome}
use Rattle.asgi_halves.specs.declared.half.HttpHalf.{HttpHalf}
use Rattle.asgi_halves.specs.declared.session_half.WebSocketHalf.{WebSocketHalf}
use Rattle.asgi_halves.specs.declared.wire.Wire.{Wire}
use Rattle.asgi_conn.specs.declared.connection.Connection.{Connection}

-- `X` is what a runner keeps of an exchange
pub data Place (X : Type 0) : Type 0 where
  -- between two requests, or before the first one
  Between : Wire → Place X
  -- in an exchange over HTTP
  Http : HttpHalf → X → Place X
  -- in the exchange of an opening handshake
  Session : WebSocketHalf → X → Place X
  -- the connection has ended
  Ended : Outcome → Place X

-- An exchange is there, of a request or, once there is a session, of its handshake. With none, the connection has ended, or its next
-- request is due, and the wire is that of the half of requests.
abbrev pub place_at : {X : Type 0} → Option X → Option (Box WebSocketHalf Global) → Option Outcome → HttpHalf → Place X
place_at (Some exchange) None ended half = Http half exchange
place_at (Some exchange) (Some session) ended half = Session session.value exchange
place_at None session (Some outcome) half = Ended outcome
place_at None session None half = Between half.wire

abbrev pub place_of : {X : Type 0} → Connection X → Place X
place_of connection = place_at connection.exchange connection.session connection.ended connection.half
