-- The messages of a session, and what an application receives of them (RFC 6455, sections 5.5 to 5.6 and 7; ASGI
-- WebSocket message format 2.4, "Connect", "Receive" and "Disconnect").
use Rattle.std.specs.Prelude.{ℕ, Bool, List, [], ◌∷◌, Option, Some, None, is_some}
use Rattle.std.specs.List.{flat_map}
use Rattle.asgi_types.specs.declared.incoming.Incoming.{Incoming}
use Rattle.asgi_types.specs.declared.incoming.Incoming.TheVariants.{WsConnect, WsReceive, WsDisconnect}
use Rattle.asgi_types.specs.declared.incoming.Payload.TheVariants as payload
use Rattle.asgi_ws.specs.declared.messages.Msg.{Msg}
use Rattle.asgi_ws.specs.declared.messages.Msg.TheVariants.{Text, Bytes, Ping, Pong, Close}

-- what is received of one: nothing of a ping or a pong (sections 5.5.2 and 5.5.3)
abbrev pub events_in : Msg → List Incoming
events_in (Text text) = WsReceive (payload.Text text) ∷ []
events_in (Bytes bytes) = WsReceive (payload.Bytes bytes) ∷ []
events_in Ping = []
events_in Pong = []
events_in (Close close) = []

-- the messages before the first close: no data follows it (section 5.5.1)
abbrev pub before_close : List Msg → List Msg
before_close [] = []
before_close (Text text ∷ messages) = Text text ∷ before_close messages
before_close (Bytes bytes ∷ messages) = Bytes bytes ∷ before_close messages
before_close (Ping ∷ messages) = Ping ∷ before_close messages
before_close (Pong ∷ messages) = Pong ∷ before_close messages
before_close (Close close ∷ messages) = []

-- the content of the first close, if there is one
abbrev pub first_close : List Msg → Option (Option (ℕ × List ℕ))
first_close [] = None
first_close (Text text ∷ messages) = first_close messages
first_close (Bytes bytes ∷ messages) = first_close messages
first_close (Ping ∷ messages) = first_close messages
first_close (Pong ∷ messages) = first_close messages
first_close (Close close ∷ messages) = Some close

abbrev pub has_close : List Msg → Bool
has_close messages = is_some (first_close messages)

-- the events that are due: the client asks for a session, and then what is received of each message
abbrev pub session_events : List Msg → List Incoming
session_events messages = WsConnect ∷ flat_map events_in (before_close messages)

-- the disconnect of a close; 1005 if it has no code, and 1006 if there is no close (sections 7.1.5 and 7.4.1)
abbrev pub disconnect_of : Option (Option (ℕ × List ℕ)) → Incoming
disconnect_of None = WsDisconnect 1006 []
disconnect_of (Some None) = WsDisconnect 1005 []
disconnect_of (Some (Some (code, reason))) = WsDisconnect code reason

abbrev pub session_disconnect : List Msg → Incoming
session_disconnect messages = disconnect_of (first_close messages)
