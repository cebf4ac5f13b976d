-- What is sent for an opening handshake and for an answer (ASGI WebSocket, "Accept", "Send" and "Close"), and the session after it.
use Rattle.std.specs.Prelude.{List, [], ◌∷◌, ◌++◌, map, Option, Some, None, is_some, if◌then◌else◌}
use Rattle.asgi_types.specs.declared.outgoing.Outgoing.{Outgoing}
use Rattle.asgi_types.specs.declared.outgoing.Outgoing.TheVariants.{WsAccept, WsSend, WsClose}
use Rattle.asgi_apps.specs.Answers.{close_events}
use Rattle.asgi_talks.specs.declared.answer.Answer.{Answer}
use Rattle.asgi_talks.specs.declared.answer.Close.{Close}
use Rattle.asgi_talks.specs.declared.opened.Opened.{Opened}
use Rattle.asgi_talks.specs.declared.opened.Opened.TheVariants.{Accepted, Refused}

-- a close, if there is one
abbrev pub closing_events : Option Close → List Outgoing
closing_events None = []
closing_events (Some close) = WsClose close.code close.reason ∷ []

-- of an answer: its messages in order, and then its close
abbrev pub answer_events : Answer → List Outgoing
answer_events answer = map WsSend answer.messages ++ closing_events answer.close

-- of several answers, one after another
abbrev pub events_of : List Answer → List Outgoing
events_of [] = []
events_of (answer ∷ given) = answer_events answer ++ events_of given

module _ {S : Type 0} where
  -- of the handshake: the session is accepted, or refused
  abbrev pub opening_events : Opened S → List Outgoing
  opening_events (Accepted subprotocol headers session) = WsAccept subprotocol headers ∷ []
  opening_events Refused = close_events

  -- the session that goes on after the handshake; none, if it was refused
  abbrev pub session_of : Opened S → Option S
  session_of (Accepted subprotocol headers session) = Some session
  session_of Refused = None

  -- the session that goes on after an answer; none, if the answer closes it
  abbrev pub session_after : Answer → S → Option S
  session_after answer session = if is_some answer.close then None else Some session
