-- What is written in a session or in its place (ASGI WebSocket message format 2.4, "Accept", "Send" and "Close", and the
-- extension `websocket.http.response`; RFC 6455, sections 4.2.2, 5.6 and 7.1). An event that is not lawful in its place has no
-- text.
use Rattle.std.specs.Prelude.{ℕ, Bool, List, [], ◌∷◌, ◌++◌, Option, map, if◌then◌else◌}
use Rattle.std.specs.List.{flat_map, fold}
use Rattle.asgi_types.specs.Fields.{HeaderField}
use Rattle.asgi_types.specs.declared.end_kind.EndKind.{EndKind}
use Rattle.asgi_types.specs.declared.end_kind.EndKind.TheVariants.{Returned, Faulted, Idle}
use Rattle.asgi_types.specs.declared.facts.Facts.{Facts}
use Rattle.asgi_types.specs.declared.outgoing.Outgoing.{Outgoing}
use Rattle.asgi_types.specs.declared.outgoing.Outgoing.TheVariants.{WsAccept, WsSend, WsClose, DenialStart}
use Rattle.asgi_types.specs.declared.scope.Kind.TheVariants.{WebSocket}
use Rattle.asgi_protocol.specs.Shapes.{is_closed}
use Rattle.asgi_protocol.specs.Passing.{passes}
use Rattle.asgi_response.specs.Exchange.{refusal_text}
use Rattle.asgi_response.specs.Denial.{closing_facts, as_response, denial_text}
use Rattle.asgi_response.specs.Response.{event_text}
use Rattle.asgi_ws.specs.declared.messages.SentMessage.{SentMessage}
use Rattle.asgi_ws.specs.declared.messages.SentMessage.TheVariants as handed

-- a byte of a text, or a message of the server
pub data Output : Type 0 where
  Byte : ℕ → Output
  Message : SentMessage → Output

-- the text of the server's handshake, from the chosen subprotocol and the application's fields
abbrev pub Handshake : Type 0
Handshake = Option (List ℕ) → List HeaderField → List ℕ

-- ---- the events that have a text

abbrev pub with_session_event : Facts → List Outgoing → Outgoing → List Outgoing
with_session_event facts said event = if passes WebSocket facts said event then said ++ event ∷ [] else said

-- the events that pass, each judged after those that passed before it
abbrev pub accepted_session : Facts → List Outgoing → List Outgoing
accepted_session facts events = fold (with_session_event facts) [] events

-- ---- what is written for them

-- a message of an open session
abbrev pub message_of : Outgoing → List Output
message_of (WsSend payload) = Message (handed.Payload payload) ∷ []
message_of (WsClose code reason) = Message (handed.Close code reason) ∷ []
message_of _ = []

-- The handshake and then messages; or 403 if the session is refused; or a denial.
abbrev pub output_of : Handshake → Facts → List Outgoing → List Output
output_of handshake facts (WsAccept subprotocol headers ∷ events) = map Byte (handshake subprotocol headers) ++ flat_map message_of events
output_of handshake facts (WsClose code reason ∷ events) = map Byte (refusal_text 403)
output_of handshake facts (DenialStart status headers ∷ events) = map Byte (denial_text facts (DenialStart status headers ∷ events))
output_of handshake facts _ = []

-- what an event adds after these
abbrev pub event_output : Handshake → Facts → List Outgoing → Outgoing → List Output
event_output handshake facts [] (WsAccept subprotocol headers) = map Byte (handshake subprotocol headers)
event_output handshake facts [] (WsClose code reason) = map Byte (refusal_text 403)
event_output handshake facts [] event = []
event_output handshake facts (WsAccept subprotocol headers ∷ events) event = message_of event
event_output handshake facts (DenialStart status headers ∷ events) event =
    map Byte (event_text (closing_facts facts) (map as_response (DenialStart status headers ∷ events)) (as_response event))
event_output handshake facts _ event = []

abbrev pub session_output : Handshake → Facts → List Outgoing → List Output
session_output handshake facts events = output_of handshake facts (accepted_session facts events)

-- ---- what the end of the task adds

-- 500 if the client has no response yet; and a close if the session is still open, with no disconnect on its way to the
-- application
abbrev pub ending_of : (code : ℕ) → (broken : Bool) → List Outgoing → List Output
ending_of code broken [] = map Byte (refusal_text 500)
ending_of code broken (DenialStart status headers ∷ []) = map Byte (refusal_text 500)
ending_of code broken (WsAccept subprotocol headers ∷ events) =
    if is_closed WebSocket (WsAccept subprotocol headers ∷ events) then [] else (if broken then [] else Message (handed.Close code []) ∷ [])
ending_of code broken _ = []

-- 1000 means that the purpose is fulfilled, and 1011 that the server can't go on (RFC 6455, section 7.4.1); a limit of turns adds
-- nothing
abbrev pub session_ending : Facts → List Outgoing → EndKind → (broken : Bool) → List Output
session_ending facts events Returned broken = ending_of 1000 broken (accepted_session facts events)
session_ending facts events Faulted broken = ending_of 1011 broken (accepted_session facts events)
session_ending facts events Idle broken = []
