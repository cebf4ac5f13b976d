-- What the client of a session with `WsEcho` gets: its own messages, each once and in order, until its own close ends the session
-- (RFC 6455, sections 5.5.1 and 5.6; ASGI WebSocket, "Receive", "Send" and "Disconnect").
use Rattle.std.specs.Prelude.{◌≡◌, ℕ, ◌⊎◌, true, false, List, [], ◌∷◌, ◌++◌, Some, None}
use mathlib.Core.List.{IsPrefix}
use Rattle.asgi_types.specs.declared.end_kind.EndKind.TheVariants.{Faulted}
use Rattle.asgi_types.specs.declared.incoming.Payload.TheVariants as payload
use Rattle.asgi_response.specs.Exchange.{refusal_text}
use Rattle.asgi_ws.specs.declared.messages.SentMessage.{SentMessage}
use Rattle.asgi_ws.specs.declared.messages.SentMessage.TheVariants.{Payload}
use Rattle.asgi_ws.specs.declared.messages.Msg.{Msg}
use Rattle.asgi_ws.specs.declared.messages.Msg.TheVariants as msg
use Rattle.asgi_exchange.specs.Messages.{has_close, session_events, session_disconnect}
use Rattle.asgi_conversation.specs.declared.report.Outcome.{Outcome}
use Rattle.asgi_conversation.specs.declared.report.Outcome.TheVariants.{Finished, Refused, InputBroke}
use Rattle.asgi_conversation.specs.OutcomeClasses.{OutcomeClass, Uncut, ByWrite, GivenUp, Lacking, Unbegun, class_of}
use Rattle.asgi_conversation.specs.ExchangeRecord.{ExchangeRecord}
use Rattle.asgi_conversation.specs.Sessions.{SessionTraffic, no_traffic, handshake_of}

-- the payloads of the text and binary messages before the first close
abbrev pub payloads_in : List Msg → List SentMessage
payloads_in [] = []
payloads_in (msg.Text text ∷ messages) = Payload (payload.Text text) ∷ payloads_in messages
payloads_in (msg.Bytes bytes ∷ messages) = Payload (payload.Bytes bytes) ∷ payloads_in messages
payloads_in (msg.Ping ∷ messages) = payloads_in messages
payloads_in (msg.Pong ∷ messages) = payloads_in messages
payloads_in (msg.Close close ∷ messages) = []

-- All messages were sent back. `frames` are the bytes after the handshake in the bytes read.
pub record IsEchoed (frames : List ℕ) (session : ExchangeRecord) (traffic : SessionTraffic) (text : List ℕ) : Type 0 where
  -- the handshake was accepted, with no subprotocol and no fields of the application
  pub accepted : text ≡ handshake_of session.facts None []
  -- the line began with all bytes after the handshake
  pub begins : traffic.leftover ≡ Some frames
  -- the application received each event, and then the disconnect, once
  pub heard : session.heard ≡ session_events traffic.received ++ session_disconnect traffic.received ∷ []
  -- each payload was sent, once and in order, and nothing else: no close of the server
  pub handed : traffic.handed ≡ payloads_in traffic.received

-- The call gave no task, and the server answered in its place.
pub record IsRefused (status : ℕ) (session : ExchangeRecord) (traffic : SessionTraffic) (text : List ℕ) : Type 0 where
  pub failed : session.ended ≡ Some Faulted
  pub status_is : status ≡ 500
  pub text_is : text ≡ refusal_text 500
  pub quiet : traffic ≡ no_traffic

-- The text is a prefix of the answer to the handshake, and messages passed only after all of it.
pub record IsOpened (session : ExchangeRecord) (traffic : SessionTraffic) (text : List ℕ) : Type 0 where
  -- the handshake is accepted, or the server answers in place of a task that sent nothing
  pub text_is : IsPrefix text (handshake_of session.facts None []) ⊎ IsPrefix text (refusal_text 500)
  pub messages_follow : (traffic ≡ no_traffic) ⊎ (text ≡ handshake_of session.facts None [])

-- what was sent is a prefix of the payloads
abbrev pub IsBegun : SessionTraffic → Type 0
IsBegun traffic = IsPrefix traffic.handed (payloads_in traffic.received)

-- what the client got, by the outcome of the connection
abbrev pub EchoesUncut : Outcome → List ℕ → ExchangeRecord → SessionTraffic → List ℕ → Type 0
-- the client closed the session
EchoesUncut Finished frames session traffic text = IsEchoed frames session traffic text × (has_close traffic.received ≡ true)
-- the client did not close, and no more messages come
EchoesUncut InputBroke frames session traffic text = IsEchoed frames session traffic text × (has_close traffic.received ≡ false) × (traffic.is_over ≡ true)
EchoesUncut (Refused status) frames session traffic text = IsRefused status session traffic text
EchoesUncut _ frames session traffic text = ⊥

abbrev pub EchoesAs : OutcomeClass → Outcome → List ℕ → ExchangeRecord → SessionTraffic → List ℕ → Type 0
EchoesAs Uncut outcome frames session traffic text = EchoesUncut outcome frames session traffic text
-- cut short by a write, a limit or want of memory
EchoesAs (ByWrite n) outcome frames session traffic text = IsOpened session traffic text × IsBegun traffic
EchoesAs GivenUp outcome frames session traffic text = IsOpened session traffic text × IsBegun traffic
EchoesAs Lacking outcome frames session traffic text = IsOpened session traffic text × IsBegun traffic
-- no task was begun
EchoesAs Unbegun outcome frames session traffic text = ⊥

abbrev pub EchoesUntil : Outcome → List ℕ → ExchangeRecord → SessionTraffic → List ℕ → Type 0
EchoesUntil outcome frames session traffic text = EchoesAs (class_of outcome) outcome frames session traffic text
