-- The exchange of an opening handshake, which is the last of its connection: a session, or an answer in its place (RFC 6455,
-- sections 1.2, 4.2.2 and 7; ASGI WebSocket message format 2.4). Whole lists alone: no sentence names a read, a queue or a write.
use Rattle.std.specs.Prelude.{◌≡◌, ℕ, ◌⊎◌, Bool, true, false, List, [], ◌∷◌, ◌++◌, map, Option, Some, None, if◌then◌else◌}
use mathlib.Core.List.{IsPrefix}
use Rattle.asgi_types.specs.Fields.{HeaderField}
use Rattle.asgi_types.specs.declared.end_kind.EndKind.{EndKind}
use Rattle.asgi_types.specs.declared.end_kind.EndKind.TheVariants as kind
use Rattle.asgi_types.specs.declared.facts.Facts.{Facts}
use Rattle.asgi_types.specs.declared.incoming.Incoming.{Incoming}
use Rattle.asgi_types.specs.declared.incoming.Incoming.TheVariants.{WsDisconnect}
use Rattle.asgi_types.specs.declared.limits.Limits.{Limits}
use Rattle.asgi_types.specs.declared.outgoing.Outgoing.{Outgoing}
use Rattle.asgi_types.specs.declared.outgoing.Outgoing.TheVariants.{WsAccept, DenialStart}
use Rattle.asgi_types.specs.declared.scope.Kind.TheVariants.{WebSocket}
use Rattle.asgi_protocol.specs.Lawful.{IsLawful, IsClosed}
use Rattle.asgi_protocol.specs.Shapes.{is_closed}
use Rattle.asgi_pipes.specs.Disconnects.{own_disconnect}
use Rattle.asgi_request.specs.Opened.{BeginsWithHandshake}
use Rattle.asgi_ws.specs.declared.messages.SentMessage.{SentMessage}
use Rattle.asgi_ws.specs.Handshake.{handshake_text}
use Rattle.asgi_ws.specs.declared.messages.Msg.{Msg}
use Rattle.asgi_exchange.specs.Messages.{has_close, session_events, session_disconnect}
use Rattle.asgi_exchange.specs.Session.{Output, Byte, Message, Handshake, session_output, session_ending}
use Rattle.asgi_exchange.specs.ExchangeTexts.{session_text}
use Rattle.asgi_conversation.specs.declared.report.Outcome.{Outcome}
use Rattle.asgi_conversation.specs.declared.report.Outcome.TheVariants.{Finished, Refused, InputBroke, Idle}
use Rattle.asgi_conversation.specs.OutcomeClasses.{OutcomeClass, class_of}
use Rattle.asgi_conversation.specs.ExchangeRecord.{ExchangeRecord, Hears, IsNext, StopsShort, EndsByClass}

-- ---- what passed over the line besides the text

pub record SessionTraffic : Type 0 where
  -- the bytes after the handshake, which the line was given as the first ones of a session
  pub leftover : Option (List ℕ)
  -- the messages that the line gave, and whether it reported that no more come
  pub received : List Msg
  pub is_over : Bool
  -- the messages that the line took
  pub handed : List SentMessage

-- no messages, and no bytes after a handshake
abbrev pub no_traffic : SessionTraffic
no_traffic = record { leftover = None; received = []; is_over = false; handed = [] }

-- the text, and the messages after it
abbrev pub spoken : List ℕ → SessionTraffic → List Output
spoken text traffic = map Byte text ++ map Message traffic.handed

-- ---- what the application receives

-- Why disconnects are received after these events, and which ones ("Disconnect").
pub data IsLeft (cut : Bool) (x : ExchangeRecord) (received : List Msg) (first : List Incoming) (disconnect : Incoming) : Type 0 where
  -- the application closed, refused or denied the session: its own code if the session was open, else 1006
  ByApplication : IsClosed WebSocket x.said → disconnect ≡ own_disconnect WebSocket x.said → IsLeft cut x received first disconnect
  -- the client closed, or the input ended or failed, and all events were heard: the client's code, 1005 for none, else 1006
  ByClient : x.input_broke ≡ true → first ≡ session_events received → disconnect ≡ session_disconnect received → IsLeft cut x received first disconnect
  -- the connection was cut short
  ByCut : cut ≡ true → disconnect ≡ WsDisconnect 1006 [] → IsLeft cut x received first disconnect

-- ---- what is written

-- the text that accepts the handshake of the facts
abbrev pub handshake_of : Facts → Handshake
handshake_of facts = handshake_text facts.key

-- all that is to be written of what the application sent
abbrev pub said_out : ExchangeRecord → List Output
said_out x = session_output (handshake_of x.facts) x.facts x.said

-- the same, and what the end of its task adds
abbrev pub session_out : ExchangeRecord → List Output
session_out x = session_text (handshake_of x.facts) x.facts x.said x.ended x.input_broke

-- ---- the exchange

-- The line carries messages only once the accept is written whole, and begins with the bytes after the handshake; for a
-- session that is not accepted there is no traffic.
pub data Opens (frames : List ℕ) (x : ExchangeRecord) (traffic : SessionTraffic) (text : List ℕ) : Type 0 where
  Accepted : (subprotocol : Option (List ℕ)) (headers : List HeaderField) (events : List Outgoing) → x.said ≡ WsAccept subprotocol headers ∷ events
      → text ≡ handshake_of x.facts subprotocol headers → traffic.leftover ≡ Some frames → Opens frames x traffic text
  Silent : traffic ≡ no_traffic → Opens frames x traffic text

-- The exchange is that of the handshake that the bytes begin with: its scope and facts are those of the head, the events
-- heard are of the messages, and the events sent are lawful.
pub record ServesHandshake (limits : Limits) (cut : Bool) (bytes : List ℕ) (x : ExchangeRecord) (traffic : SessionTraffic) (text : List ℕ) : Type 0 where
  pub frames : List ℕ
  pub head : BeginsWithHandshake limits bytes x.scope x.facts frames
  pub opens : Opens frames x traffic text
  pub disconnect : Incoming
  pub hears : Hears (session_events traffic.received) disconnect (λ first. IsLeft cut x traffic.received first disconnect) x.heard
  pub lawful : IsLawful WebSocket x.facts x.said
  pub breaks : x.input_broke ≡ true → (has_close traffic.received ≡ true) ⊎ (traffic.is_over ≡ true)

-- ---- what the end of its task means for the connection

-- A session that the application left open: the server closes it, if neither the client nor the end of the input did before.
abbrev pub open_outcome : (input_broke : Bool) → List Msg → Outcome
open_outcome false received = Finished
open_outcome true received = if has_close received then Finished else InputBroke

-- by what was sent: the server answers in place of a task that gave no answer, and of one that only began a denial
abbrev pub session_outcome : List Outgoing → (input_broke : Bool) → List Msg → Outcome
session_outcome [] input_broke received = Refused 500
session_outcome (DenialStart status headers ∷ []) input_broke received = Refused 500
session_outcome (WsAccept subprotocol headers ∷ events) input_broke received =
    if is_closed WebSocket (WsAccept subprotocol headers ∷ events) then Finished else open_outcome input_broke received
session_outcome _ input_broke received = Finished

-- by how the task ended; a task that a limit on turns ended ends the connection too
abbrev pub after_session : EndKind → List Outgoing → (input_broke : Bool) → List Msg → Outcome
after_session kind.Returned said input_broke received = session_outcome said input_broke received
after_session kind.Faulted said input_broke received = session_outcome said input_broke received
after_session kind.Idle said input_broke received = Idle

-- the outcome is that of the end of the task, and all is written
abbrev pub IsSessionDone : Outcome → ExchangeRecord → SessionTraffic → List ℕ → Type 0
IsSessionDone outcome x traffic text =
    (kind : EndKind) × (x.ended ≡ Some kind) × (after_session kind x.said x.input_broke traffic.received ≡ outcome) × (spoken text traffic ≡ session_out x)

-- what is written for the events of a session, and what its end adds
abbrev pub IsNextOutput : ExchangeRecord → (out more : List Output) → Type 0
IsNextOutput x out more = IsNext (session_output (handshake_of x.facts) x.facts) (λ kind. session_ending x.facts x.said kind x.input_broke) x out more

-- a part of what came next went out
abbrev pub StopsSession : ℕ → ExchangeRecord → (written : List Output) → Type 0
StopsSession n x written = StopsShort (session_output (handshake_of x.facts) x.facts) (λ kind. session_ending x.facts x.said kind x.input_broke) n x written

-- What is written, by the class of the outcome. If the session was given up, or memory was refused, its end adds nothing.
abbrev pub EndsInSessionAs : OutcomeClass → Outcome → ExchangeRecord → SessionTraffic → List ℕ → Type 0
EndsInSessionAs class outcome x traffic text = EndsByClass class
    (IsSessionDone outcome x traffic text × (outcome ≡ InputBroke → traffic.is_over ≡ true))
    (λ n. StopsSession n x (spoken text traffic))
    (IsPrefix (spoken text traffic) (said_out x))

abbrev pub EndsInSession : Outcome → ExchangeRecord → SessionTraffic → List ℕ → Type 0
EndsInSession outcome x traffic text = EndsInSessionAs (class_of outcome) outcome x traffic text
