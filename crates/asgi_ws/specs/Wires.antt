-- How a call of a wired line relates to the call of the message layer below it.
use Rattle.std.specs.Prelude.{◌≡◌, ◌≢◌, ℕ, ◌<◌, List, [], ◌∷◌, Option, Some, None, Result, Ok, Err, length, ◌⊎◌, ⊤, Bool, true, false}
use Rattle.asgi_types.specs.declared.incoming.Payload.{Payload}
use Rattle.asgi_types.specs.declared.incoming.Payload.TheVariants as payload
use Rattle.tungstenite.specs.declared.message.Message.{Message}
use Rattle.tungstenite.specs.Content.{Content}
use Rattle.tungstenite.specs.Content as wire
use Rattle.tungstenite.specs.Connection.{Connection, Effect, write_step, close_step}
use Rattle.tungstenite.specs.declared.error.Error.{Error}
use Rattle.tungstenite.specs.Failure.{WriteFails, IsIo}
use Rattle.std.specs.IoError.{error_kind}
use Rattle.asgi_io.specs.Answers.{passes}
use Rattle.tungstenite.specs.declared.error.Error.TheVariants.{Io, ConnectionClosed, OutOfMemory, Protocol, Utf8, Capacity}
use Rattle.websocket.specs.declared.error.Error.{Error as FrameError}
use Rattle.asgi_ws.specs.declared.tap.Tap.{Tap}
use Rattle.asgi_ws.specs.declared.tap.Stop.{Stop}
use Rattle.asgi_ws.specs.declared.tap.Stop.TheVariants as stopped
use Rattle.tungstenite.specs.Socket.{Socket, Reads, Writes, IsFresh, content_of}
use Rattle.websocket.specs.declared.protocol.config.Role.TheVariants.{Server}
use Rattle.websocket.specs.declared.protocol.config.WebSocketConfig.{WebSocketConfig}
use Rattle.websocket.specs.CloseCode.{close_code_number, close_code_of}
use Rattle.websocket.specs.declared.protocol.frame.coding.CloseCode.{CloseCode}
use Rattle.websocket.specs.declared.protocol.frame.coding.CloseCode.TheVariants as why
use Rattle.asgi_ws.specs.declared.messages.Msg.{Msg}
use Rattle.asgi_ws.specs.declared.messages.Msg.TheVariants as msg
use Rattle.asgi_ws.specs.declared.messages.Got.{Got}
use Rattle.asgi_ws.specs.declared.messages.Got.TheVariants as got
use Rattle.asgi_ws.specs.declared.messages.Put.{Put}
use Rattle.asgi_ws.specs.declared.messages.Put.TheVariants as put

-- the message with this content on the wire
abbrev pub message_of : Content → Msg
message_of (wire.text s) = msg.Text s
message_of (wire.binary s) = msg.Bytes s
message_of (wire.ping s) = msg.Ping
message_of (wire.pong s) = msg.Pong
message_of (wire.close None) = msg.Close None
message_of (wire.close (Some frame)) = msg.Close (Some (close_code_number frame.0, frame.1))

-- text or bytes, which are copied: a ping and a pong are given without their data, and a reason has a place of its own
abbrev pub TakesMemory : Content → Type 0
TakesMemory (wire.text s) = ⊤
TakesMemory (wire.binary s) = ⊤
TakesMemory (wire.ping s) = ⊥
TakesMemory (wire.pong s) = ⊥
TakesMemory (wire.close frame) = ⊥

-- a close with a reason over 123 bytes: with its code it fits into no control frame (RFC 6455, section 5.5)
abbrev pub HasLongReason : Content → Type 0
HasLongReason (wire.text s) = ⊥
HasLongReason (wire.binary s) = ⊥
HasLongReason (wire.ping s) = ⊥
HasLongReason (wire.pong s) = ⊥
HasLongReason (wire.close None) = ⊥
HasLongReason (wire.close (Some frame)) = 123 < length frame.1

-- the result for a message of the layer: want of memory only if it is copied, and a failure only if its reason is too long
abbrev pub IsGotOf : Message → Got → Type 0
IsGotOf given (got.Message m) = m ≡ message_of (content_of given)
IsGotOf given got.Idle = ⊥
IsGotOf given got.Ended = ⊥
IsGotOf given got.Failed = HasLongReason (content_of given)
IsGotOf given got.NoMemory = TakesMemory (content_of given)

-- the stream was interrupted or would block
abbrev pub IsPassing : Error → Type 0
IsPassing (Io cause) = passes (error_kind cause) ≡ true
IsPassing e = ⊥

-- the result when the layer waits for the stream: the input is idle, has ended, or has failed, also by a write that timed out
abbrev pub waited_for : Option Stop → Got
waited_for None = got.Idle
waited_for (Some stopped.Ended) = got.Ended
waited_for (Some stopped.Failed) = got.Failed
waited_for (Some stopped.Stuck) = got.Failed

-- the result by what the layer's `read` returned, and by how the stream's input had stopped by then
abbrev pub IsAnswerTo : Result Message Error → Option Stop → Got → Type 0
IsAnswerTo (Ok given) stop answer = IsGotOf given answer
IsAnswerTo (Err e) stop (got.Message m) = ⊥
IsAnswerTo (Err e) stop got.Idle = IsPassing e × (stop ≡ None)
IsAnswerTo (Err e) stop got.Ended = (e ≡ ConnectionClosed) ⊎ (IsPassing e × (stop ≡ Some stopped.Ended))
IsAnswerTo (Err e) stop got.Failed = (e ≢ OutOfMemory) × (e ≢ ConnectionClosed) × (IsPassing e → (stop ≡ Some stopped.Failed) ⊎ (stop ≡ Some stopped.Stuck))
IsAnswerTo (Err e) stop got.NoMemory = e ≡ OutOfMemory

abbrev pub IfDone : Put → Type 0 → Type 0
IfDone put.Done P = P
IfDone put.Failed P = ⊤
IfDone put.NoMemory P = ⊤

-- this holds if the call failed
abbrev pub IfFailed : Put → Type 0 → Type 0
IfFailed put.Done P = ⊤
IfFailed put.Failed P = P
IfFailed put.NoMemory P = ⊤

-- this holds if memory was refused
abbrev pub IfNoMemory : Put → Type 0 → Type 0
IfNoMemory put.Done P = ⊤
IfNoMemory put.Failed P = ⊤
IfNoMemory put.NoMemory P = P

-- the result by the outcome of a send
abbrev pub IsPutOf : {A : Type 0} → Result A Error → Put → Type 0
IsPutOf (Ok done) answer = answer ≡ put.Done
IsPutOf (Err e) put.Done = ⊥
IsPutOf (Err e) put.Failed = e ≢ OutOfMemory
IsPutOf (Err e) put.NoMemory = e ≡ OutOfMemory

-- a payload as content on the wire
abbrev pub content_of_payload : Payload → Content
content_of_payload (payload.Text s) = wire.text s
content_of_payload (payload.Bytes s) = wire.binary s

-- the step of the protocol's state for a send and for a close
abbrev pub payload_step : Payload → Connection → Result Effect FrameError
payload_step payload conn = write_step conn (content_of_payload payload)

abbrev pub closing_step : ℕ → List ℕ → Connection → Result Effect FrameError
closing_step code reason conn = close_step conn (Some (close_code_of code, reason))

-- and for a ping with no data (RFC 6455, section 5.5.2)
abbrev pub ping_step : Connection → Result Effect FrameError
ping_step conn = write_step conn (wire.ping [])

-- the code that tells a client why its session fails (RFC 6455, sections 7.1.7 and 7.4.1): 1002 for a fault of the protocol, 1007 for text that is
-- not UTF-8, 1009 for what is too big; none where the stream or memory is at fault
abbrev pub failing_code : Result Message Error → Option CloseCode
failing_code (Err (Protocol cause)) = Some why.Protocol
failing_code (Err Utf8) = Some why.Invalid
failing_code (Err (Capacity cause)) = Some why.Size
failing_code _ = None

module _ {S : Type 0} where
  -- a session of which it is said whether it still stands
  abbrev pub if_stands : Bool → Socket (Tap S) → Option (Socket (Tap S))
  if_stands true t = Some t
  if_stands false t = None

  -- A session whose client is told why it fails: a close with this code and no reason stands behind what was waiting, and went out as far as the
  -- stream took it; or nothing changed, for want of memory; or the session is no more, since the layer had no room for the close.
  abbrev pub TellsWhy : (Tap S → Option (List ℕ)) → Socket (Tap S) → Option (Socket (Tap S)) → Option CloseCode → Type 0
  TellsWhy contents s new None = new ≡ Some s
  TellsWhy contents s None (Some reason) = ⊤
  TellsWhy contents s (Some t) (Some reason) = Writes contents s t (close_step s.conn (Some (reason, []))) ⊎ (t ≡ s)

  -- Each result comes from one `read` of the layer. Where that failed by the client's fault, a close tells why.
  abbrev pub AnswersBy : (remaining contents : Tap S → Option (List ℕ)) → Socket (Tap S) → Option (Socket (Tap S)) → Got → Type 0
  AnswersBy remaining contents s new answer = (given : Result Message Error) × (after : Socket (Tap S))
      × Reads remaining s after given × IsAnswerTo given after.stream.stop answer × TellsWhy contents after new (failing_code given)

  -- and with no layer each read fails
  abbrev pub AnswersRead : (remaining contents : Tap S → Option (List ℕ)) → Option (Socket (Tap S)) → Option (Socket (Tap S)) → Got → Type 0
  AnswersRead remaining contents None new answer = (answer ≡ got.Failed) × (new ≡ None)
  AnswersRead remaining contents (Some s) new answer = AnswersBy remaining contents s new answer

  -- a send that the layer refused, or whose bytes the stream did not take: then the rest of them waits. The session stays
  abbrev pub IsRefused : (Tap S → Option (List ℕ)) → Option (Socket (Tap S)) → Option (Socket (Tap S)) → (Connection → Result Effect FrameError) → Type 0
  IsRefused contents None new step = new ≡ None
  IsRefused contents (Some s) None step = ⊥
  IsRefused contents (Some s) (Some t) step =
      (e : Error) × WriteFails (step s.conn) e × (e ≢ OutOfMemory) × (IsIo e → Writes contents s t (step s.conn))

  -- the whole frame was written, after what was waiting
  abbrev pub IsSent : (Tap S → Option (List ℕ)) → Option (Socket (Tap S)) → Option (Socket (Tap S)) → (Connection → Result Effect FrameError) → Type 0
  IsSent contents None new step = ⊥
  IsSent contents (Some s) None step = ⊥
  IsSent contents (Some s) (Some t) step = Writes contents s t (step s.conn) × (t.output ≡ [])

-- what a session takes: a message of at most 64 MiB, a frame of at most 16 MiB, and no frame that is not masked (RFC 6455, section 5.1)
pub record HasLimits (config : WebSocketConfig) : Type 0 where
  pub message : config.max_message_size ≡ Some 67108864
  pub frame : config.max_frame_size ≡ Some 16777216
  pub masked : config.accept_unmasked_frames ≡ false

abbrev pub first_of : List (List ℕ) → List ℕ
first_of [] = []
first_of (bytes ∷ more) = bytes

module _ {S : Type 0} where
  -- the stream of a line: its own, or that of its session
  abbrev pub held_by : Option S → Option (Socket (Tap S)) → Option S
  held_by stream None = stream
  held_by stream (Some t) = Some t.stream.stream

  -- the bytes of a line of text: the stream's own at first, and from `upgrade` on as they were then
  abbrev pub told_by : (S → Option (List ℕ)) → Option S → List S → Option (List ℕ)
  told_by bytes (Some stream) before = bytes stream
  told_by bytes None [] = None
  told_by bytes None (stream ∷ more) = bytes stream

  -- the bytes that `upgrade` kept, once it took the stream
  abbrev pub leftover_by : Option S → List (List ℕ) → Option (List ℕ)
  leftover_by (Some stream) kept = None
  leftover_by None kept = Some (first_of kept)

  -- a fresh session of a server on the stream, within the limits, whose first input is the leftover
  pub record IsSessionOn (stream : S) (leftover : List ℕ) (t : Socket (Tap S)) : Type 0 where
    pub fresh : IsFresh (record t { input = [] }) (record { stream = stream; stop = None }) Server
    pub input : t.input ≡ leftover
    pub limits : HasLimits t.conn.config

  -- the first upgrade begins a session on the stream
  abbrev pub BeginsSession : Option S → Option S → Option (Socket (Tap S)) → List ℕ → Type 0
  BeginsSession None after session leftover = ⊤
  BeginsSession (Some stream) (Some after) session leftover = ⊥
  BeginsSession (Some stream) None None leftover = ⊥
  BeginsSession (Some stream) None (Some t) leftover = IsSessionOn stream leftover t
