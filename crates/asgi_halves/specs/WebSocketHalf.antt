-- The invariant of the half of an opening handshake's exchange, which the members of its `Half` name.
use Rattle.std.specs.Prelude.{◌≡◌, ◌⊎◌, ℕ, ⊤, Bool, true, false, List, [], ◌∷◌, ◌++◌, map, Option, Some, None, if◌then◌else◌, ◌≤◌, ◌+◌, ◌-◌, zero, suc}
use mathlib.Core.List.{IsPrefix}
use Rattle.asgi_types.specs.Fields.{HeaderField}
use Rattle.asgi_types.specs.declared.end_kind.EndKind.{EndKind}
use Rattle.asgi_types.specs.declared.facts.Facts.{Facts}
use Rattle.asgi_types.specs.declared.limits.Limits.{Limits}
use Rattle.asgi_types.specs.declared.outgoing.Outgoing.{Outgoing}
use Rattle.asgi_types.specs.declared.outgoing.Outgoing.TheVariants.{WsAccept, WsClose, DenialStart, DenialBody}
use Rattle.asgi_types.specs.declared.incoming.Incoming.{Incoming}
use Rattle.asgi_types.specs.declared.incoming.Incoming.TheVariants.{WsReceive, WsDisconnect}
use Rattle.asgi_types.specs.declared.incoming.Payload.TheVariants as payload
use Rattle.asgi_types.specs.declared.scope.Kind.TheVariants.{WebSocket}
use Rattle.asgi_types.specs.declared.scope.Scope.{Scope}
use Rattle.asgi_protocol.specs.declared.judge.Judge.{Judge}
use Rattle.asgi_protocol.specs.Passing.{passes}
use Rattle.asgi_protocol.specs.Shapes.{is_closed}
use Rattle.asgi_protocol.specs.Stages as judging
use Rattle.asgi_pipes.specs.declared.items.OutItem.TheVariants.{Event}
use Rattle.asgi_request.specs.declared.next.Next.{Next}
use Rattle.asgi_request.specs.declared.next.Next.TheVariants.{Head}
use Rattle.asgi_request.specs.Opened.{BeginsWithHandshake}
use Rattle.asgi_request.specs.Reading.{StandsFor}
use Rattle.asgi_response.specs.Standing as standing
use Rattle.asgi_response.specs.declared.text.ResponseText.{ResponseText}
use Rattle.asgi_exchange.specs.Exchange.{Exchange}
use Rattle.asgi_exchange.specs.Halves.{ConnKeeps}
use Rattle.asgi_exchange.specs.Items.{end_of}
use Rattle.asgi_exchange.specs.Messages.{has_close, disconnect_of, session_events, session_disconnect}
use Rattle.asgi_exchange.specs.Session.{Output, Byte, Message, accepted_session, session_output}
use Rattle.asgi_exchange.specs.ExchangeTexts.{session_text}
use Rattle.asgi_exchange.specs.Steps.{is_by_input, is_by_cut}
use Rattle.asgi_exchange.specs.Views.{ConnView, World, said_of, taken_of}
use Rattle.asgi_exchange.specs.WebSocket.{web_socket}
use Rattle.asgi_ws.specs.declared.messages.SentMessage.{SentMessage}
use Rattle.asgi_ws.specs.declared.messages.Got.{Got}
use Rattle.asgi_ws.specs.declared.messages.Got.TheVariants as got
use Rattle.asgi_ws.specs.declared.messages.Msg.{Msg}
use Rattle.asgi_ws.specs.declared.messages.Msg.TheVariants.{Text, Bytes, Ping, Pong, Close}
use Rattle.asgi_ws.specs.declared.messages.Put.{Put}
use Rattle.asgi_ws.specs.declared.messages.Put.TheVariants as put
use Rattle.asgi_conversation.specs.declared.following.NextStep.TheVariants.{NextRequest, ConnectionEnds}
use Rattle.asgi_conversation.specs.declared.report.Outcome.{Outcome}
use Rattle.asgi_conversation.specs.declared.report.Outcome.TheVariants.{Finished, WriteFailed, NoMemory}
use Rattle.asgi_conversation.specs.OutcomeClasses.{OutcomeClass, Uncut, ByWrite, GivenUp, Lacking, Unbegun, class_of}
use Rattle.asgi_conversation.specs.Exchanges.{AreAnswered, answer_texts, requests_of}
use Rattle.asgi_conversation.specs.ExchangeRecord.{ExchangeRecord}
use Rattle.asgi_conversation.specs.Sessions.{SessionTraffic, handshake_of, after_session, StopsSession}
use Rattle.asgi_conversation.specs.SoFar.{Between}
use Rattle.asgi_halves.specs.declared.stage.Stage.{Stage}
use Rattle.asgi_halves.specs.declared.stage.Stage.TheVariants.{Running, Ending, Cut, Over}
use Rattle.asgi_halves.specs.declared.session_half.Answered.{Answered}
use Rattle.asgi_halves.specs.declared.session_half.Answered.TheVariants.{Unanswered, Open, Closed, Refused}
use Rattle.asgi_halves.specs.declared.session_half.Answer.{Answer}
use Rattle.asgi_halves.specs.declared.session_half.Answer.TheVariants as to
use Rattle.asgi_halves.specs.declared.session_half.Reading.{Reading}
use Rattle.asgi_halves.specs.declared.session_half.Reading.TheVariants as reading
use Rattle.asgi_halves.specs.declared.session_half.Session.{Session}
use Rattle.asgi_halves.specs.declared.session_half.Session.TheVariants as session
use Rattle.asgi_halves.specs.declared.session_half.Side.TheVariants.{Application, Client}
use Rattle.asgi_halves.specs.declared.session_half.WebSocketHalf.{WebSocketHalf}
use Rattle.asgi_halves.specs.declared.wire.Wire.{Wire}
use Rattle.asgi_run.specs.AnyHalf.{PreservesInLine}
use Rattle.asgi_halves.specs.Half.{failures_at}
use Rattle.asgi_ws.specs.Lines.{LineState}
use Rattle.asgi_run.specs.Lines.{Transferred}
use Rattle.asgi_halves.specs.ReadAhead.{ReadsAhead}
use Rattle.asgi_halves.specs.Traffic.{HasCarried, drop_limit}
use Rattle.asgi_ws.specs.Sessions.{reads_after_close}
use Rattle.asgi_conversation.specs.declared.input.InputEnd.{InputEnd}

-- The traffic of a session so far, after which this many more messages may be read after a close.
pub record CarriesOn (start now : LineState) (end : InputEnd) (read text : List ℕ) (failures : ℕ) (traffic : SessionTraffic) (spare : ℕ) : Type 0 where
  pub carried : HasCarried start now end read text failures traffic
  pub within : reads_after_close carried.calls + spare ≤ drop_limit

-- The constants of one exchange: what was known of the line when the connection began, the exchanges before this one and what
-- was written for them, the handshake, the bytes after it, and all that was read: no more text is.
pub record SessionScene : Type 0 where
  pub limits : Limits
  pub start : LineState
  pub exchanges : List ExchangeRecord
  pub before : List ℕ
  pub scope : Scope
  pub facts : Facts
  pub frames : List ℕ
  pub read : List ℕ

-- the exchange of the scene
abbrev pub exchange_of : SessionScene → Exchange Msg Output
exchange_of scene = web_socket (handshake_of scene.facts) scene.facts scene.limits.ring

-- the exchange, as far as its connection knows it
abbrev pub known : SessionScene → ConnView Msg Output → ExchangeRecord
known scene view =
    record { scope = scene.scope; facts = scene.facts; heard = []; said = taken_of view; ended = end_of view.got; input_broke = is_by_input view.broken }

-- the exchange, as it is in the end
abbrev pub session_of : SessionScene → World Msg Output → ExchangeRecord
session_of scene w =
    record { scope = scene.scope; facts = scene.facts; heard = w.app.heard; said = said_of w.app; ended = end_of w.app.put; input_broke = is_by_input w.conn.broken }

-- what was taken, as far as a judge passes it
abbrev pub said_in : SessionScene → ConnView Msg Output → List Outgoing
said_in scene view = accepted_session scene.facts (taken_of view)

-- all that is to be written of what was taken
abbrev pub output_in : SessionScene → ConnView Msg Output → List Output
output_in scene view = session_output (handshake_of scene.facts) scene.facts (taken_of view)

-- ---- what does not change

-- The requests were answered, and after them comes the handshake.
pub record IsOf (scene : SessionScene) (facts : Facts) (wire : Wire) (read : List ℕ) : Type 0 where
  pub facts_are : facts ≡ scene.facts
  pub limits_are : wire.limits ≡ scene.limits
  pub after : List ℕ
  pub answered : AreAnswered scene.limits wire.input read scene.exchanges after
  pub head : BeginsWithHandshake scene.limits after scene.scope scene.facts scene.frames
  pub before_is : scene.before ≡ answer_texts scene.exchanges
  pub read_is : read ≡ scene.read

-- ---- the session

-- how far the application's answer to the handshake is
abbrev pub answer_of : Session → Answered
answer_of (session.Begun to.Awaited waits) = Unanswered
answer_of (session.Begun to.Accepted waits) = Open
answer_of (session.Begun to.Refused waits) = Refused
answer_of (session.Leaves event) = Open
answer_of session.Breaks = Open
answer_of session.Broken = Open
answer_of (session.Closed Client rest) = Open
answer_of (session.Closed Application rest) = Closed

-- the same session, with this answer to its handshake
abbrev pub answered_with : Answer → Session → Session
answered_with answer (session.Begun before waits) = session.Begun answer waits
answered_with answer other = other

-- how many messages may be read after a close; None once no message follows
abbrev pub rest_at : Session → Option ℕ
rest_at (session.Begun answer waits) = Some drop_limit
rest_at (session.Leaves event) = Some drop_limit
rest_at session.Breaks = None
rest_at session.Broken = None
rest_at (session.Closed side rest) = rest

-- no message follows
abbrev pub is_over_with : Option ℕ → Bool
is_over_with None = true
is_over_with (Some spare) = false

abbrev pub spare_with : Option ℕ → ℕ
spare_with None = 0
spare_with (Some spare) = spare

abbrev pub is_over_at : Session → Bool
is_over_at at = is_over_with (rest_at at)

abbrev pub spare_at : Session → ℕ
spare_at at = spare_with (rest_at at)

-- what is due to the application
abbrev pub due_at : Session → Option Incoming
due_at (session.Begun answer waits) = waits
due_at (session.Leaves event) = Some event
due_at session.Breaks = Some (WsDisconnect 1006 [])
due_at session.Broken = None
due_at (session.Closed side rest) = None

-- what is read: nothing where an event or a disconnect is due, or as many messages were dropped as may be
abbrev pub reads_at : Session → Reading
reads_at (session.Begun to.Awaited waits) = reading.Rests
reads_at (session.Begun to.Refused waits) = reading.Rests
reads_at (session.Begun to.Accepted None) = reading.Hears
reads_at (session.Begun to.Accepted (Some event)) = reading.Rests
reads_at (session.Leaves event) = reading.Rests
reads_at session.Breaks = reading.Rests
reads_at session.Broken = reading.Rests
reads_at (session.Closed side None) = reading.Rests
reads_at (session.Closed side (Some zero)) = reading.Rests
reads_at (session.Closed side (Some (suc spare))) = reading.Drops side (suc spare)

-- what is read after a close once this was: one message less, and none if none follows or memory was refused
abbrev pub rest_after : ℕ → Got → Option ℕ
rest_after spare (got.Message message) = Some (spare - 1)
rest_after spare got.Idle = Some (spare - 1)
rest_after spare got.Ended = None
rest_after spare got.Failed = None
rest_after spare got.NoMemory = Some 0

-- ---- the line

abbrev pub talk_in : WebSocketHalf → ConnView Msg Output → Option (List ℕ) → List SentMessage → SessionTraffic
talk_in half view leftover handed = record { leftover = leftover; received = view.arrived; is_over = is_over_at half.session; handed = handed }

-- the calls that failed, of text or of the session, however far the answer is
abbrev pub text_failures : Answered → Stage → ℕ
text_failures state stage = failures_at stage

-- no message passed by
pub record IsSilent (half : WebSocketHalf) (view : ConnView Msg Output) (leftover : Option (List ℕ)) (handed : List SentMessage) : Type 0 where
  pub kept : leftover ≡ None
  pub received : view.arrived ≡ []
  pub over : is_over_at half.session ≡ false
  pub sent : handed ≡ []

-- the accept is written whole, and the line carries messages, those in the bytes after the handshake first
pub record IsCarrying (scene : SessionScene) (view : ConnView Msg Output) (text : List ℕ) (leftover : Option (List ℕ)) : Type 0 where
  pub kept : leftover ≡ Some scene.frames
  pub subprotocol : Option (List ℕ)
  pub headers : List HeaderField
  pub events : List Outgoing
  pub said : said_in scene view ≡ WsAccept subprotocol headers ∷ events
  pub text_is : text ≡ handshake_of scene.facts subprotocol headers

abbrev pub IsCarried : Answered → SessionScene → WebSocketHalf → ConnView Msg Output → List ℕ → Option (List ℕ) → List SentMessage → Type 0
IsCarried Unanswered scene half view text leftover handed = IsSilent half view leftover handed × (half.leftover.items ≡ scene.frames)
IsCarried Refused scene half view text leftover handed = IsSilent half view leftover handed
IsCarried Open scene half view text leftover handed = IsCarrying scene view text leftover
IsCarried Closed scene half view text leftover handed = IsCarrying scene view text leftover

-- ---- what is due

abbrev pub waiting : Option Incoming → List Incoming
waiting None = []
waiting (Some event) = event ∷ []

-- What is due, by what was offered, the messages that arrived, and whether the disconnect for the client's close or for a broken
-- input was offered. All that is due was offered but for what waits, if the application did not close the session.
abbrev pub IsDue : Session → List Incoming → List Msg → (input_broke : Bool) → Type 0
IsDue (session.Begun answer waits) offered arrived input_broke =
    (input_broke ≡ false) × (offered ++ waiting waits ≡ session_events arrived) × (has_close arrived ≡ false)
IsDue (session.Leaves event) offered arrived input_broke =
    (input_broke ≡ false) × (offered ≡ session_events arrived) × (has_close arrived ≡ true) × (event ≡ session_disconnect arrived)
IsDue session.Breaks offered arrived input_broke = (input_broke ≡ false) × (offered ≡ session_events arrived) × (has_close arrived ≡ false)
IsDue session.Broken offered arrived input_broke = (input_broke ≡ true) × (has_close arrived ≡ false)
IsDue (session.Closed Client rest) offered arrived input_broke = (input_broke ≡ true) × (has_close arrived ≡ true)
IsDue (session.Closed Application rest) offered arrived input_broke = ⊤

-- ---- the stages

-- how far the answer to the handshake is, by what the application sent
abbrev pub answer_to : List Outgoing → Answered
answer_to (WsAccept subprotocol headers ∷ events) = if is_closed WebSocket (WsAccept subprotocol headers ∷ events) then Closed else Open
answer_to (WsClose code reason ∷ events) = Refused
answer_to _ = Unanswered

-- Not cut short, and all that was taken is written.
pub record Talks (scene : SessionScene) (half : WebSocketHalf) (view : ConnView Msg Output) : Type 0 where
  pub uncut : is_by_cut view.broken ≡ false
  pub due : IsDue half.session view.offered view.arrived (is_by_input view.broken)
  pub judged : judging.StandsFor half.judge WebSocket scene.facts (said_in scene view) false
  pub answered : answer_of half.session ≡ answer_to (said_in scene view)
  pub text : answer_of half.session ≡ Unanswered → standing.StandsForSession half.text scene.facts (said_in scene view)
  pub written : view.written ≡ output_in scene view
  pub empty : half.wire.out.items ≡ []

-- The connection is cut short: if a write failed, n bytes of what was next are out, else nothing.
abbrev pub IsCutShortAs : OutcomeClass → SessionScene → ConnView Msg Output → Type 0
IsCutShortAs Uncut scene view = ⊥
IsCutShortAs (ByWrite n) scene view = StopsSession n (known scene view) view.written
IsCutShortAs GivenUp scene view = IsPrefix view.written (output_in scene view)
IsCutShortAs Lacking scene view = IsPrefix view.written (output_in scene view)
IsCutShortAs Unbegun scene view = ⊥

abbrev pub IsCutShort : SessionScene → ConnView Msg Output → Outcome → Type 0
IsCutShort scene view outcome = IsCutShortAs (class_of outcome) scene view

-- The end of the task was taken, and the connection ends as that end requires.
pub record EndsByTask (scene : SessionScene) (view : ConnView Msg Output) (outcome : Outcome) : Type 0 where
  pub kind : EndKind
  pub taken : end_of view.got ≡ Some kind
  pub uncut : is_by_cut view.broken ≡ false
  pub follows : after_session kind (said_in scene view) (is_by_input view.broken) view.arrived ≡ outcome
  pub out : view.written ≡ session_text (handshake_of scene.facts) scene.facts (taken_of view) (end_of view.got) (is_by_input view.broken)

abbrev pub IsAt : Stage → SessionScene → WebSocketHalf → ConnView Msg Output → Type 0
IsAt Running scene half view = Talks scene half view × (end_of view.got ≡ None)
-- what the end adds depends on the breaks before it
IsAt (Ending kind) scene half view = Talks scene half view × (end_of view.got ≡ Some kind) × (view.broken_first ≡ is_by_input view.broken)
IsAt (Cut outcome) scene half view = IsCutShort scene view outcome × (end_of view.got ≡ None)
IsAt (Over NextRequest) scene half view = ⊥
IsAt (Over (ConnectionEnds outcome)) scene half view = EndsByTask scene view outcome ⊎ IsCutShort scene view outcome

-- ---- the half

-- The half's invariant in its exchange, with the bytes read since the connection began: no more of them are read as text.
pub record Invariant (scene : SessionScene) (now : LineState) (half : WebSocketHalf) (read : List ℕ) (view : ConnView Msg Output) : Type 0 where
  pub fixed : IsOf scene half.facts half.wire read
  pub text : List ℕ
  pub leftover : Option (List ℕ)
  pub handed : List SentMessage
  pub line : CarriesOn scene.start now half.wire.input read (scene.before ++ text) (failures_at half.stage) (talk_in half view leftover handed) (spare_at half.session)
  pub written : view.written ≡ map Byte text ++ map Message handed
  pub carried : IsCarried (answer_of half.session) scene half view text leftover handed
  pub keeps : ConnKeeps (exchange_of scene) view
  -- a disconnect was offered because the client closed, or because no message follows
  pub breaks : is_by_input view.broken ≡ true → (has_close view.arrived ≡ true) ⊎ (is_over_at half.session ≡ true)
  pub stage : IsAt half.stage scene half view

-- The exchange may begin.
pub record OpensSession (scene : SessionScene) (now : LineState) (wire : Wire) (facts : Facts) (text : ResponseText) (leftover read : List ℕ) : Type 0 where
  pub fixed : IsOf scene facts wire read
  pub moved : Transferred scene.start now wire.input read scene.before 0
  pub denial : standing.StandsForSession text scene.facts []
  pub frames : leftover ≡ scene.frames
  pub empty : wire.out.items ≡ []

-- The reader has given an opening handshake, after requests that were answered.
pub record OpensHandshake (scene : SessionScene) (now : LineState) (wire : Wire) (facts : Facts) (read : List ℕ) : Type 0 where
  pub facts_are : facts ≡ scene.facts
  pub read_is : read ≡ scene.read
  pub limits_are : wire.limits ≡ scene.limits
  pub reader_limits : wire.requests.limits ≡ scene.limits
  pub moved : Transferred scene.start now wire.input read scene.before 0
  pub given : List Next
  pub after : List ℕ
  pub between : Between scene.limits wire.input read given scene.exchanges after scene.before
  pub stands : StandsFor wire.requests read (given ++ Head scene.scope scene.facts ∷ [])
  pub head : BeginsWithHandshake scene.limits after scene.scope scene.facts scene.frames
  pub ahead : ReadsAhead scene.limits read (requests_of scene.exchanges)
  pub empty : wire.out.items ≡ []

-- ---- the clauses of the steps

-- its end of the pair is called, and the line does not move
abbrev pub PreservesByEnd : WebSocketHalf → (ConnView Msg Output → Type 0) → WebSocketHalf → (ConnView Msg Output → Type 0) → Type 0
PreservesByEnd = PreservesInLine Invariant

-- the line moves on, and its end of the pair is not called
abbrev pub PreservesByLine : LineState → WebSocketHalf → LineState → WebSocketHalf → Type 0
PreservesByLine was old now new =
    (scene : SessionScene) (read : List ℕ) (view : ConnView Msg Output) → Invariant scene was old read view
    → (arrived : List Msg) × (written : List Output) × Invariant scene now new read (record view { arrived = arrived; written = written })

-- the same, if this event was taken before
abbrev pub Says : LineState → WebSocketHalf → Outgoing → LineState → WebSocketHalf → Type 0
Says was old event now new =
    (scene : SessionScene) (read : List ℕ) (view : ConnView Msg Output) → Invariant scene was old read view
    → (written : List Output) × Invariant scene now new read (record view { got = view.got ++ Event event ∷ []; written = written })

-- the same, if the judge has passed the event: the invariant held with an earlier judge
abbrev pub Speaks : LineState → WebSocketHalf → Outgoing → LineState → WebSocketHalf → Type 0
Speaks was old event now new =
    (scene : SessionScene) (read : List ℕ) (view : ConnView Msg Output) (before : Judge) → Invariant scene was (record old { judge = before }) read view
    → passes WebSocket scene.facts (said_in scene view) event ≡ true
    → judging.StandsFor old.judge WebSocket scene.facts (said_in scene view ++ event ∷ []) false
    → (written : List Output) × Invariant scene now new read (record view { got = view.got ++ Event event ∷ []; written = written })

-- ---- what single steps do

abbrev pub IsAccept : Outgoing → Type 0
IsAccept (WsAccept subprotocol headers) = ⊤
IsAccept _ = ⊥

abbrev pub IsDenial : Outgoing → Type 0
IsDenial (DenialStart status headers) = ⊤
IsDenial (DenialBody body more_body) = ⊤
IsDenial _ = ⊥

-- the stage after a message was handed over
abbrev pub stage_of : Put → Stage
stage_of put.Done = Running
stage_of put.Failed = Cut (WriteFailed 0)
stage_of put.NoMemory = Cut NoMemory

-- how the connection ends after the last close was handed over
abbrev pub outcome_of : Put → Outcome
outcome_of put.Done = Finished
outcome_of put.Failed = WriteFailed 0
outcome_of put.NoMemory = NoMemory

-- what a message makes due
abbrev pub heard_by : WebSocketHalf → Msg → WebSocketHalf
heard_by half (Text text) = record half { session = session.Begun to.Accepted (Some (WsReceive (payload.Text text))) }
heard_by half (Bytes bytes) = record half { session = session.Begun to.Accepted (Some (WsReceive (payload.Bytes bytes))) }
heard_by half Ping = half
heard_by half Pong = half
heard_by half (Close close) = record half { session = session.Leaves (disconnect_of (Some close)) }

-- no message follows: the disconnect is due
abbrev pub lost_by : WebSocketHalf → WebSocketHalf
lost_by half = record half { session = session.Breaks }

-- what a read of a message makes due
abbrev pub noted_by : WebSocketHalf → Got → WebSocketHalf
noted_by half (got.Message message) = heard_by half message
noted_by half got.Idle = half
noted_by half got.Ended = lost_by half
noted_by half got.Failed = lost_by half
noted_by half got.NoMemory = record half { stage = Cut NoMemory }

-- all that is due was offered
abbrev pub NoneDue : WebSocketHalf → Type 0
NoneDue half = due_at half.session ≡ None

-- no message is read
abbrev pub Rests : WebSocketHalf → Type 0
Rests half = reads_at half.session ≡ reading.Rests

-- Messages may be read and dropped: while the application goes on, or once the exchange is over.
abbrev pub MayDrop : Stage → Type 0
MayDrop at = (at ≡ Running) ⊎ (at ≡ Over (ConnectionEnds Finished))

-- the application did not close the session, and no disconnect was offered
abbrev pub IsUnended : Session → Type 0
IsUnended (session.Begun answer waits) = ⊤
IsUnended (session.Leaves event) = ⊤
IsUnended session.Breaks = ⊤
IsUnended session.Broken = ⊥
IsUnended (session.Closed side rest) = ⊥
