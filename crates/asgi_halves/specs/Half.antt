-- The invariant of the connection's half of an HTTP exchange, which the members of its `Half` name.
use Rattle.std.specs.Prelude.{◌≡◌, ◌⊎◌, ℕ, ⊤, true, false, List, [], ◌∷◌, ◌++◌, map, Some, None}
use Rattle.asgi_types.specs.declared.end_kind.EndKind.{EndKind}
use Rattle.asgi_types.specs.declared.facts.Facts.{Facts}
use Rattle.asgi_types.specs.declared.incoming.Incoming.{Incoming}
use Rattle.asgi_types.specs.declared.limits.Limits.{Limits}
use Rattle.asgi_types.specs.declared.scope.Scope.{Scope}
use Rattle.asgi_request.specs.declared.next.Next.{Next}
use Rattle.asgi_request.specs.declared.next.Next.TheVariants as next
use Rattle.asgi_request.specs.BodyOf.{body_state}
use Rattle.asgi_request.specs.ChunkedBody.{BodyState}
use Rattle.asgi_request.specs.Opened.{HasOpened}
use Rattle.asgi_request.specs.Reading.{Reading, StandsFor, AllGiven}
use Rattle.asgi_response.specs.declared.progress.Progress.TheVariants as progress
use Rattle.asgi_response.specs.Progress.{progress_of}
use Rattle.asgi_response.specs.Response.{response_text}
use Rattle.asgi_response.specs.Standing as standing
use Rattle.asgi_exchange.specs.Halves.{ConnKeeps}
use Rattle.asgi_exchange.specs.Http.{http}
use Rattle.asgi_exchange.specs.ExchangeTexts.{input_of}
use Rattle.asgi_exchange.specs.ExchangeTexts.{text_of}
use Rattle.asgi_exchange.specs.Items.{end_of}
use Rattle.asgi_exchange.specs.Steps.{is_by_input, is_by_cut}
use Rattle.asgi_exchange.specs.Views.{ConnView, World, empty_app, taken_of}
use Rattle.asgi_conversation.specs.declared.following.NextStep.{NextStep}
use Rattle.asgi_conversation.specs.declared.following.NextStep.TheVariants.{NextRequest, ConnectionEnds}
use Rattle.asgi_halves.specs.declared.half.BodyProgress.{BodyProgress}
use Rattle.asgi_halves.specs.declared.half.BodyProgress.TheVariants.{Open, Waits, Whole, Refused, BrokenOff}
use Rattle.asgi_halves.specs.declared.half.HttpHalf.{HttpHalf}
use Rattle.asgi_halves.specs.declared.stage.Stage.{Stage}
use Rattle.asgi_halves.specs.declared.stage.Stage.TheVariants.{Running, Ending, Cut, Over}
use Rattle.asgi_conversation.specs.declared.input.InputEnd.{InputEnd}
use Rattle.asgi_conversation.specs.declared.report.Outcome.{Outcome}
use Rattle.asgi_conversation.specs.declared.report.Outcome.TheVariants.{InputBroke, WriteFailed}
use Rattle.asgi_conversation.specs.Exchanges.{requests_of}
use Rattle.asgi_conversation.specs.ExchangeRecord.{ExchangeRecord}
use Rattle.asgi_ws.specs.Lines.{LineState}
use Rattle.asgi_run.specs.Lines.{Transferred}
use Rattle.asgi_halves.specs.ReadAhead.{ReadsAhead}
use Rattle.asgi_conversation.specs.Persistence.{StopsWithin}
use Rattle.asgi_conversation.specs.Exchanges.{heads_of}
use Rattle.asgi_conversation.specs.SoFar.{InOne, HasBrokenIn, TaskIsOver, exchanged}
use Rattle.asgi_conversation.specs.OutcomeClasses.{is_cut, cuts_exchange}
use Rattle.asgi_conversation.specs.TaskEnds.{has_ended, is_faulty, after_task}
use Rattle.asgi_halves.specs.Traffic.{failures_of}
use Rattle.asgi_halves.specs.declared.wire.Wire.{Wire}

-- The constants of one exchange: what was known of the line when the connection began, the exchanges before this one and what
-- was written for them, the request, and the results of the reader up to its head.
pub record Scene : Type 0 where
  pub start : LineState
  pub exchanges : List ExchangeRecord
  pub before : List ℕ
  pub scope : Scope
  pub facts : Facts
  pub opened : List Next

-- a view, with nothing of the application
abbrev pub alone : ConnView ℕ ℕ → World ℕ ℕ
alone view = record { conn = view; app = empty_app }

-- the exchange, as far as its connection knows it
abbrev pub known : Scene → ConnView ℕ ℕ → ExchangeRecord
known scene view = exchanged scene.scope scene.facts (record { conn = view; app = record { pulled = []; heard = []; put = view.got } })

-- the body, by what arrived
abbrev pub state_in : Scene → HttpHalf → ConnView ℕ ℕ → BodyState
state_in scene half view = body_state half.wire.limits scene.facts.framing view.arrived

-- the requests of the exchanges, with the one in hand
abbrev pub requests_in : Scene → List (Scope × Facts)
requests_in scene = requests_of scene.exchanges ++ (scene.scope, scene.facts) ∷ []

-- In an exchange, whose head is the last result up to it: the bytes begin with the requests, and not too many are ahead of them.
pub record WithinScene (scene : Scene) (limits : Limits) (end : InputEnd) (read arrived : List ℕ) : Type 0 where
  pub one : InOne limits end read scene.exchanges scene.before scene.scope scene.facts arrived
  pub opens : HasOpened limits read scene.opened scene.facts.framing arrived
  pub heads : heads_of scene.opened ≡ requests_in scene
  pub ahead : ReadsAhead limits read (requests_in scene)

-- ---- the body of the request

-- the events of the body that the reader gave after the results up to the head, and what it gave after these events
abbrev pub HasGiven : Reading → List ℕ → List Next → List Incoming → BodyProgress → Type 0
HasGiven reader read opened events Open = StandsFor reader read (opened ++ map next.Event events)
HasGiven reader read opened events (Waits event) = StandsFor reader read (opened ++ map next.Event (events ++ event ∷ []))
HasGiven reader read opened events Whole = StandsFor reader read (opened ++ (map next.Event events ++ next.Whole ∷ []))
HasGiven reader read opened events (Refused status) = StandsFor reader read (opened ++ (map next.Event events ++ next.Bad status ∷ []))
HasGiven reader read opened events BrokenOff = AllGiven reader read (opened ++ map next.Event events)

-- nothing more is due
abbrev pub IsSettled : BodyProgress → Type 0
IsSettled Open = ⊥
IsSettled (Waits event) = ⊥
IsSettled Whole = ⊤
IsSettled (Refused status) = ⊤
IsSettled BrokenOff = ⊤

-- the disconnect is due: all that was due was offered, and the input ended, failed or was faulty
abbrev pub BreaksAt : BodyProgress → InputEnd → Type 0
BreaksAt Open end = ⊥
BreaksAt (Waits event) end = ⊥
BreaksAt Whole end = has_ended end ≡ true
BreaksAt (Refused status) end = ⊤
BreaksAt BrokenOff end = has_ended end ≡ true

-- if the body counts as broken off, the input ended inside it
abbrev pub EndsWhere : BodyProgress → InputEnd → Type 0
EndsWhere Open end = ⊤
EndsWhere (Waits event) end = ⊤
EndsWhere Whole end = ⊤
EndsWhere (Refused status) end = ⊤
EndsWhere BrokenOff end = has_ended end ≡ true

-- ---- the stages

-- Not cut short: the reader gave these events, and all text of what was taken is out.
pub record Talks (scene : Scene) (half : HttpHalf) (read : List ℕ) (view : ConnView ℕ ℕ) : Type 0 where
  pub uncut : is_by_cut view.broken ≡ false
  pub input_broke : half.input_broke ≡ is_by_input view.broken
  pub settled : half.input_broke ≡ true → BreaksAt half.body half.wire.input
  pub events : List Incoming
  pub given : HasGiven half.wire.requests read scene.opened events half.body
  pub ends_where : EndsWhere half.body half.wire.input
  pub text : standing.StandsFor half.text scene.facts (taken_of view)
  pub written : view.written ≡ response_text scene.facts (taken_of view)
  pub empty : half.wire.out.items ≡ []

-- The end of the task was not taken, and before a break all events that do not wait were offered.
pub record IsRunning (scene : Scene) (half : HttpHalf) (read : List ℕ) (view : ConnView ℕ ℕ) : Type 0 where
  pub talks : Talks scene half read view
  pub unended : end_of view.got ≡ None
  pub offered : half.input_broke ≡ false → view.offered ≡ talks.events

-- The connection is cut short; if a write failed, n bytes of the text in hand are out.
pub record IsCutShort (scene : Scene) (half : HttpHalf) (view : ConnView ℕ ℕ) (outcome : Outcome) : Type 0 where
  pub cut : cuts_exchange outcome ≡ true
  pub stops : (n : ℕ) → outcome ≡ WriteFailed n → StopsWithin n (known scene view) (input_of (state_in scene half view)) view.written

-- The end of the task was taken, and the connection ends as that end requires.
pub record EndsByTask (scene : Scene) (half : HttpHalf) (view : ConnView ℕ ℕ) (outcome : Outcome) : Type 0 where
  pub kind : EndKind
  pub taken : end_of view.got ≡ Some kind
  pub uncut : is_by_cut view.broken ≡ false
  pub follows : after_task kind (progress_of scene.facts (taken_of view)) (state_in scene half view) (is_by_input view.broken) ≡ ConnectionEnds outcome
  pub out : view.written ≡ text_of scene.facts (taken_of view) (end_of view.got) (input_of (state_in scene half view))
  pub whole : is_cut outcome ≡ false
  pub input_broke : outcome ≡ InputBroke → (has_ended half.wire.input ≡ true) ⊎ (is_faulty (state_in scene half view) ≡ true)

-- The request is whole, and the response is complete and keeps the connection.
pub record KeepsOn (scene : Scene) (half : HttpHalf) (read : List ℕ) (view : ConnView ℕ ℕ) : Type 0 where
  pub kind : EndKind
  pub over : TaskIsOver (alone view) kind
  pub complete : progress_of scene.facts (taken_of view) ≡ progress.Complete false
  pub input_broke : is_by_input view.broken ≡ true → has_ended half.wire.input ≡ true
  pub written : view.written ≡ response_text scene.facts (taken_of view)
  pub events : List Incoming
  pub given : StandsFor half.wire.requests read (scene.opened ++ (map next.Event events ++ next.Whole ∷ []))
  pub empty : half.wire.out.items ≡ []

abbrev pub Leaves : NextStep → Scene → HttpHalf → List ℕ → ConnView ℕ ℕ → Type 0
Leaves NextRequest scene half read view = KeepsOn scene half read view
Leaves (ConnectionEnds outcome) scene half read view = EndsByTask scene half view outcome ⊎ IsCutShort scene half view outcome

abbrev pub IsAt : Stage → Scene → HttpHalf → List ℕ → ConnView ℕ ℕ → Type 0
IsAt Running scene half read view = IsRunning scene half read view
IsAt (Ending kind) scene half read view = Talks scene half read view × (end_of view.got ≡ Some kind)
IsAt (Cut outcome) scene half read view = IsCutShort scene half view outcome × (end_of view.got ≡ None)
IsAt (Over following) scene half read view = Leaves following scene half read view

-- ---- the half

-- how many writes of text failed up to this stage
abbrev pub failures_at : Stage → ℕ
failures_at (Cut outcome) = failures_of outcome
failures_at (Over (ConnectionEnds outcome)) = failures_of outcome
failures_at _ = 0

-- The half's invariant in its exchange, with the bytes read since the connection began.
pub record Invariant (scene : Scene) (now : LineState) (half : HttpHalf) (read : List ℕ) (view : ConnView ℕ ℕ) : Type 0 where
  pub moved : Transferred scene.start now half.wire.input read (scene.before ++ view.written) (failures_at half.stage)
  pub limits : half.wire.requests.limits ≡ half.wire.limits
  pub within : WithinScene scene half.wire.limits half.wire.input read view.arrived
  pub keeps : ConnKeeps (http half.wire.limits scene.facts) view
  pub breaks : HasBrokenIn half.wire.limits half.wire.input scene.facts (alone view)
  pub stage : IsAt half.stage scene half read view

-- An exchange may begin: its head is the last result that the reader gave.
pub record Opens (scene : Scene) (now : LineState) (wire : Wire) (facts : Facts) (read arrived : List ℕ) : Type 0 where
  pub facts_are : facts ≡ scene.facts
  pub moved : Transferred scene.start now wire.input read scene.before 0
  pub limits : wire.requests.limits ≡ wire.limits
  pub within : WithinScene scene wire.limits wire.input read arrived
  pub given : StandsFor wire.requests read scene.opened
  pub ahead : ReadsAhead wire.limits read (requests_of scene.exchanges)
  pub empty : wire.out.items ≡ []
