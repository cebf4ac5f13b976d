-- The invariant of a task of a talker, its `stands`.
use Rattle.std.specs.Prelude.{◌≡◌, true, false, List, [], ◌∷◌, ◌++◌, Option, Some, None}
use Rattle.std.specs.Option.{option_to_list}
use mathlib.Core.List.{IsPrefix}
use Rattle.std.proofs.Common.{inl, inr}
use Rattle.asgi_types.specs.declared.scope.Kind.{Kind}
use Rattle.asgi_types.specs.declared.scope.Kind.TheVariants as kinds
use Rattle.asgi_types.specs.declared.scope.WsScope.{WsScope}
use Rattle.asgi_types.specs.declared.scope.Scope.{Scope}
use Rattle.asgi_types.specs.declared.scope.Scope.TheVariants.{Http, WebSocket, Lifespan}
use Rattle.asgi_types.specs.declared.incoming.Payload.{Payload}
use Rattle.asgi_types.specs.declared.incoming.Incoming.{Incoming}
use Rattle.asgi_types.specs.declared.outgoing.Outgoing.{Outgoing}
use Rattle.asgi_types.specs.declared.end_kind.EndKind.{EndKind}
use Rattle.asgi_pipes.specs.Disconnects.{has_disconnect}
use Rattle.asgi_apps.specs.Answers.{Answers, not_found_answer}
use Rattle.asgi_apps.specs.Saying.{HasSaid, SaysList, left_of as left_of_says, script}
use Rattle.asgi_apps.specs.Scopes.{kind_of}
use Rattle.asgi_talks.specs.declared.answer.Answer.{Answer}
use Rattle.asgi_talks.specs.declared.opened.Opened.{Opened}
use Rattle.asgi_talks.specs.declared.sending.Sending.{Sending}
use Rattle.asgi_talks.specs.declared.talked.TalkedTask.{TalkedTask}
use Rattle.asgi_talks.specs.declared.talked.TalkedTask.TheVariants.{Talks, Denies}
use Rattle.asgi_talks.specs.declared.talking.Stage.{Stage}
use Rattle.asgi_talks.specs.declared.talking.Stage.TheVariants.{Waiting, Listening, Saying, Ending}
use Rattle.asgi_talks.specs.declared.talking.Talking.{Talking}
use Rattle.asgi_talks.specs.Answering.{answer_events}
use Rattle.asgi_talks.specs.Sessions.{AnswersSession, HasAnswered, IsTalking, IsUnopened, due, due_before}

-- what is left to send
abbrev pub left_of : Sending → List Outgoing
left_of sending = option_to_list sending.waiting ++ answer_events sending.rest

-- "Connect" was not received, nothing was sent, and the talker was not asked.
pub record IsWaiting {S : Type 0} (called : List (Opened S)) (kind : Kind) (heard : List Incoming) (said : List Outgoing) : Type 0 where
  pub kind_is : kind ≡ kinds.WebSocket
  pub gone : has_disconnect heard ≡ false
  pub unopened : IsUnopened heard said
  pub uncalled : called ≡ []

-- The session was opened once, and now is this one. All that is due was sent but what is left of the last turn.
pub record IsInTurn {S : Type 0} (opens : Opened S → Type 0) (answers : S → Payload → S → Answer → Type 0) (tells : S → S → Answer → Type 0) (session : Option S)
    (left : List Outgoing) (called : List (Opened S)) (kind : Kind) (heard : List Incoming) (said : List Outgoing) : Type 0 where
  pub kind_is : kind ≡ kinds.WebSocket
  pub gone : has_disconnect heard ≡ false
  pub answered : HasAnswered opens answers tells heard session
  pub once : called ≡ answered.opened ∷ []
  pub in_order : said ++ left ≡ due answered.opened answered.given
  pub in_turn : IsPrefix (due_before answered.opened answered.given) said

-- by where the session is
abbrev pub StandsAt : {S : Type 0} → (Opened S → Type 0) → (S → Payload → S → Answer → Type 0) → (S → S → Answer → Type 0) → List (Opened S) → Stage S → Kind → List Incoming → List Outgoing → Type 0
StandsAt opens answers tells called Waiting kind heard said = IsWaiting called kind heard said
StandsAt opens answers tells called (Listening session) kind heard said = IsInTurn opens answers tells (Some session) [] called kind heard said
StandsAt opens answers tells called (Saying session sending) kind heard said = IsInTurn opens answers tells (Some session) (left_of sending) called kind heard said
StandsAt opens answers tells called (Ending sending) kind heard said = IsInTurn opens answers tells None (left_of sending) called kind heard said

module _ {S : Type 0} (opens : Opened S → Type 0) (answers : S → Payload → S → Answer → Type 0) (tells : S → S → Answer → Type 0) (fails : S → Type 0)
    (called : List (Opened S)) (kind : Kind) (heard : List Incoming) (said : List Outgoing) where
  pub waiting_keeps : IsWaiting called kind heard said → AnswersSession opens answers tells fails heard said None
  waiting_keeps stands = (stands.gone, inl stands.unopened)

  pub turn_keeps : (session : Option S) (left : List Outgoing) → IsInTurn opens answers tells session left called kind heard said → AnswersSession opens answers tells fails heard said None
  turn_keeps session left stands =
      let talking : IsTalking opens answers tells heard said =
      record { session = session; answered = stands.answered; begins = (left, stands.in_order); in_turn = stands.in_turn } in
      (stands.gone, inr talking)

  -- a running task has kept its promise
  pub session_keeps : (stage : Stage S) → StandsAt opens answers tells called stage kind heard said → AnswersSession opens answers tells fails heard said None
  session_keeps Waiting stands = waiting_keeps stands
  session_keeps (Listening session) stands = turn_keeps (Some session) [] stands
  session_keeps (Saying session sending) stands = turn_keeps (Some session) (left_of sending) stands
  session_keeps (Ending sending) stands = turn_keeps None (left_of sending) stands

module _ {T S : Type 0} (opens : T → WsScope → Opened S → Type 0) (answers : S → Payload → S → Answer → Type 0) (tells : S → S → Answer → Type 0) where
  abbrev pub TalkingStands : Talking T S → Kind → List Incoming → List Outgoing → Type 0
  TalkingStands task kind heard said = StandsAt (opens task.asked.talker task.asked.scope) answers tells task.called.items task.stage kind heard said

  abbrev pub TaskStands : TalkedTask T S → Kind → List Incoming → List Outgoing → Type 0
  TaskStands (Talks task) kind heard said = TalkingStands task kind heard said
  TaskStands (Denies says) kind heard said = HasSaid says kind heard said

  module _ (fails : S → Type 0) where
    abbrev pub TalkingAnswers : Talking T S → List Incoming → List Outgoing → Option EndKind → Type 0
    TalkingAnswers task heard said ended = AnswersSession (opens task.asked.talker task.asked.scope) answers tells fails heard said ended

    pub talking_keeps : (task : Talking T S) (kind : Kind) (heard : List Incoming) (said : List Outgoing) → TalkingStands task kind heard said
        → TalkingAnswers task heard said None
    talking_keeps task kind heard said stands =
        session_keeps (opens task.asked.talker task.asked.scope) answers tells fails task.called.items kind heard said task.stage stands

    abbrev pub TaskAnswers : TalkedTask T S → List Incoming → List Outgoing → Option EndKind → Type 0
    TaskAnswers (Talks task) heard said ended = TalkingAnswers task heard said ended
    TaskAnswers (Denies says) heard said ended = SaysList says.kind (script says) said ended

    pub task_keeps : (task : TalkedTask T S) (kind : Kind) (heard : List Incoming) (said : List Outgoing) → TaskStands task kind heard said
        → TaskAnswers task heard said None
    task_keeps (Talks task) kind heard said stands = talking_keeps task kind heard said stands
    task_keeps (Denies says) kind heard said stands = (left_of_says says, stands.in_order)

-- a fresh task of a session, with this talker, in this scope
abbrev pub Begins : {T S : Type 0} → TalkedTask T S → T → WsScope → Type 0
Begins (Talks task) talker scope = (task.asked.talker ≡ talker) × (task.asked.scope ≡ scope) × (task.called.items ≡ []) × (task.stage ≡ Waiting)
Begins (Denies says) talker scope = ⊥

-- the same, where the scope is a session's
abbrev pub BeginsIn : {T S : Type 0} → TalkedTask T S → T → Scope → Type 0
BeginsIn task talker (Http scope) = ⊥
BeginsIn task talker (WebSocket scope) = Begins task talker scope
BeginsIn task talker (Lifespan scope) = ⊥

-- a fresh task that gives what `NotFound` gives in this scope
abbrev pub IsDenied : {T S : Type 0} → TalkedTask T S → Scope → Type 0
IsDenied (Talks task) scope = ⊥
IsDenied (Denies says) scope = HasSaid says (kind_of scope) [] []
    × ((heard : List Incoming) (said : List Outgoing) (ended : Option EndKind) → SaysList says.kind (script says) said ended → Answers (not_found_answer scope) heard said ended)
