-- What the application of a talker answers: one reply to the opening handshake, one answer to each message, in order, and between
-- them what its session says unasked (ASGI WebSocket, "Connect", "Accept", "Receive", "Send", "Close" and "Disconnect").
use Rattle.std.specs.Prelude.{◌≡◌, ◌⊎◌, true, false, List, [], ◌∷◌, ◌++◌, map, Option, Some, None}
use Rattle.std.specs.List.{list_any}
use mathlib.Core.List.{IsPrefix}
use Rattle.asgi_types.specs.declared.scope.Kind.TheVariants as kind
use Rattle.asgi_types.specs.declared.scope.WsScope.{WsScope}
use Rattle.asgi_types.specs.declared.scope.Scope.TheVariants.{Http, WebSocket, Lifespan}
use Rattle.asgi_types.specs.declared.facts.Facts.{Facts}
use Rattle.asgi_types.specs.declared.incoming.Payload.{Payload}
use Rattle.asgi_types.specs.declared.incoming.Incoming.{Incoming}
use Rattle.asgi_types.specs.declared.incoming.Incoming.TheVariants.{WsConnect, WsReceive}
use Rattle.asgi_types.specs.declared.outgoing.Outgoing.{Outgoing}
use Rattle.asgi_types.specs.declared.end_kind.EndKind.{EndKind}
use Rattle.asgi_types.specs.declared.end_kind.EndKind.TheVariants.{Returned, Faulted, Idle}
use Rattle.asgi_protocol.specs.Lawful.{IsLawful}
use Rattle.asgi_pipes.specs.Disconnects.{has_disconnect}
use Rattle.asgi_apps.specs.Answers.{Answers, not_found_answer}
use Rattle.asgi_apps.specs.Promises.{Promise}
use Rattle.asgi_apps.specs.WsEcho.{HeardDisconnect}
use Rattle.asgi_apps.specs.WsEchoing.{is_connect}
use Rattle.asgi_talks.specs.declared.answer.Answer.{Answer}
use Rattle.asgi_talks.specs.declared.opened.Opened.{Opened}
use Rattle.asgi_talks.specs.Answering.{events_of, opening_events, session_after, session_of}

-- the payload of each "Receive", in order
abbrev pub payloads_of : List Incoming → List Payload
payloads_of [] = []
payloads_of (WsReceive payload ∷ heard) = payload ∷ payloads_of heard
payloads_of (_ ∷ heard) = payloads_of heard

-- the messages of a session: those after its "Connect"
abbrev pub messages_of : List Incoming → List Payload
messages_of [] = []
messages_of (WsConnect ∷ heard) = payloads_of heard
messages_of (_ ∷ heard) = messages_of heard

-- What a session gave in one turn: an answer to a message, or what it said unasked.
pub data Given : Type 0 where
  Replied : Answer → Given
  Unasked : Answer → Given

-- what is sent of it
abbrev pub answer_in : Given → Answer
answer_in (Replied answer) = answer
answer_in (Unasked answer) = answer

-- all but the last
abbrev pub but_last : List Given → List Given
but_last [] = []
but_last (turn ∷ []) = []
but_last (turn ∷ another ∷ given) = turn ∷ but_last (another ∷ given)

module _ {S : Type 0} where
  -- Each message got one answer, in order: the one that the promise allows it in the state that the session then was in, by what
  -- it gave before. What it said unasked is as the other promise allows in that state. A session that has closed gives nothing.
  -- The session is given as it was before the first turn, and as it is after the last.
  abbrev pub Answered : (S → Payload → S → Answer → Type 0) → (S → S → Answer → Type 0) → List Given → List Payload → (before after : Option S) → Type 0
  Answered answers tells [] messages before after = (messages ≡ []) × (after ≡ before)
  Answered answers tells (Replied answer ∷ given) (message ∷ messages) (Some session) after =
      (next : S) × answers session message next answer × Answered answers tells given messages (session_after answer next) after
  Answered answers tells (Replied answer ∷ given) (message ∷ messages) None after = ⊥
  Answered answers tells (Replied answer ∷ given) [] before after = ⊥
  Answered answers tells (Unasked answer ∷ given) messages (Some session) after =
      (next : S) × tells session next answer × Answered answers tells given messages (session_after answer next) after
  Answered answers tells (Unasked answer ∷ given) messages None after = ⊥

  -- all that is to be sent: the reply to the handshake, and then what the session gave
  abbrev pub due : Opened S → List Given → List Outgoing
  due opened given = opening_events opened ++ events_of (map answer_in given)

  -- the same without the last turn; if there is none, without the reply to the handshake
  abbrev pub due_before : Opened S → List Given → List Outgoing
  due_before opened [] = []
  due_before opened (turn ∷ given) = due opened (but_last (turn ∷ given))

-- "Connect" was not received, and nothing was sent
pub record IsUnopened (heard : List Incoming) (said : List Outgoing) : Type 0 where
  pub unconnected : list_any is_connect heard ≡ false
  pub silent : said ≡ []

-- In the following, `opens` is the talker's promise for the scope: how it may open the session; `answers` and `tells` are those of
-- its sessions, of what they answer and of what they say unasked.
module _ {S : Type 0} (opens : Opened S → Type 0) (answers : S → Payload → S → Answer → Type 0) (tells : S → S → Answer → Type 0) where
  -- "Connect" was received, the session was opened as the promise allows, each of its messages was answered so, and it said no
  -- more unasked than it may. It now is this session; none, if it was refused or has closed.
  pub record HasAnswered (heard : List Incoming) (session : Option S) : Type 0 where
    pub connected : list_any is_connect heard ≡ true
    pub opened : Opened S
    pub allowed : opens opened
    pub given : List Given
    pub each : Answered answers tells given (messages_of heard) (session_of opened) session

  -- A beginning of what is due was sent, and all of it that comes before the last turn: no message is heard until all before it
  -- were answered whole.
  pub record IsTalking (heard : List Incoming) (said : List Outgoing) : Type 0 where
    pub session : Option S
    pub answered : HasAnswered heard session
    pub begins : IsPrefix said (due answered.opened answered.given)
    pub in_turn : IsPrefix (due_before answered.opened answered.given) said

  -- all that is due was sent, and this session goes on
  pub record HasSaidAll (heard : List Incoming) (said : List Outgoing) (session : Option S) : Type 0 where
    pub answered : HasAnswered heard session
    pub all : said ≡ due answered.opened answered.given

  -- all that is due was sent, and the session was refused or has closed, or the client is gone
  pub record HasTalked (heard : List Incoming) (said : List Outgoing) : Type 0 where
    pub session : Option S
    pub said_all : HasSaidAll heard said session
    pub over : (session ≡ None) ⊎ HeardDisconnect heard

  -- the last event got no reply, and all that is due for those before it was sent
  pub record HasFailed (heard : List Incoming) (said : List Outgoing) : Type 0 where
    pub before : List Incoming
    pub last : Incoming
    pub in_order : heard ≡ before ++ last ∷ []
    pub so_far : IsUnopened before said ⊎ ((session : S) × HasSaidAll before said (Some session))

  -- a beginning of what is due was sent, and what is due may not be sent in each session
  pub record IsTurnedAway (heard : List Incoming) (said : List Outgoing) : Type 0 where
    pub session : Option S
    pub answered : HasAnswered heard session
    pub begins : IsPrefix said (due answered.opened answered.given)
    pub unlawful : ((facts : Facts) → IsLawful kind.WebSocket facts (due answered.opened answered.given)) → ⊥

  -- all that is due was sent, and the session was one that may fail to speak
  pub record HasFallenSilent (fails : S → Type 0) (heard : List Incoming) (said : List Outgoing) : Type 0 where
    pub session : S
    pub said_all : HasSaidAll heard said (Some session)
    pub failed : fails session

  -- what was sent while no disconnect was received
  abbrev pub SoFar : List Incoming → List Outgoing → Type 0
  SoFar heard said = (has_disconnect heard ≡ false) × (IsUnopened heard said ⊎ IsTalking heard said)

  -- What was received and sent in a session, and how its task ended. It returns once the session is over or the client is gone,
  -- and all that is due was sent. It faults if the call, the talker or the session did, or if what is due may not be sent.
  abbrev pub AnswersSession : (fails : S → Type 0) → List Incoming → List Outgoing → Option EndKind → Type 0
  AnswersSession fails heard said None = SoFar heard said
  AnswersSession fails heard said (Some Idle) = SoFar heard said
  AnswersSession fails heard said (Some Returned) = (IsUnopened heard said × HeardDisconnect heard) ⊎ HasTalked heard said
  AnswersSession fails heard said (Some Faulted) =
      ((heard ≡ []) × (said ≡ [])) ⊎ (HasFailed heard said ⊎ (IsTurnedAway heard said ⊎ HasFallenSilent fails heard said))

-- A session is answered so. A request is answered, and in a lifespan scope the call faults, as `NotFound` does both.
abbrev pub TalkedAnswers : {T S : Type 0} → (T → WsScope → Opened S → Type 0) → (S → Payload → S → Answer → Type 0) → (S → S → Answer → Type 0) → (S → Type 0) → T → Promise
TalkedAnswers opens answers tells fails talker (Http scope) heard said ended = Answers (not_found_answer (Http scope)) heard said ended
TalkedAnswers opens answers tells fails talker (WebSocket scope) heard said ended = AnswersSession (opens talker scope) answers tells fails heard said ended
TalkedAnswers opens answers tells fails talker (Lifespan scope) heard said ended = Answers (not_found_answer (Lifespan scope)) heard said ended
