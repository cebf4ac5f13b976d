-- How a session goes on: words of private functions.
use Rattle.std.specs.Prelude.{◌≡◌, true, false, List, [], ◌∷◌, ◌++◌, Option, Some, None, ⊤}
use Rattle.asgi_types.specs.declared.scope.Kind.{Kind}
use Rattle.asgi_types.specs.declared.facts.Facts.{Facts}
use Rattle.asgi_types.specs.declared.incoming.Payload.{Payload}
use Rattle.asgi_types.specs.declared.incoming.Incoming.{Incoming}
use Rattle.asgi_types.specs.declared.incoming.Incoming.TheVariants.{WsConnect, WsReceive}
use Rattle.asgi_types.specs.declared.outgoing.Outgoing.{Outgoing}
use Rattle.asgi_protocol.specs.declared.verdict.Verdict.TheVariants.{Pass}
use Rattle.asgi_protocol.specs.Verdicts.{is_disconnect, verdict_on}
use Rattle.asgi_pipes.specs.Disconnects.{has_disconnect}
use Rattle.asgi_apps.specs.WsEchoing.{is_connect}
use Rattle.asgi_talks.specs.declared.answer.Answer.{Answer}
use Rattle.asgi_talks.specs.declared.opened.Opened.{Opened}
use Rattle.asgi_talks.specs.declared.sending.Said.{Said}
use Rattle.asgi_talks.specs.declared.sending.Said.TheVariants.{Left, All, Refused}
use Rattle.asgi_talks.specs.declared.talking.Heard.{Heard}
use Rattle.asgi_talks.specs.declared.talking.Heard.TheVariants.{Passed, Turn, Gone, Failed}
use Rattle.asgi_talks.specs.declared.talking.Stage.{Stage}
use Rattle.asgi_talks.specs.declared.talking.Stage.TheVariants.{Waiting, Listening, Saying, Ending}
use Rattle.asgi_talks.specs.Answering.{answer_events, opening_events, session_after, session_of}
use Rattle.asgi_talks.specs.Sessions.{payloads_of}
use Rattle.asgi_talks.specs.Talking.{left_of}

module _ {S : Type 0} where
  -- these events are sent next, and then the session goes on as this one; if there is none, the task returns
  abbrev pub TakesTurn : Stage S → Option S → List Outgoing → Type 0
  TakesTurn Waiting goes_on events = ⊥
  TakesTurn (Listening session) goes_on events = (goes_on ≡ Some session) × (events ≡ [])
  TakesTurn (Saying session sending) goes_on events = (goes_on ≡ Some session) × (left_of sending ≡ events)
  TakesTurn (Ending sending) goes_on events = (goes_on ≡ None) × (left_of sending ≡ events)

  -- what comes of "Connect", by how the talker has opened the session before it and after it
  abbrev pub Opens : (Opened S → Type 0) → (called called_after : List (Opened S)) → Heard S → Type 0
  Opens allows called called_after (Passed stage) = ⊥
  Opens allows called called_after (Turn stage) =
      (opened : Opened S) × allows opened × (called_after ≡ called ++ opened ∷ []) × TakesTurn stage (session_of opened) (opening_events opened)
  Opens allows called called_after Gone = ⊥
  Opens allows called called_after (Failed fault) = ⊤

  -- what comes of an event before "Connect"
  abbrev pub Waits : (Opened S → Type 0) → Incoming → (called called_after : List (Opened S)) → Heard S → Type 0
  Waits allows event called called_after (Passed stage) =
      (is_connect event ≡ false) × (is_disconnect event ≡ false) × (stage ≡ Waiting) × (called_after ≡ called)
  Waits allows event called called_after (Turn stage) = (event ≡ WsConnect) × Opens allows called called_after (Turn stage)
  Waits allows event called called_after Gone = (is_connect event ≡ false) × (is_disconnect event ≡ true)
  Waits allows event called called_after (Failed fault) = ⊤

  -- what comes of a message
  abbrev pub Replies : (S → Payload → S → Answer → Type 0) → S → Payload → Heard S → Type 0
  Replies answers session message (Passed stage) = ⊥
  Replies answers session message (Turn stage) =
      (next : S) × (answer : Answer) × answers session message next answer × TakesTurn stage (session_after answer next) (answer_events answer)
  Replies answers session message Gone = ⊥
  Replies answers session message (Failed fault) = ⊤

  -- what comes of a turn in which no message was there
  abbrev pub Speaks : (S → S → Answer → Type 0) → S → Stage S → Type 0
  Speaks tells session stage = (next : S) × (answer : Answer) × tells session next answer × TakesTurn stage (session_after answer next) (answer_events answer)

  -- what comes of an event in an open session
  abbrev pub Hears : (S → Payload → S → Answer → Type 0) → S → Incoming → Heard S → Type 0
  Hears answers session event (Passed stage) = (payloads_of (event ∷ []) ≡ []) × (is_disconnect event ≡ false) × (stage ≡ Listening session)
  Hears answers session event (Turn stage) = (message : Payload) × (event ≡ WsReceive message) × Replies answers session message (Turn stage)
  Hears answers session event Gone = (payloads_of (event ∷ []) ≡ []) × (is_disconnect event ≡ true)
  Hears answers session event (Failed fault) = ⊤

-- the next event was turned away, and nothing was sent
pub record NotTaken (kind : Kind) (facts : Facts) (heard : List Incoming) (said left after : List Outgoing) : Type 0 where
  pub event : Outgoing
  pub rest : List Outgoing
  pub next : left ≡ event ∷ rest
  pub refused : verdict_on kind facts said (has_disconnect heard) event ≡ Pass → ⊥
  pub same : after ≡ said

-- what a poll that sends makes of what was sent and of what is left
abbrev pub Sends : Kind → Facts → List Incoming → (said left after left_after : List Outgoing) → Said → Type 0
Sends kind facts heard said left after left_after Left = after ++ left_after ≡ said ++ left
Sends kind facts heard said left after left_after All = after ≡ said ++ left
Sends kind facts heard said left after left_after Refused = NotTaken kind facts heard said left after

-- what holds if something is left
abbrev pub IfLeft : Said → Type 0 → Type 0
IfLeft Left P = P
IfLeft All P = ⊤
IfLeft Refused P = ⊤

-- all was sent exactly if this is nothing
abbrev pub IsRest : List Outgoing → Said → Type 0
IsRest rest Left = ⊤
IsRest rest All = rest ≡ []
IsRest rest Refused = ⊥
