-- What `WsEcho` answers (ASGI WebSocket, "Connect", "Accept", "Receive", "Send" and "Disconnect").
use Rattle.std.specs.Prelude.{◌≡◌, true, false, List, [], ◌∷◌, ◌++◌, Option, Some, None, ⊤}
use Rattle.asgi_types.specs.declared.scope.Kind.{Kind}
use Rattle.asgi_types.specs.declared.scope.Kind.TheVariants.{Http, WebSocket, Lifespan}
use Rattle.asgi_types.specs.declared.incoming.Incoming.{Incoming}
use Rattle.asgi_types.specs.declared.incoming.Incoming.TheVariants.{HttpDisconnect, WsConnect, WsReceive, WsDisconnect}
use Rattle.asgi_types.specs.declared.outgoing.Outgoing.{Outgoing}
use Rattle.asgi_types.specs.declared.outgoing.Outgoing.TheVariants.{WsAccept, WsSend}
use Rattle.asgi_types.specs.declared.end_kind.EndKind.{EndKind}
use Rattle.asgi_types.specs.declared.end_kind.EndKind.TheVariants.{Returned, Faulted, Idle}
use Rattle.asgi_protocol.specs.Verdicts.{is_disconnect}
use Rattle.asgi_pipes.specs.Disconnects.{has_disconnect}
use Rattle.asgi_apps.specs.Answers.{Answers, not_found_events}

-- a session is accepted, with no subprotocol and no fields
abbrev pub accept_events : List Outgoing
accept_events = WsAccept None [] ∷ []

-- for each "Receive" a "Send" of the same payload; after a disconnect nothing
abbrev pub messages_of : List Incoming → List Outgoing
messages_of [] = []
messages_of (WsReceive payload ∷ heard) = WsSend payload ∷ messages_of heard
messages_of (WsDisconnect code reason ∷ heard) = []
messages_of (HttpDisconnect ∷ heard) = []
messages_of (_ ∷ heard) = messages_of heard

-- at "Connect" an "Accept", and then each message is sent back; before "Connect" nothing is sent
abbrev pub session_echo : List Incoming → List Outgoing
session_echo [] = []
session_echo (WsConnect ∷ heard) = accept_events ++ messages_of heard
session_echo (WsDisconnect code reason ∷ heard) = []
session_echo (HttpDisconnect ∷ heard) = []
session_echo (_ ∷ heard) = session_echo heard

-- the last event received is the first disconnect
pub record HeardDisconnect (heard : List Incoming) : Type 0 where
  pub before : List Incoming
  pub last : Incoming
  pub in_order : heard ≡ before ++ last ∷ []
  pub ends : is_disconnect last ≡ true
  pub first : has_disconnect before ≡ false

-- the task returns at the first disconnect, and nowhere else; until then it runs
abbrev pub EndsAtDisconnect : Option EndKind → List Incoming → Type 0
EndsAtDisconnect (Some Returned) heard = HeardDisconnect heard
EndsAtDisconnect (Some Faulted) heard = ⊤
EndsAtDisconnect (Some Idle) heard = has_disconnect heard ≡ false
EndsAtDisconnect None heard = has_disconnect heard ≡ false

-- What was sent in a session is a beginning of the echo, and all of it if the task returned.
abbrev pub SessionAnswers : List Incoming → List Outgoing → Option EndKind → Type 0
SessionAnswers heard said ended = Answers (Some (session_echo heard)) heard said ended × EndsAtDisconnect ended heard

-- Over HTTP the answer is that of `NotFound`; in a lifespan scope the call faults.
abbrev pub WsEchoAnswers : Kind → List Incoming → List Outgoing → Option EndKind → Type 0
WsEchoAnswers Http heard said ended = Answers (Some not_found_events) heard said ended
WsEchoAnswers WebSocket heard said ended = SessionAnswers heard said ended
WsEchoAnswers Lifespan heard said ended = Answers None heard said ended
