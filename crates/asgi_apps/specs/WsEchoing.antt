-- The invariant of a task of `WsEcho`, its `stands`.
use Rattle.std.specs.Prelude.{◌≡◌, Bool, true, false, List, [], ◌∷◌, ◌++◌, Option, None}
use Rattle.std.specs.List.{list_any}
use Rattle.std.specs.Option.{option_to_list}
use Rattle.asgi_types.specs.declared.scope.Kind.{Kind}
use Rattle.asgi_types.specs.declared.scope.Kind.TheVariants.{WebSocket}
use Rattle.asgi_types.specs.declared.incoming.Incoming.{Incoming}
use Rattle.asgi_types.specs.declared.incoming.Incoming.TheVariants.{WsConnect, WsReceive}
use Rattle.asgi_types.specs.declared.outgoing.Outgoing.{Outgoing}
use Rattle.asgi_types.specs.declared.outgoing.Outgoing.TheVariants.{WsSend}
use Rattle.asgi_types.specs.declared.end_kind.EndKind.{EndKind}
use Rattle.asgi_pipes.specs.Disconnects.{has_disconnect}
use Rattle.asgi_apps.specs.declared.ws_echo.Session.{Session}
use Rattle.asgi_apps.specs.declared.ws_echo.Work.TheVariants.{Denies, Echoes}
use Rattle.asgi_apps.specs.declared.ws_echo.Work.{Work}
use Rattle.asgi_apps.specs.declared.ws_echo.WsEchoTask.{WsEchoTask}
use Rattle.asgi_apps.specs.Saying.{HasSaid, SaysList, left_of, script}
use Rattle.asgi_apps.specs.WsEcho.{SessionAnswers, accept_events, session_echo}

abbrev pub is_connect : Incoming → Bool
is_connect WsConnect = true
is_connect _ = false

-- what an event is answered with, by whether "Connect" was received before it
abbrev pub reply : Bool → Incoming → List Outgoing
reply false WsConnect = accept_events
reply true (WsReceive payload) = WsSend payload ∷ []
reply _ _ = []

-- All of the answer so far was sent but what waits.
pub record SessionStands (session : Session) (kind : Kind) (heard : List Incoming) (said : List Outgoing) : Type 0 where
  pub kind_is : kind ≡ WebSocket
  pub connected : has_disconnect heard ≡ false
  pub is_connected : session.is_connected ≡ list_any is_connect heard
  pub in_order : said ++ option_to_list session.waiting ≡ session_echo heard

abbrev pub WorkStands : Work → Kind → List Incoming → List Outgoing → Type 0
WorkStands (Denies says) kind heard said = HasSaid says kind heard said
WorkStands (Echoes session) kind heard said = SessionStands session kind heard said

abbrev pub Stands : WsEchoTask → Kind → List Incoming → List Outgoing → Type 0
Stands task kind heard said = WorkStands task.0 kind heard said

abbrev pub WorkAnswers : Work → List Incoming → List Outgoing → Option EndKind → Type 0
WorkAnswers (Denies says) heard said ended = SaysList says.kind (script says) said ended
WorkAnswers (Echoes session) heard said ended = SessionAnswers heard said ended

abbrev pub TaskAnswers : WsEchoTask → List Incoming → List Outgoing → Option EndKind → Type 0
TaskAnswers task heard said ended = WorkAnswers task.0 heard said ended

-- a running task has kept its promise
pub task_keeps : (work : Work) (kind : Kind) (heard : List Incoming) (said : List Outgoing) → WorkStands work kind heard said → WorkAnswers work heard said None
task_keeps (Denies says) kind heard said stands = (left_of says, stands.in_order)
task_keeps (Echoes session) kind heard said stands = ((option_to_list session.waiting, stands.in_order), stands.connected)
