-- What `Life` answers (ASGI lifespan protocol 2.0, "Startup", "Startup Complete", "Startup Failed", "Shutdown",
-- "Shutdown Complete" and "Shutdown Failed").
use Rattle.std.specs.Prelude.{◌≡◌, ℕ, eqb, List, [], ◌∷◌, ◌++◌, Option, Some, None, if◌then◌else◌, ⊤, codes}
use Rattle.std.specs.Option.{option_to_list}
use Rattle.asgi_types.specs.States.{value_of}
use Rattle.asgi_types.specs.declared.scope.Scope.TheVariants as scope
use Rattle.asgi_types.specs.declared.state.StateValue.{StateValue}
use Rattle.asgi_types.specs.declared.state.StateValue.TheVariants.{Number, Text, Bytes}
use Rattle.asgi_types.specs.declared.incoming.Incoming.{Incoming}
use Rattle.asgi_types.specs.declared.incoming.Incoming.TheVariants.{HttpDisconnect, WsDisconnect, LifespanStartup, LifespanShutdown}
use Rattle.asgi_types.specs.declared.outgoing.Outgoing.{Outgoing}
use Rattle.asgi_types.specs.declared.outgoing.Outgoing.TheVariants.{StartupComplete, StartupFailed, ShutdownComplete, ShutdownFailed}
use Rattle.asgi_types.specs.declared.end_kind.EndKind.{EndKind}
use Rattle.asgi_types.specs.declared.end_kind.EndKind.TheVariants.{Returned, Faulted, Idle}
use Rattle.asgi_apps.specs.declared.life.Life.{Life}
use Rattle.asgi_apps.specs.declared.life.Life.TheVariants.{Works, NoStart, NoStop}
use Rattle.asgi_apps.specs.Answers.{Answers, close_events, line_feed, text_events}
use Rattle.asgi_apps.specs.Promises.{Promise}

-- the line for the value under `n`: the number 7 is shown, and nothing else
abbrev pub line_for : Option StateValue → List ℕ
line_for (Some (Number n)) = if eqb n 7 then codes "n=7" else codes "n=?"
line_for (Some (Text text)) = codes "n=?"
line_for (Some (Bytes bytes)) = codes "n=?"
line_for None = codes "n=?"

abbrev pub number_line : List (List ℕ × StateValue) → List ℕ
number_line state = line_for (value_of state (codes "n"))

-- what is sent at the startup
abbrev pub startup_event : Life → Outgoing
startup_event Works = StartupComplete ((codes "n", Number 7) ∷ [])
startup_event NoStart = StartupFailed (codes "no table")
startup_event NoStop = StartupComplete ((codes "n", Number 7) ∷ [])

-- and at the shutdown, if the start did not fail
abbrev pub shutdown_event : Life → Option Outgoing
shutdown_event Works = Some ShutdownComplete
shutdown_event NoStart = None
shutdown_event NoStop = Some (ShutdownFailed (codes "still busy"))

-- what is sent for the events after the startup: the first shutdown is answered
abbrev pub at_shutdown : Life → List Incoming → List Outgoing
at_shutdown life [] = []
at_shutdown life (LifespanShutdown ∷ heard) = option_to_list (shutdown_event life)
at_shutdown life (HttpDisconnect ∷ heard) = []
at_shutdown life (WsDisconnect code reason ∷ heard) = []
at_shutdown life (_ ∷ heard) = at_shutdown life heard

-- The first startup is answered, and after it the first shutdown; other events are passed over. After a disconnect, which a
-- lifespan scope does not have, nothing may be sent.
abbrev pub lifespan_events : Life → List Incoming → List Outgoing
lifespan_events life [] = []
lifespan_events life (LifespanStartup ∷ heard) = startup_event life ∷ at_shutdown life heard
lifespan_events life (HttpDisconnect ∷ heard) = []
lifespan_events life (WsDisconnect code reason ∷ heard) = []
lifespan_events life (_ ∷ heard) = lifespan_events life heard

-- the last event that is answered, and the answer
abbrev pub last_event : Life → Incoming
last_event Works = LifespanShutdown
last_event NoStart = LifespanStartup
last_event NoStop = LifespanShutdown

abbrev pub last_answer : Life → Outgoing
last_answer Works = ShutdownComplete
last_answer NoStart = StartupFailed (codes "no table")
last_answer NoStop = ShutdownFailed (codes "still busy")

-- the event received last is the one that the last answer answers
pub record HeardLast (life : Life) (heard : List Incoming) : Type 0 where
  pub before : List Incoming
  pub in_order : heard ≡ before ++ last_event life ∷ []
  pub answered : lifespan_events life heard ≡ lifespan_events life before ++ last_answer life ∷ []

-- the task returns only then
abbrev pub ReturnsAtLast : Life → List Incoming → Option EndKind → Type 0
ReturnsAtLast life heard (Some Returned) = HeardLast life heard
ReturnsAtLast life heard (Some Faulted) = ⊤
ReturnsAtLast life heard (Some Idle) = ⊤
ReturnsAtLast life heard None = ⊤

-- What was sent in a lifespan scope is a beginning of the answer, and all of it if the task returned.
abbrev pub ServiceAnswers : Life → List Incoming → List Outgoing → Option EndKind → Type 0
ServiceAnswers life heard said ended = Answers (Some (lifespan_events life heard)) heard said ended × ReturnsAtLast life heard ended

-- A request is answered with the line of the scope's state, and a session is refused. Only a call faults, for want of memory.
abbrev pub LifeAnswers : Life → Promise
LifeAnswers life (scope.Http s) heard said ended = Answers (Some (text_events (number_line s.state ++ line_feed ∷ []))) heard said ended
LifeAnswers life (scope.WebSocket s) heard said ended = Answers (Some close_events) heard said ended
LifeAnswers life (scope.Lifespan s) heard said ended = ServiceAnswers life heard said ended
