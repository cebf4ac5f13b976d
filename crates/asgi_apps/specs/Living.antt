-- The invariant of a task of `Life`, its `stands`.
use Rattle.std.specs.Prelude.{◌≡◌, ◌⊎◌, Bool, true, false, is_none, List, [], ◌∷◌, ◌++◌, Option, Some, None, ⊤}
use Rattle.std.specs.Option.{option_to_list}
use Rattle.std.proofs.Common.{sym, ◌∙◌, ap, append-nil}
use Rattle.asgi_types.specs.declared.scope.Kind.{Kind}
use Rattle.asgi_types.specs.declared.scope.Kind.TheVariants.{Lifespan}
use Rattle.asgi_types.specs.declared.incoming.Incoming.{Incoming}
use Rattle.asgi_types.specs.declared.incoming.Incoming.TheVariants.{HttpDisconnect, WsDisconnect, LifespanStartup, LifespanShutdown}
use Rattle.asgi_types.specs.declared.outgoing.Outgoing.{Outgoing}
use Rattle.asgi_types.specs.declared.end_kind.EndKind.{EndKind}
use Rattle.asgi_pipes.specs.Disconnects.{has_disconnect}
use Rattle.asgi_apps.specs.declared.life.Life.{Life}
use Rattle.asgi_apps.specs.declared.life.LifeTask.{LifeTask}
use Rattle.asgi_apps.specs.declared.life.Service.{Service}
use Rattle.asgi_apps.specs.declared.life.Work.{Work}
use Rattle.asgi_apps.specs.declared.life.Work.TheVariants as work
use Rattle.asgi_apps.specs.Saying.{HasSaid, SaysList, left_of, script}
use Rattle.asgi_apps.specs.Life.{HeardLast, ServiceAnswers, lifespan_events, shutdown_event, startup_event}

-- what an event is answered with, by what is left to send at the startup and at the shutdown
abbrev pub reply : Incoming → Option Outgoing → Option Outgoing → List Outgoing
reply LifespanStartup startup shutdown = option_to_list startup
reply LifespanShutdown (Some event) shutdown = []
reply LifespanShutdown None shutdown = option_to_list shutdown
reply _ startup shutdown = []

-- what is left for the startup after an event
abbrev pub startup_after : Incoming → Option Outgoing → Option Outgoing
startup_after LifespanStartup startup = None
startup_after HttpDisconnect startup = None
startup_after (WsDisconnect code reason) startup = None
startup_after _ startup = startup

-- and for the shutdown
abbrev pub shutdown_after : Incoming → Option Outgoing → Option Outgoing → Option Outgoing
shutdown_after LifespanShutdown (Some event) shutdown = shutdown
shutdown_after LifespanShutdown None shutdown = None
shutdown_after HttpDisconnect startup shutdown = None
shutdown_after (WsDisconnect code reason) startup shutdown = None
shutdown_after _ startup shutdown = shutdown

-- the event is the last that is answered
abbrev pub is_last : Incoming → Option Outgoing → Option Outgoing → Bool
is_last LifespanStartup (Some event) shutdown = is_none shutdown
is_last LifespanStartup None shutdown = false
is_last LifespanShutdown None (Some event) = true
is_last LifespanShutdown None None = false
is_last LifespanShutdown (Some event) shutdown = false
is_last _ startup shutdown = false

-- what is sent for further events
abbrev pub later : Option Outgoing → Option Outgoing → List Incoming → List Outgoing
later startup shutdown [] = []
later startup shutdown (event ∷ more) = reply event startup shutdown ++ later (startup_after event startup) (shutdown_after event startup shutdown) more

-- what is left to send is of this form
abbrev pub IsLeft : Life → Option Outgoing → Option Outgoing → Type 0
IsLeft life (Some event) shutdown = (event ≡ startup_event life) × (shutdown ≡ shutdown_event life)
IsLeft life None (Some event) = Some event ≡ shutdown_event life
IsLeft life None None = ⊤

-- a task that has received nothing
pub record Begins (life : Life) (service : Service) : Type 0 where
  pub life_is : service.life ≡ life
  pub waiting : service.waiting ≡ None
  pub startup : service.startup ≡ Some (startup_event life)
  pub shutdown : service.shutdown ≡ shutdown_event life
  pub is_over : service.is_over ≡ false

-- All of the answer so far was sent but what waits, and what is left answers further events.
pub record ServiceStands (service : Service) (kind : Kind) (heard : List Incoming) (said : List Outgoing) : Type 0 where
  pub kind_is : kind ≡ Lifespan
  pub in_order : (more : List Incoming) → lifespan_events service.life (heard ++ more) ≡ (said ++ option_to_list service.waiting) ++ later service.startup service.shutdown more
  pub left : IsLeft service.life service.startup service.shutdown
  pub connected : (has_disconnect heard ≡ false) ⊎ ((service.waiting ≡ None) × (service.startup ≡ None) × (service.shutdown ≡ None))
  pub over : service.is_over ≡ true → HeardLast service.life heard

abbrev pub WorkStands : Work → Kind → List Incoming → List Outgoing → Type 0
WorkStands (work.Answers says) kind heard said = HasSaid says kind heard said
WorkStands (work.Serves service) kind heard said = ServiceStands service kind heard said

abbrev pub Stands : LifeTask → Kind → List Incoming → List Outgoing → Type 0
Stands task kind heard said = WorkStands task.0 kind heard said

abbrev pub WorkAnswers : Work → List Incoming → List Outgoing → Option EndKind → Type 0
WorkAnswers (work.Answers says) heard said ended = SaysList says.kind (script says) said ended
WorkAnswers (work.Serves service) heard said ended = ServiceAnswers service.life heard said ended

abbrev pub TaskAnswers : LifeTask → List Incoming → List Outgoing → Option EndKind → Type 0
TaskAnswers task heard said ended = WorkAnswers task.0 heard said ended

-- what was sent is a beginning of the answer
pub service_keeps : (service : Service) (kind : Kind) (heard : List Incoming) (said : List Outgoing) → ServiceStands service kind heard said
    → ServiceAnswers service.life heard said None
service_keeps service kind heard said stands = (
  (
    option_to_list service.waiting,
    sym (append-nil (said ++ option_to_list service.waiting)) ∙ sym (stands.in_order []) ∙ ap (λ l. lifespan_events service.life l) (append-nil heard),
  ),
  tt,
)

-- a running task has kept its promise
pub task_keeps : (work : Work) (kind : Kind) (heard : List Incoming) (said : List Outgoing) → WorkStands work kind heard said → WorkAnswers work heard said None
task_keeps (work.Answers says) kind heard said stands = (left_of says, stands.in_order)
task_keeps (work.Serves service) kind heard said stands = service_keeps service kind heard said stands
