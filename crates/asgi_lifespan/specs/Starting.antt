-- What `start` promises, whole ("Startup", "Startup Complete" and "Startup Failed" of the ASGI lifespan protocol 2.0).
use Rattle.std.specs.Prelude.{◌≡◌, ℕ, List, [], ◌∷◌, Option, Some, None, ⊤}
use mathlib.Core.List.{IsPrefix}
use Rattle.asgi_types.specs.declared.end_kind.EndKind.{EndKind}
use Rattle.asgi_types.specs.declared.incoming.Incoming.{Incoming}
use Rattle.asgi_types.specs.declared.incoming.Incoming.TheVariants.{LifespanStartup}
use Rattle.asgi_types.specs.declared.limits.Limits.{Limits}
use Rattle.asgi_types.specs.declared.outgoing.Outgoing.{Outgoing}
use Rattle.asgi_types.specs.declared.scope.Kind.TheVariants as kind
use Rattle.asgi_types.specs.declared.scope.Scope.{Scope}
use Rattle.asgi_protocol.specs.Lawful.{IsLawful}
use Rattle.asgi_apps.specs.declared.task.AppTask.{Ghosts}
use Rattle.asgi_lifespan.specs.declared.lifespan.Lifespan.{Lifespan}
use Rattle.asgi_lifespan.specs.declared.lifespan.Start.{Start}
use Rattle.asgi_lifespan.specs.declared.lifespan.Start.TheVariants as start
use Rattle.asgi_lifespan.specs.Facts.{lifespan_scope, no_request}
use Rattle.asgi_lifespan.specs.Hosting.{Promises, heard_by, said_by}
use Rattle.asgi_lifespan.specs.Lifespan.{StartAnswer, started, failed, unsupported, start_answer}
use Rattle.asgi_lifespan.specs.Turning.{TakesTurns}

module _ {T : Type 0} {g : Ghosts T} where
  -- this is the answer that is returned; while there is none the call gives up
  abbrev pub IsAnswer : Start T g → Option StartAnswer → Type 0
  IsAnswer (start.Started life state) answer = answer ≡ Some (started state)
  IsAnswer (start.Failed message) answer = answer ≡ Some (failed message)
  IsAnswer start.Unsupported answer = answer ≡ Some unsupported
  IsAnswer (start.Idle turns) answer = answer ≡ None
  IsAnswer start.NoMemory answer = ⊥

  -- how many turns were taken, if the call gave up
  abbrev pub turns_in : Start T g → Option ℕ
  turns_in (start.Started life state) = None
  turns_in (start.Failed message) = None
  turns_in start.Unsupported = None
  turns_in (start.Idle turns) = Some turns
  turns_in start.NoMemory = None

  abbrev pub IfStarted : Start T g → (Lifespan T g → Type 0) → Type 0
  IfStarted (start.Started life state) P = P life
  IfStarted (start.Failed message) P = ⊤
  IfStarted start.Unsupported P = ⊤
  IfStarted (start.Idle turns) P = ⊤
  IfStarted start.NoMemory P = ⊤

  -- the scopes that the application was called with
  abbrev pub scopes_of : Start T g → List Scope
  scopes_of (start.Started life state) = lifespan_scope ∷ []
  scopes_of (start.Failed message) = lifespan_scope ∷ []
  scopes_of start.Unsupported = lifespan_scope ∷ []
  scopes_of (start.Idle turns) = lifespan_scope ∷ []
  scopes_of start.NoMemory = []

  abbrev pub IsNoMemory : Start T g → Type 0
  IsNoMemory (start.Started life state) = ⊥
  IsNoMemory (start.Failed message) = ⊥
  IsNoMemory start.Unsupported = ⊥
  IsNoMemory (start.Idle turns) = ⊥
  IsNoMemory start.NoMemory = ⊤

  -- The value stands for these limits and an application that has received and sent this, and whose task ended like this or runs.
  pub record StandsFor (limits : Limits) (life : Lifespan T g) (heard : List Incoming) (said : List Outgoing) (ended : Option EndKind) : Type 0 where
    pub heard_is : heard ≡ heard_by life.hosted
    pub said_is : said ≡ said_by life.hosted
    pub ended_is : ended ≡ life.hosted.ended
    pub turn_limit : life.turns ≡ limits.turns
    pub idle_limit : life.idle_turns ≡ limits.idle_turns

  -- What is promised, in the end, of all that will have been received and sent by the application that the value stands for.
  abbrev pub PromiseOf : Lifespan T g → List Incoming → List Outgoing → Option EndKind → Type 0
  PromiseOf life heard said ended = Promises g.answers life.hosted heard said ended

  -- An application with this promise was started.
  pub record Starts (promise : List Incoming → List Outgoing → Option EndKind → Type 0) (limits : Limits) (pauses_before pauses_after : ℕ) (result : Start T g) : Type 0 where
    -- The application was offered "Startup", and all that it sent is lawful. A call that faulted received and sent nothing.
    pub heard : List Incoming
    pub said : List Outgoing
    pub ended : Option EndKind
    pub hears : IsPrefix heard (LifespanStartup ∷ [])
    pub lawful : IsLawful kind.Lifespan no_request said
    -- this is as the application promises
    pub promised : promise heard said ended
    -- the answer is that of what was sent and of the end
    pub answered : IsAnswer result (start_answer said ended)
    pub turns : TakesTurns limits.turns limits.idle_turns pauses_before pauses_after (turns_in result)
    -- a started one stands for all this, and what is promised of it is within the promise
    pub stands : IfStarted result (λ life. StandsFor limits life heard said ended
        × ((heard : List Incoming) (said : List Outgoing) (ended : Option EndKind) → PromiseOf life heard said ended → promise heard said ended))
