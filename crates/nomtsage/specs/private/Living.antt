-- What became of the start of an application, and how the server ended by its stop (ASGI lifespan protocol 2.0, "Startup Complete",
-- "Startup Failed").
use Rattle.std.specs.Prelude.{◌≡◌, ◌⊎◌, ℕ, List, [], Option, Some, None}
use Rattle.asgi_types.specs.declared.end_kind.EndKind.{EndKind}
use Rattle.asgi_types.specs.declared.incoming.Incoming.{Incoming}
use Rattle.asgi_types.specs.declared.limits.Limits.{Limits}
use Rattle.asgi_types.specs.declared.outgoing.Outgoing.{Outgoing}
use Rattle.asgi_types.specs.declared.state.StateValue.{StateValue}
use Rattle.asgi_apps.specs.Promises.{Promise}
use Rattle.asgi_apps.specs.declared.task.AppTask.{Ghosts}
use Rattle.asgi_lifespan.specs.declared.lifespan.Lifespan.{Lifespan}
use Rattle.asgi_lifespan.specs.declared.lifespan.Start.{Start}
use Rattle.asgi_lifespan.specs.declared.lifespan.Start.TheVariants as start
use Rattle.asgi_lifespan.specs.declared.stop.Stop.{Stop}
use Rattle.asgi_lifespan.specs.declared.stop.Stop.TheVariants as stop
use Rattle.asgi_lifespan.specs.Facts.{lifespan_scope}
use Rattle.asgi_lifespan.specs.Starting.{IsNoMemory, PromiseOf, StandsFor, Starts}
use Rattle.asgi_lifespan.specs.Stopping.{Stops}
use Rattle.nomtsage.specs.declared.ending.Ending.{Ending}
use Rattle.nomtsage.specs.declared.ending.Ending.TheVariants as ending
use Rattle.nomtsage.specs.declared.ending.Served.{Served}
use Rattle.nomtsage.specs.declared.living.Begun.{Begun}
use Rattle.nomtsage.specs.declared.living.Begun.TheVariants as begun
use Rattle.nomtsage.specs.Serving.{ending_of}

module _ {T R : Type 0} {g : Ghosts T} where
  -- ---- the start

  -- the application lives, by this lifespan if it has one, after so many pauses, and is served with this state
  abbrev pub IsLiving : Begun T R g → Option (Lifespan T g) → List (List ℕ × StateValue) → ℕ → Type 0
  IsLiving (begun.Lives living state) lifespan set pauses = (living.lifespan ≡ lifespan) × (state ≡ set) × (living.pause.count ≡ pauses)
  IsLiving (begun.Ends ends) lifespan set pauses = ⊥

  -- it does not live, and the server ends so
  abbrev pub IsEnd : Begun T R g → Ending → Type 0
  IsEnd (begun.Lives living state) ends = ⊥
  IsEnd (begun.Ends is) ends = is ≡ ends

  -- A start that failed, had no answer or lacked memory is the end, as what it is.
  abbrev pub IsBegun : Start T g → ℕ → Begun T R g → Type 0
  IsBegun (start.Started life state) pauses found = IsLiving found (Some life) state pauses
  IsBegun start.Unsupported pauses found = IsLiving found None [] pauses
  IsBegun (start.Failed message) pauses found = IsEnd found (ending.StartupFailed message)
  IsBegun (start.Idle turns) pauses found = IsEnd found ending.NoStartup
  IsBegun start.NoMemory pauses found = IsEnd found ending.NoMemory

  -- the application was started, or memory for that was refused, and this became of it
  abbrev pub Begins : Promise → Limits → ℕ → Begun T R g → Type 0
  Begins answers limits before found = (answer : Start T g) × (between : ℕ)
      × ((IsNoMemory answer × (between ≡ before)) ⊎ Starts (answers lifespan_scope) limits before between answer) × IsBegun answer between found

-- ---- the stop

module _ {T : Type 0} {g : Ghosts T} where
  -- the application was stopped with this answer, whatever it had received and sent before
  abbrev pub IsStopped : Limits → Lifespan T g → ℕ → ℕ → Stop → Type 0
  IsStopped limits life before after answer =
      (heard : List Incoming) (said : List Outgoing) (ended : Option EndKind) → StandsFor limits life heard said ended → Stops (PromiseOf life) limits heard said before after answer

  -- the server ended so, by how it had served, and by the stop of an application that has a lifespan
  abbrev pub EndsBy : Option (Lifespan T g) → ℕ → ℕ → Served → Ending → Type 0
  EndsBy (Some life) before after how ends = (answer : Stop) × ((limits : Limits) → IsStopped limits life before after answer) × (ends ≡ ending_of how answer)
  EndsBy None before after how ends = (after ≡ before) × (ends ≡ ending_of how stop.Stopped)
