-- How the start and the stop of an application are answered (ASGI lifespan protocol 2.0).
use Rattle.std.specs.Prelude.{◌≡◌, ◌⊎◌, ℕ, List, [], ◌∷◌, Option, Some, None}
use Rattle.asgi_types.specs.declared.end_kind.EndKind.{EndKind}
use Rattle.asgi_types.specs.declared.end_kind.EndKind.TheVariants as end_kind
use Rattle.asgi_types.specs.declared.outgoing.Outgoing.{Outgoing}
use Rattle.asgi_types.specs.declared.outgoing.Outgoing.TheVariants.{StartupComplete, StartupFailed, ShutdownComplete, ShutdownFailed}
use Rattle.asgi_types.specs.declared.state.StateValue.{StateValue}
use Rattle.asgi_lifespan.specs.declared.stop.Stop.{Stop}
use Rattle.asgi_lifespan.specs.declared.stop.Stop.TheVariants.{Stopped, Failed}

-- how a start is answered: by a state, by a message, or not at all
pub data StartAnswer : Type 0 where
  started : List (List ℕ × StateValue) → StartAnswer
  failed : List ℕ → StartAnswer
  unsupported : StartAnswer

-- The answer to "Startup", by what the task has sent and how it ended; there is none yet while it runs and is silent.
abbrev pub start_answer : List Outgoing → Option EndKind → Option StartAnswer
-- "Startup Complete"
start_answer (StartupComplete state ∷ said) ended = Some (started state)
-- "Startup Failed"
start_answer (StartupFailed message ∷ said) ended = Some (failed message)
-- "If an exception is raised when calling the application callable [..], the server must continue but not send any lifespan events."
start_answer said (Some kind) = Some unsupported
start_answer said None = None

-- The answer to "Shutdown", after the answer to "Startup".
abbrev pub stop_answer : List Outgoing → Option EndKind → Option Stop
-- "Shutdown Complete"
stop_answer (startup ∷ ShutdownComplete ∷ said) ended = Some Stopped
-- "Shutdown Failed"
stop_answer (startup ∷ ShutdownFailed message ∷ said) ended = Some (Failed message)
-- a task that ends with no answer has stopped if it returned, and failed with no message if it faulted
stop_answer said (Some end_kind.Returned) = Some Stopped
stop_answer said (Some end_kind.Faulted) = Some (Failed [])
stop_answer said (Some end_kind.Idle) = None
stop_answer said None = None

-- the events that answer "Startup", and "Shutdown"
abbrev pub IsStartAnswer : Outgoing → Type 0
IsStartAnswer event = ((state : List (List ℕ × StateValue)) × (event ≡ StartupComplete state)) ⊎ ((message : List ℕ) × (event ≡ StartupFailed message))

abbrev pub IsStopAnswer : Outgoing → Type 0
IsStopAnswer event = (event ≡ ShutdownComplete) ⊎ ((message : List ℕ) × (event ≡ ShutdownFailed message))
