-- What `stop` promises, whole ("Shutdown", "Shutdown Complete" and "Shutdown Failed" of the ASGI lifespan protocol 2.0).
use Rattle.std.specs.Prelude.{◌≡◌, ℕ, List, [], ◌∷◌, Option, Some, None}
use mathlib.Core.List.{IsPrefix}
use Rattle.asgi_types.specs.declared.end_kind.EndKind.{EndKind}
use Rattle.asgi_types.specs.declared.incoming.Incoming.{Incoming}
use Rattle.asgi_types.specs.declared.incoming.Incoming.TheVariants.{LifespanStartup, LifespanShutdown}
use Rattle.asgi_types.specs.declared.limits.Limits.{Limits}
use Rattle.asgi_types.specs.declared.outgoing.Outgoing.{Outgoing}
use Rattle.asgi_types.specs.declared.scope.Kind.TheVariants as kind
use Rattle.asgi_protocol.specs.Lawful.{IsLawful}
use Rattle.asgi_lifespan.specs.declared.stop.Stop.{Stop}
use Rattle.asgi_lifespan.specs.declared.stop.Stop.TheVariants.{Stopped, Failed, Idle}
use Rattle.asgi_lifespan.specs.Facts.{no_request}
use Rattle.asgi_lifespan.specs.Lifespan.{stop_answer}
use Rattle.asgi_lifespan.specs.Turning.{TakesTurns}

-- the answer that is returned
abbrev pub answer_in : Stop → Option Stop
answer_in Stopped = Some Stopped
answer_in (Failed message) = Some (Failed message)
answer_in (Idle turns) = None

-- how many turns were taken, if the call gave up
abbrev pub turns_in : Stop → Option ℕ
turns_in Stopped = None
turns_in (Failed message) = None
turns_in (Idle turns) = Some turns

-- An application was stopped that had received and sent this by then, and of which this is promised.
pub record Stops (promise : List Incoming → List Outgoing → Option EndKind → Type 0) (limits : Limits) (heard_before : List Incoming) (said_before : List Outgoing)
    (pauses_before pauses_after : ℕ) (result : Stop) : Type 0 where
  -- The application was offered "Shutdown" after "Startup", and all that it sent is lawful.
  pub heard : List Incoming
  pub said : List Outgoing
  pub ended : Option EndKind
  pub heard_on : IsPrefix heard_before heard
  pub said_on : IsPrefix said_before said
  pub hears : IsPrefix heard (LifespanStartup ∷ LifespanShutdown ∷ [])
  pub lawful : IsLawful kind.Lifespan no_request said
  -- this is as the application promises
  pub promised : promise heard said ended
  -- the answer is that of what was sent and of the end
  pub answered : answer_in result ≡ stop_answer said ended
  pub turns : TakesTurns limits.turns limits.idle_turns pauses_before pauses_after (turns_in result)
