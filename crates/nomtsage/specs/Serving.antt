-- How a server serves: the application is started, each connection that comes is served once and reported once, and the application is
-- stopped, whatever happened in between (ASGI lifespan protocol 2.0). `Lives` has how connections are served as its parameter, of which there
-- are two: by workers (`ServesEach`), and in seats (`ServesSeats` of Seats.antt).
use Rattle.std.specs.Prelude.{◌≡◌, ◌⊎◌, ℕ, Bool, true, false, List, [], ◌∷◌, replicate, Option, Some, None}
use mathlib.Core.List.{IsPrefix}
use Rattle.asgi_types.specs.declared.end_kind.EndKind.{EndKind}
use Rattle.asgi_types.specs.declared.incoming.Incoming.{Incoming}
use Rattle.asgi_types.specs.declared.incoming.Incoming.TheVariants.{LifespanStartup}
use Rattle.asgi_types.specs.declared.limits.Limits.{Limits}
use Rattle.asgi_types.specs.declared.outgoing.Outgoing.{Outgoing}
use Rattle.asgi_types.specs.declared.scope.Kind.TheVariants as kind
use Rattle.asgi_types.specs.declared.state.StateValue.{StateValue}
use Rattle.asgi_protocol.specs.Lawful.{IsLawful}
use Rattle.asgi_ws.specs.Lines.{LineState}
use Rattle.asgi_apps.specs.Promises.{Promise}
use Rattle.asgi_conversation.specs.declared.report.Report.{Report}
use Rattle.asgi_lifespan.specs.declared.stop.Stop.{Stop}
use Rattle.asgi_lifespan.specs.declared.stop.Stop.TheVariants as stop
use Rattle.asgi_lifespan.specs.Facts.{lifespan_scope, no_request}
use Rattle.asgi_lifespan.specs.Lifespan.{StartAnswer, started, failed, unsupported, start_answer}
use Rattle.asgi_lifespan.specs.Stopping.{Stops}
use Rattle.asgi_lifespan.specs.Turning.{TakesTurns}
use Rattle.asgi_desk.specs.Told.{Told}
use Rattle.asgi_crew.specs.declared.give.End.{End}
use Rattle.asgi_crew.specs.declared.give.End.TheVariants as end
use Rattle.asgi_crew.specs.Ran.{last_of}
use Rattle.asgi_crew.specs.Shared.{IsShared}
use Rattle.asgi_server.specs.Connections.{Given, served_by}
use Rattle.nomtsage.specs.declared.ending.Served.{Served}
use Rattle.nomtsage.specs.declared.ending.Served.TheVariants as served
use Rattle.nomtsage.specs.declared.ending.Ending.{Ending}
use Rattle.nomtsage.specs.declared.ending.Ending.TheVariants as ending

-- ---- how serving ended, and then the server

-- by why no more connections were asked for, and whether the listener failed
abbrev pub served_of : End → Bool → Served
served_of end.Given true = served.ListenerFailed
served_of end.Given false = served.Each
served_of end.NoMemory has_failed = served.NoMemory
served_of end.NoThread has_failed = served.NoThread

-- by how the application was stopped
abbrev pub end_by_stop : Stop → Ending
end_by_stop stop.Stopped = ending.Done
end_by_stop (stop.Failed message) = ending.ShutdownFailed message
end_by_stop (stop.Idle turns) = ending.NoShutdown

-- what went wrong with the connections comes first
abbrev pub ending_of : Served → Stop → Ending
ending_of served.Each answer = end_by_stop answer
ending_of served.ListenerFailed answer = ending.ListenerFailed
ending_of served.NoMemory answer = ending.NoMemory
ending_of served.NoThread answer = ending.NoThread
ending_of served.TooLong answer = ending.TooLong

-- ---- the connections and their reports

-- What is known at one time: the result of each call for a connection, and what gets the reports.
pub record Around (Q K : Type 0) : Type 0 where
  pub asked : List Q
  pub teller : K

abbrev pub around : {Q K : Type 0} → List Q → K → Around Q K
around asked teller = record { asked = asked; teller = teller }

module _ {L K : Type 0} (line_state : L → LineState) (tells : K → K → ℕ → Report → Type 0) (answers : Promise) (limits : Limits) (workers : ℕ) (has_failed : Bool) where
  -- The connections that the listener gave were served with this state, each once, as `Serves` of asgi_conn states, and each by one of
  -- `workers` workers. The teller got a report of each, once, in the order in which they came.
  pub record ServesEach (state : List (List ℕ × StateValue)) (old new : Around (Option (Given L)) K) (how : Served) : Type 0 where
    -- why no more connections were asked for
    pub ended : End
    -- the count of each worker's pauses began at none, and is this
    pub pauses : List ℕ
    pub reports : List (ℕ × Report)
    pub shared : IsShared (served_by line_state answers limits state) old.asked new.asked (last_of ended) (replicate workers 0) pauses reports
    pub told : Told tells old.teller new.teller reports
    pub how_is : how ≡ served_of ended has_failed

-- ---- the life of the application

-- how connections are served with a state, from what is known before to what is known after it
module _ {A : Type 0} (serves : List (List ℕ × StateValue) → A → A → Served → Type 0) (answers : Promise) (limits : Limits) where
  -- What comes after the answer to "Startup", and after what was received and sent up to it. If the start failed, or there was no answer, no
  -- connection is asked for, and nothing is reported.
  abbrev pub Follows : Option StartAnswer → List Incoming → List Outgoing → A → A → ℕ → ℕ → Ending → Type 0
  Follows (Some (started state)) heard said old new before after ends =
      (how : Served) × (answer : Stop) × serves state old new how × Stops (answers lifespan_scope) limits heard said before after answer × (ends ≡ ending_of how answer)
  Follows (Some unsupported) heard said old new before after ends =
      (how : Served) × serves [] old new how × (after ≡ before) × (ends ≡ ending_of how stop.Stopped)
  Follows (Some (failed message)) heard said old new before after ends = (new ≡ old) × (after ≡ before) × (ends ≡ ending.StartupFailed message)
  Follows None heard said old new before after ends = (new ≡ old) × (after ≡ before) × (ends ≡ ending.NoStartup)

  -- The application was started, and what came next is by its answer.
  pub record Lives (old new : A) (before after : ℕ) (ends : Ending) : Type 0 where
    -- The application was offered "Startup"; all that it sent by then is lawful, and as it promises.
    pub heard : List Incoming
    pub said : List Outgoing
    pub ended : Option EndKind
    pub hears : IsPrefix heard (LifespanStartup ∷ [])
    pub lawful : IsLawful kind.Lifespan no_request said
    pub promised : answers lifespan_scope heard said ended
    -- the start took turns within the limits; if it gave up, after this many
    pub gave_up : Option ℕ
    pub between : ℕ
    pub turns : TakesTurns limits.turns limits.idle_turns before between gave_up
    pub follows : Follows (start_answer said ended) heard said old new between after ends

  -- or memory for its start was refused: no turn was taken, and no connection was asked for
  abbrev pub LivesOrNot : A → A → ℕ → ℕ → Ending → Type 0
  LivesOrNot old new before after ends = Lives old new before after ends ⊎ ((new ≡ old) × (after ≡ before) × (ends ≡ ending.NoMemory))

  -- or what the server needs was refused before: the application was not started, and no connection asked for
  abbrev pub LivesOn : A → A → Ending → Type 0
  LivesOn old new ends = ((pauses : ℕ) × LivesOrNot old new 0 pauses ends) ⊎ ((new ≡ old) × ((ends ≡ ending.NoMemory) ⊎ (ends ≡ ending.NoThread)))

-- the same of a server with workers
abbrev pub ServesOn : {L K : Type 0} → (L → LineState) → (K → K → ℕ → Report → Type 0) → Promise → Limits → ℕ → Bool → Around (Option (Given L)) K → Around (Option (Given L)) K → Ending → Type 0
ServesOn line_state tells answers limits workers has_failed old new ends =
    LivesOn (ServesEach line_state tells answers limits workers has_failed) answers limits old new ends
