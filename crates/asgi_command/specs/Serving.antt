-- How the program serves the connections of a listener: the application is started, each connection is served and reported,
-- and the application is stopped, whatever happened in between (ASGI lifespan protocol 2.0).
use Rattle.std.specs.Prelude.{◌≡◌, ◌⊎◌, ◌&&◌, ◌++◌, ℕ, Bool, true, false, not, List, [], ◌∷◌, codes, replicate, Option, Some, None}
use mathlib.Core.List.{IsPrefix}
use Rattle.asgi_types.specs.declared.end_kind.EndKind.{EndKind}
use Rattle.asgi_types.specs.declared.incoming.Incoming.{Incoming}
use Rattle.asgi_types.specs.declared.incoming.Incoming.TheVariants.{LifespanStartup}
use Rattle.asgi_types.specs.declared.limits.Limits.{Limits}
use Rattle.asgi_types.specs.declared.outgoing.Outgoing.{Outgoing}
use Rattle.asgi_types.specs.declared.scope.Kind.TheVariants as kind
use Rattle.asgi_types.specs.declared.state.StateValue.{StateValue}
use Rattle.asgi_protocol.specs.Lawful.{IsLawful}
use Rattle.asgi_ws.specs.Lines.{LineState}
use Rattle.asgi_apps.specs.Promises.{Promise}
use Rattle.asgi_conversation.specs.declared.report.Report.{Report}
use Rattle.asgi_lifespan.specs.declared.stop.Stop.{Stop}
use Rattle.asgi_lifespan.specs.declared.stop.Stop.TheVariants as stop
use Rattle.asgi_lifespan.specs.Facts.{lifespan_scope, no_request}
use Rattle.asgi_lifespan.specs.Lifespan.{StartAnswer, started, failed, unsupported, start_answer}
use Rattle.asgi_lifespan.specs.Stopping.{Stops}
use Rattle.asgi_lifespan.specs.Turning.{TakesTurns}
use Rattle.asgi_crew.specs.declared.give.End.{End}
use Rattle.asgi_crew.specs.declared.give.End.TheVariants as end
use Rattle.asgi_crew.specs.Ran.{last_of}
use Rattle.asgi_crew.specs.Shared.{IsShared}
use Rattle.asgi_server.specs.Connections.{Given, served_by}
use Rattle.asgi_command.specs.declared.ending.Ending.{Ending}
use Rattle.asgi_command.specs.declared.ending.Ending.TheVariants.{Done, StartupFailed, NoStartup, ShutdownFailed, NoShutdown, DeviceFault}
use Rattle.asgi_command.specs.Telling.{Writer, Tells, TellsOf, Puts, report_lines, device_fault}

-- ---- how the server ended

-- the exit status
abbrev pub status_of : Ending → ℕ
status_of Done = 0
status_of (StartupFailed message) = 3
status_of NoStartup = 3
status_of (ShutdownFailed message) = 4
status_of NoShutdown = 4
status_of DeviceFault = 5

-- what is written to standard error: nothing if all went well
abbrev pub of_ending : Ending → Option (List ℕ)
of_ending Done = None
of_ending (StartupFailed message) = Some (codes "startup failed: " ++ message ++ codes "\n")
of_ending NoStartup = Some (codes "startup failed: no answer\n")
of_ending (ShutdownFailed message) = Some (codes "shutdown failed: " ++ message ++ codes "\n")
of_ending NoShutdown = Some (codes "shutdown failed: no answer\n")
of_ending DeviceFault = Some device_fault

-- the end by how the application was stopped
abbrev pub end_by_stop : Stop → Ending
end_by_stop stop.Stopped = Done
end_by_stop (stop.Failed message) = ShutdownFailed message
end_by_stop (stop.Idle turns) = NoShutdown

-- the end, by whether all went well with the connections and their reports
abbrev pub ending_of : Bool → Stop → Ending
ending_of true answer = end_by_stop answer
ending_of false answer = DeviceFault

-- ---- the connections and their reports

-- What is known of the listener and of standard output at one time: the result of each call for a connection, and what was
-- written.
pub record Around (L : Type 0) : Type 0 where
  pub asked : List (Option (Given L))
  pub output : Writer

abbrev pub around : {L : Type 0} → List (Option (Given L)) → Writer → Around L
around asked output = record { asked = asked; output = output }

-- whether the listener has no more connections
abbrev pub gave_all : End → Bool
gave_all end.Given = true
gave_all end.NoMemory = false
gave_all end.NoThread = false

module _ {L : Type 0} (line_state : L → LineState) (answers : Promise) (limits : Limits) (workers : ℕ) (has_failed : Bool) where
  -- The connections of the listener were served with this state, each by one of `workers` workers, and a line was written for
  -- each, in the order in which they came. All went well if the listener gave all that it had and has not failed, and each
  -- line went out.
  pub record ServesEach (state : List (List ℕ × StateValue)) (old new : Around L) (well : Bool) : Type 0 where
    -- why no more connections were asked for
    pub ended : End
    -- the count of each worker's pauses began at none, and is this
    pub pauses : List ℕ
    pub reports : List (ℕ × Report)
    pub shared : IsShared (served_by line_state answers limits state) old.asked new.asked (last_of ended) (replicate workers 0) pauses reports
    -- the lines went out, all of them or as much as the writer took
    pub told : Bool
    pub tells : Puts (report_lines reports) old.output new.output told
    pub well_is : well ≡ (gave_all ended && told && not has_failed)

  -- ---- the life of the application

  -- What comes after the answer to "Startup", and after what was received and sent up to it: if the start failed, or there
  -- was no answer, the listener is not asked.
  abbrev pub Follows : Option StartAnswer → List Incoming → List Outgoing → Around L → Around L → ℕ → ℕ → Ending → Type 0
  Follows (Some (started state)) heard said old new before after ending =
      (well : Bool) × (answer : Stop) × ServesEach state old new well × Stops (answers lifespan_scope) limits heard said before after answer × (ending ≡ ending_of well answer)
  Follows (Some unsupported) heard said old new before after ending =
      (well : Bool) × ServesEach [] old new well × (after ≡ before) × (ending ≡ ending_of well stop.Stopped)
  Follows (Some (failed message)) heard said old new before after ending = (new ≡ old) × (after ≡ before) × (ending ≡ StartupFailed message)
  Follows None heard said old new before after ending = (new ≡ old) × (after ≡ before) × (ending ≡ NoStartup)

  -- The application was started, and what came next is by its answer.
  pub record Lives (old new : Around L) (before after : ℕ) (ending : Ending) : Type 0 where
    -- The application was offered "Startup"; all that it sent by then is lawful, and as it promises.
    pub heard : List Incoming
    pub said : List Outgoing
    pub ended : Option EndKind
    pub hears : IsPrefix heard (LifespanStartup ∷ [])
    pub lawful : IsLawful kind.Lifespan no_request said
    pub promised : answers lifespan_scope heard said ended
    -- the start took turns within the limits; if it gave up, after this many
    pub gave_up : Option ℕ
    pub between : ℕ
    pub turns : TakesTurns limits.turns limits.idle_turns before between gave_up
    pub follows : Follows (start_answer said ended) heard said old new between after ending

  -- or memory for its start was refused: no turn was taken, and the listener was not asked
  abbrev pub LivesOrNot : Around L → Around L → ℕ → ℕ → Ending → Type 0
  LivesOrNot old new before after ending = Lives old new before after ending ⊎ ((new ≡ old) × (after ≡ before) × (ending ≡ DeviceFault))

  -- ---- the program

  -- The server ran to this end, which was written to standard error; the status is that of it.
  pub record RunsOn (old new : Around L) (before after : ℕ) (errors_old errors_new : Writer) (status : ℕ) : Type 0 where
    pub ending : Ending
    pub lives : LivesOrNot old new before after ending
    pub tells : TellsOf (of_ending ending) errors_old errors_new
    pub status_is : status ≡ status_of ending

  -- Or nothing can run a task: this was written there, and the listener was not asked.
  abbrev pub ServesOn : Around L → Around L → Writer → Writer → ℕ → Type 0
  ServesOn old new errors_old errors_new status =
      ((pauses : ℕ) × RunsOn old new 0 pauses errors_old errors_new status) ⊎ ((new ≡ old) × Tells device_fault errors_old errors_new × (status ≡ 5))
