-- How the program ends, by how the server of nomtsage did and whether each line went out.
use Rattle.std.specs.Prelude.{◌≡◌, ◌⊎◌, ℕ, Bool, true, false}
use Rattle.asgi_types.specs.declared.limits.Limits.{Limits}
use Rattle.asgi_ws.specs.Lines.{LineState}
use Rattle.asgi_apps.specs.Promises.{Promise}
use Rattle.nomtsage.specs.declared.ending.Ending.{Ending as Ended}
use Rattle.nomtsage.specs.declared.ending.Ending.TheVariants as ended
use Rattle.asgi_command.specs.declared.ending.Ending.{Ending}
use Rattle.asgi_command.specs.declared.ending.Ending.TheVariants.{Done, StartupFailed, NoStartup, ShutdownFailed, NoShutdown, DeviceFault}
use Rattle.asgi_command.specs.Serving.{Around, LivesOrNot}

-- a line that did not go out is a fault, and so is what the system did not give
abbrev pub ending_with : Bool → Ended → Ending
ending_with false ends = DeviceFault
ending_with true ended.Done = Done
ending_with true (ended.StartupFailed message) = StartupFailed message
ending_with true ended.NoStartup = NoStartup
ending_with true (ended.ShutdownFailed message) = ShutdownFailed message
ending_with true ended.NoShutdown = NoShutdown
ending_with true ended.ListenerFailed = DeviceFault
ending_with true ended.NoMemory = DeviceFault
ending_with true ended.NoThread = DeviceFault
ending_with true ended.TooLong = DeviceFault

module _ {L : Type 0} (line_state : L → LineState) (answers : Promise) (limits : Limits) (workers : ℕ) (has_failed : Bool) where
  -- the application lived to this end, or nothing can run a task, and the listener was not asked
  abbrev pub LivesOn : Around L → Around L → Ending → Type 0
  LivesOn old new ending = ((pauses : ℕ) × LivesOrNot line_state answers limits workers has_failed old new 0 pauses ending) ⊎ ((new ≡ old) × (ending ≡ DeviceFault))
