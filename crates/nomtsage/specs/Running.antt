-- What a server does from the call of `run` to its return.
use Rattle.std.specs.Prelude.{◌≡◌, ◌⊎◌, ◌<◌, ◌≤◌, ℕ, Bool, List, [], Option, Some, Result, Ok, Err, IfSome, IsOk}
use Rattle.std.specs.Result.{IsErrOf}
use Rattle.std.specs.declared.io.Error.{Error}
use Rattle.std.specs.declared.net.socket_addr.SocketAddr.{SocketAddr}
use Rattle.asgi_types.specs.declared.limits.Limits.{Limits}
use Rattle.asgi_ws.specs.Lines.{LineState}
use Rattle.asgi_apps.specs.Promises.{Promise}
use Rattle.asgi_conversation.specs.declared.report.Report.{Report}
use Rattle.asgi_server.specs.Connections.{Given}
use Rattle.nomtsage.specs.declared.ending.Ending.{Ending}
use Rattle.nomtsage.specs.declared.ending.Ending.TheVariants as ending
use Rattle.nomtsage.specs.declared.fault.ListenFault.{ListenFault}
use Rattle.nomtsage.specs.declared.fault.ServeError.{ServeError}
use Rattle.nomtsage.specs.declared.fault.ServeError.TheVariants as error
use Rattle.nomtsage.specs.Serving.{around, ServesOn}

-- the result of a server that ended so; `why` is the error of its listener if that failed
abbrev pub IsResultOf : Ending → Error → Result (Unit {0}) ServeError → Type 0
IsResultOf ending.Done why result = IsOk result
IsResultOf (ending.StartupFailed message) why result = IsErrOf result (error.StartupFailed message)
IsResultOf ending.NoStartup why result = IsErrOf result error.NoStartup
IsResultOf (ending.ShutdownFailed message) why result = IsErrOf result (error.ShutdownFailed message)
IsResultOf ending.NoShutdown why result = IsErrOf result error.NoShutdown
IsResultOf ending.ListenerFailed why result = IsErrOf result (error.CannotAccept why)
IsResultOf ending.NoMemory why result = IsErrOf result error.NoMemory
IsResultOf ending.NoThread why result = IsErrOf result error.NoThread
IsResultOf ending.TooLong why result = IsErrOf result error.TooLong

-- the exit status of a program that ends by this error: 2 for a setting, 3 for a start, 4 for a stop, 5 for the system
abbrev pub status_of : ServeError → ℕ
status_of (error.BadWorkers count) = 2
status_of (error.CannotListen address why) = 5
status_of (error.CannotAccept why) = 5
status_of (error.StartupFailed message) = 3
status_of error.NoStartup = 3
status_of (error.ShutdownFailed message) = 4
status_of error.NoShutdown = 4
status_of error.NoMemory = 5
status_of error.NoThread = 5
status_of error.TooLong = 5

-- the exit status of a program that ends by this result
abbrev pub exit_of : Result (Unit {0}) ServeError → ℕ
exit_of (Ok done) = 0
exit_of (Err e) = status_of e

-- ---- what was set

-- The address of a server, the number of its workers if one was set, its limits, and what gets its reports.
pub record Settings (K : Type 0) : Type 0 where
  pub address : SocketAddr
  pub workers : Option ℕ
  pub limits : Limits
  pub teller : K

abbrev pub settings : {K : Type 0} → SocketAddr → Option ℕ → Limits → K → Settings K
settings address workers limits teller = record { address = address; workers = workers; limits = limits; teller = teller }

-- a server has from 1 to 8 workers
abbrev pub IsNumber : ℕ → Type 0
IsNumber workers = (0 < workers) × (workers ≤ 8)

-- it has as many as were set, or as it chose
abbrev pub IsNumberBy : Option ℕ → ℕ → Type 0
IsNumberBy asked workers = IsNumber workers × IfSome asked (λ count. workers ≡ count)

-- the number that was set is none of workers, or the address that was set can't be listened on: nothing was started
abbrev pub IsUnbegun : {K : Type 0} → Settings K → Result (Unit {0}) ServeError → Type 0
IsUnbegun set result =
    ((count : ℕ) × (set.workers ≡ Some count) × ¬ (IsNumber count) × IsErrOf result (error.BadWorkers count)) ⊎ ((why : ListenFault) × IsErrOf result (error.CannotListen set.address why))

-- ---- what it did

module _ {L K : Type 0} (line_state : L → LineState) (tells : K → K → ℕ → Report → Type 0) (answers : Promise) where
  -- A listener was asked for connections, from the first on, and served as `ServesOn` states: of those that it gave each was served as `Serves`
  -- of asgi_conn states, once, between a start and a stop that were answered; if the start failed, it was asked for none.
  pub record Ran (limits : Limits) (workers : ℕ) (teller : K) (result : Result (Unit {0}) ServeError) : Type 0 where
    -- the result of each call of the listener, what got the reports, as it then was, and whether the listener failed
    pub asked : List (Option (Given L))
    pub told : K
    pub has_failed : Bool
    pub ends : Ending
    pub serves : ServesOn line_state tells answers limits workers has_failed (around [] teller) (around asked told) ends
    -- the listener's error, if it failed
    pub why : Error
    pub result_is : IsResultOf ends why result

  -- it served so as it was set, or nothing was begun
  abbrev pub Runs : Settings K → Result (Unit {0}) ServeError → Type 0
  Runs set result = ((workers : ℕ) × IsNumberBy set.workers workers × Ran set.limits workers set.teller result) ⊎ IsUnbegun set result

  -- the same of a program that ends by it
  abbrev pub RunsTo : Settings K → ℕ → Type 0
  RunsTo set status = (result : Result (Unit {0}) ServeError) × Runs set result × (status ≡ exit_of result)
