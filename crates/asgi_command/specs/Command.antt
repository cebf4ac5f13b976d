-- What the program does, by the words after its name.
use Rattle.std.specs.Prelude.{◌≡◌, ℕ, Bool, List, [], ◌∷◌, codes, None, if◌then◌else◌}
use Rattle.asgi_types.specs.declared.limits.Limits.{Limits}
use Rattle.asgi_types.specs.Ranges.{AreLimits}
use Rattle.asgi_apps.specs.declared.life.Life.TheVariants.{Works, NoStart, NoStop}
use Rattle.asgi_apps.specs.declared.mounting.Mount.{Mount}
use Rattle.asgi_apps.specs.declared.root_path.RootPath.{RootPath}
use Rattle.asgi_apps.specs.Answers.{Answers, not_found_answer, root_path_answer}
use Rattle.asgi_apps.specs.Life.{LifeAnswers}
use Rattle.asgi_apps.specs.Mounts.{MountsAnswer}
use Rattle.asgi_apps.specs.Scopes.{kind_of}
use Rattle.asgi_apps.specs.WsEcho.{WsEchoAnswers}
use Rattle.asgi_conversation.specs.declared.report.Outcome.{Outcome}
use Rattle.asgi_conversation.specs.declared.report.Report.{Report}
use Rattle.asgi_conversation.specs.OutcomeClasses.{is_cut}
use Rattle.asgi_conversation.specs.PromisedWhole.{echo_promise, hello_promise}
use Rattle.asgi_ws.specs.Lines.{LineState}
use Rattle.asgi_apps.specs.Promises.{Promise}
use Rattle.asgi_conn.specs.Serving.{Serves}
use Rattle.asgi_command.specs.declared.words.App.{App}
use Rattle.asgi_command.specs.declared.words.App.TheVariants as app
use Rattle.asgi_command.specs.Serving.{Around, ServesOn}
use Rattle.asgi_command.specs.Telling.{Writer, Tells, TellsOf, device_fault, of_outcome}

-- `RootPath` under two prefixes
abbrev pub two_mounts : List (Mount RootPath)
two_mounts = record { prefix = codes "/a"; app = record {} } ∷ record { prefix = codes "/a/b"; app = record {} } ∷ []

-- the promise of the named application
abbrev pub promise : App → Promise
promise app.Hello = hello_promise
promise app.Echo = echo_promise
promise app.NotFound = λ scope. Answers (not_found_answer scope)
promise app.WsEcho = λ scope. WsEchoAnswers (kind_of scope)
promise app.Mounts = λ scope. MountsAnswer (λ _ taken. Answers (root_path_answer taken)) two_mounts scope
promise app.Life = LifeAnswers Works
promise app.NoStart = LifeAnswers NoStart
promise app.NoStop = LifeAnswers NoStop

-- the exit status of `once`
abbrev pub exit_status : Outcome → ℕ
exit_status outcome = if is_cut outcome then 5 else 0

-- what is known of the line and of standard error at one time
pub record Streams : Type 0 where
  pub line : LineState
  pub errors : Writer

abbrev pub streams : LineState → Writer → Streams
streams line errors = record { line = line; errors = errors }

-- One connection was served with the usual limits, with no client, no server and an empty state, as `serve_connection`
-- promises: by an application of this promise, and with the program's own pause.
pub record ServesWhole (answers : Promise) (old new : LineState) (report : Report) : Type 0 where
  pub limits : Limits
  pub usual : AreLimits limits 16384 64 1048576 16384 16 30000 1099511627776
  pub pauses : ℕ
  pub serves : Serves answers limits None None [] old new 0 pauses report

-- One connection was served; its outcome was written to standard error, and the status is that of the outcome.
pub record ServesOnce (answers : Promise) (old new : Streams) (status : ℕ) : Type 0 where
  pub report : Report
  pub serves : ServesWhole answers old.line new.line report
  pub tells : TellsOf (of_outcome report.outcome) old.errors new.errors
  pub status_is : status ≡ exit_status report.outcome

-- Nothing can run a task, so no connection was begun; this was written to standard error, and the status is that of it.
pub record BeginsNone (old new : Streams) (status : ℕ) : Type 0 where
  pub line_is : new.line ≡ old.line
  pub tells : Tells device_fault old.errors new.errors
  pub status_is : status ≡ 5

-- The connections of a port were served with the usual limits, by an application of this promise and this many workers.
pub record ServesPort {L : Type 0} (line_state : L → LineState) (answers : Promise) (workers : ℕ) (has_failed : Bool)
    (old new : Around L) (errors_old errors_new : Writer) (status : ℕ) : Type 0 where
  pub limits : Limits
  pub usual : AreLimits limits 16384 64 1048576 16384 16 30000 1099511627776
  pub serves : ServesOn line_state answers limits workers has_failed old new errors_old errors_new status
