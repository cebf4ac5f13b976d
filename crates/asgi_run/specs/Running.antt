-- The two halves of one exchange, run until it is over.
use Rattle.std.specs.Prelude.{◌≡◌, ◌⊎◌, ℕ, List, [], ◌++◌, Option, Some, None, IsSomeAnd, true, false, ⊤}
use Rattle.asgi_io.specs.Counting.{RoseBy}
use Rattle.asgi_io.specs.declared.turns.Turn.{Turn}
use Rattle.asgi_io.specs.declared.turns.Turn.TheVariants.{Moved}
use Rattle.asgi_types.specs.declared.end_kind.EndKind.{EndKind}
use Rattle.asgi_types.specs.declared.end_kind.EndKind.TheVariants.{Faulted}
use Rattle.asgi_types.specs.declared.incoming.Incoming.{Incoming}
use Rattle.asgi_types.specs.declared.outgoing.Outgoing.{Outgoing}
use Rattle.asgi_types.specs.declared.scope.Kind.{Kind}
use Rattle.asgi_pipes.specs.declared.ends.AppEnd.{Ghosts}
use Rattle.asgi_pipes.specs.declared.ends.ConnEnd as conn_end
use Rattle.asgi_pipes.specs.Items.{items_of}
use Rattle.asgi_apps.specs.Driving.{IsDriven}
use Rattle.asgi_apps.specs.Ends.{GoesOn, IsWithin, MayGoOn, own_end}
use Rattle.asgi_exchange.specs.Calls.{view_of}
use Rattle.asgi_exchange.specs.Items.{end_of}
use Rattle.asgi_exchange.specs.Keeps.{IsExchange}
use Rattle.asgi_exchange.specs.Views.{AppView, World, said_of}
use Rattle.asgi_run.specs.declared.exchange_half.Half as any_half
use Rattle.asgi_run.specs.declared.runner.AppSide.{AppSide}
use Rattle.asgi_run.specs.declared.runner.AppSide.TheVariants.{Runs, HasEnded}
use Rattle.asgi_ws.specs.Lines.{LineState}

-- ---- the application's side

-- this holds of the application's end
abbrev pub OfEnd : {T E : Type 0} → AppSide T E → (E → Type 0) → Type 0
OfEnd (Runs running) P = IsSomeAnd running.lent (λ lent. P lent.app_end)
OfEnd (HasEnded app_end kind) P = P app_end

-- the task may be polled, or has ended as recorded
abbrev pub MayRun : {T E : Type 0} → (T → Kind → List Incoming → List Outgoing → Type 0) → Ghosts E → AppSide T E → Type 0
MayRun stands ends (Runs running) = IsSomeAnd running.lent (λ lent. MayGoOn stands ends lent.task lent.app_end)
MayRun stands ends (HasEnded app_end kind) = ends.ended app_end ≡ Some kind

-- What the application got and sent in the end: a task kept its promise, and after a task that had ended there was nothing more.
abbrev pub Answers : {T E : Type 0} → (T → List Incoming → List Outgoing → Option EndKind → Type 0) → Ghosts E → AppSide T E → AppView → EndKind → Type 0
Answers answers ends (Runs running) app kind = IsSomeAnd running.lent (λ lent. answers lent.task app.heard (said_of app) (own_end kind))
Answers answers ends (HasEnded app_end ended) app kind = app ≡ view_of ends app_end

-- it is still the end of that request
abbrev pub IsOfRequest : {E : Type 0} → Ghosts E → E → E → Type 0
IsOfRequest ends was is = (ends.kind is ≡ ends.kind was) × (ends.facts is ≡ ends.facts was)

-- nothing more was received or sent
abbrev pub SameLists : {E : Type 0} → Ghosts E → E → E → Type 0
SameLists ends was is = (ends.pulled is ≡ ends.pulled was) × (ends.heard is ≡ ends.heard was) × (ends.said is ≡ ends.said was)

-- What a call opened over this end: a task that makes the promise, or none, if the call faulted and nothing was received or sent.
abbrev pub IsOpened : {T E : Type 0} → (promise : List Incoming → List Outgoing → Option EndKind → Type 0) → (T → List Incoming → List Outgoing → Option EndKind → Type 0)
    → Ghosts E → E → AppSide T E → Type 0
IsOpened promise answers ends was (Runs running) =
    IsSomeAnd running.lent (λ lent. (lent.app_end ≡ was)
    × ((heard : List Incoming) (said : List Outgoing) (ended : Option EndKind) → answers lent.task heard said ended → promise heard said ended))
IsOpened promise answers ends was (HasEnded app_end kind) =
    (kind ≡ Faulted) × promise [] [] (Some Faulted) × (ends.ended app_end ≡ Some Faulted) × SameLists ends was app_end × IsOfRequest ends was app_end
    × (ends.tag app_end ≡ ends.tag was)

-- ---- the exchange

-- Both halves ran: the invariant holds after it, the two halves make one exchange, and its task ended with this kind.
pub record HasRun {H T E : Type 0} (halves : any_half.Ghosts H) (answers : T → List Incoming → List Outgoing → Option EndKind → Type 0) (ends : Ghosts E)
    (scene : halves.Scene) (now : LineState) (half : H) (read : List ℕ) (side : AppSide T E) (kind : EndKind) : Type 0 where
  pub world : World halves.In halves.Out
  pub stands : halves.stands scene now half read world.conn
  pub exchange : IsExchange (halves.exchange scene) world
  pub ended : end_of world.app.put ≡ Some kind
  pub answers_for : Answers answers ends side world.app kind

-- a turn of both halves is that of the connection's half, or has moved, since the application's did
abbrev pub IsTurnWith : Turn → Turn → Type 0
IsTurnWith half turn = (turn ≡ half) ⊎ (turn ≡ Moved)

-- The runner itself drove the task within these limits, and its counts are the task's; or it did not, and they are as before.
abbrev pub Drives : (turn_limit idle_limit pauses_old pauses_new driven_old driven_new : ℕ) → EndKind → Type 0
Drives turn_limit idle_limit pauses_old pauses_new driven_old driven_new kind =
    ((pauses_new ≡ pauses_old) × (driven_new ≡ driven_old)) ⊎ IsDriven turn_limit idle_limit pauses_old pauses_new driven_new kind

-- the pauses that a pause counted, if there is one
abbrev pub paused_by : {Q : Type 0} → (Q → ℕ) → Option Q → ℕ
paused_by count None = 0
paused_by count (Some pause) = count pause

-- the runner drove the task, if that runs, and no task if it had ended
abbrev pub DrivesRunning : {T E : Type 0} → AppSide T E → (turn_limit idle_limit pauses_old pauses_new driven_old driven_new : ℕ) → EndKind → Type 0
DrivesRunning (Runs running) turn_limit idle_limit pauses_old pauses_new driven_old driven_new kind = IsDriven turn_limit idle_limit pauses_old pauses_new driven_new kind
DrivesRunning (HasEnded app_end ended) turn_limit idle_limit pauses_old pauses_new driven_old driven_new kind = (pauses_new ≡ pauses_old) × (driven_new ≡ driven_old)

-- ---- the steps of a runner: words of private functions

-- From the application's side as it was to a later one: a task that runs may be polled, one that ended kept its promise, and
-- one that had ended stays as it was.
abbrev pub GoesOnAs : {T E : Type 0} → (T → Kind → List Incoming → List Outgoing → Type 0) → (T → List Incoming → List Outgoing → Option EndKind → Type 0)
    → Ghosts E → AppSide T E → AppSide T E → Type 0
GoesOnAs stands answers ends (Runs old) (Runs new) =
    IsSomeAnd old.lent (λ was. IsSomeAnd new.lent (λ is.
    MayGoOn stands ends is.task is.app_end × IsWithin answers is.task was.task × IsOfRequest ends was.app_end is.app_end))
GoesOnAs stands answers ends (Runs old) (HasEnded app_end kind) =
    IsSomeAnd old.lent (λ was.
    (ends.ended app_end ≡ Some kind) × answers was.task (ends.heard app_end) (ends.said app_end) (own_end kind) × IsOfRequest ends was.app_end app_end)
GoesOnAs stands answers ends (HasEnded was before) (Runs new) = ⊥
GoesOnAs stands answers ends (HasEnded was before) (HasEnded app_end kind) =
    (ends.ended app_end ≡ Some kind) × (kind ≡ before) × SameLists ends was app_end × IsOfRequest ends was app_end

-- An exchange goes on: its ends are of one pair, and the application's side has come to `now` from the one that it began with.
abbrev pub HasCome : {C T E : Type 0} → (C → E → Type 0) → (T → Kind → List Incoming → List Outgoing → Type 0) → (T → List Incoming → List Outgoing → Option EndKind → Type 0)
    → Ghosts E → C → (side now : AppSide T E) → Type 0
HasCome is_pair stands answers ends conn side now = OfEnd now (λ app. is_pair conn app) × GoesOnAs stands answers ends side now × MayRun stands ends side

-- a task that still runs was polled in between
abbrev pub IsPolled : {T E : Type 0} → AppSide T E → AppSide T E → Type 0
IsPolled (Runs old) (Runs new) = RoseBy 1 old.turns new.turns
IsPolled (Runs old) (HasEnded app_end kind) = ⊤
IsPolled (HasEnded was before) (Runs new) = ⊥
IsPolled (HasEnded was before) (HasEnded app_end kind) = ⊤

-- no poll was made in between, and the task did not end
abbrev pub IsNotPolled : {T E : Type 0} → AppSide T E → AppSide T E → Type 0
IsNotPolled (Runs old) (Runs new) = new.turns ≡ old.turns
IsNotPolled (Runs old) (HasEnded app_end kind) = ⊥
IsNotPolled (HasEnded was before) (Runs new) = ⊥
IsNotPolled (HasEnded was before) (HasEnded app_end kind) = ⊤

-- In between the task ended, or its end went on to where it says that an item went through a queue.
abbrev pub HasMoved : {T E : Type 0} → Ghosts E → AppSide T E → AppSide T E → Type 0
HasMoved ends (Runs old) (Runs new) = IsSomeAnd old.lent (λ was. (polled : _) × GoesOn ends None was.app_end polled × (ends.has_moved polled ≡ true))
HasMoved ends (Runs old) (HasEnded app_end kind) = ⊤
HasMoved ends (HasEnded was before) new = ⊥

-- In between one poll was made of a task that runs on, and its end says that no item went through a queue.
abbrev pub HasRested : {T E : Type 0} → Ghosts E → AppSide T E → AppSide T E → Type 0
HasRested ends (Runs old) (Runs new) = IsSomeAnd old.lent (λ was. (polled : _) × GoesOn ends None was.app_end polled × (ends.has_moved polled ≡ false))
HasRested ends (Runs old) (HasEnded app_end kind) = ⊥
HasRested ends (HasEnded was before) new = ⊤

-- in between the task was polled so, and before and after that only what was put was carried
abbrev pub IsPolledSo : {T E : Type 0} → (AppSide T E → AppSide T E → Type 0) → AppSide T E → AppSide T E → Type 0
IsPolledSo {T} {E} Polls old new = (before after : AppSide T E) × IsNotPolled old before × Polls before after × IsNotPolled after new

-- the task ended in between
abbrev pub EndsIn : {T E : Type 0} → AppSide T E → AppSide T E → Type 0
EndsIn (Runs old) (Runs new) = ⊥
EndsIn (Runs old) (HasEnded app_end kind) = ⊤
EndsIn (HasEnded was before) new = ⊥

-- the task has ended as `kind`, with its end as it is now
abbrev pub EndsSo : {T E : Type 0} → (T → Kind → List Incoming → List Outgoing → Type 0) → (T → List Incoming → List Outgoing → Option EndKind → Type 0)
    → Ghosts E → AppSide T E → E → EndKind → Type 0
EndsSo stands answers ends side app_end kind = GoesOnAs stands answers ends side (HasEnded app_end kind) × OfEnd side (λ was. ends.tag app_end ≡ ends.tag was)

-- all that was put at each end is at the other one: what that has taken, and what waits there
abbrev pub HasPassed : {C E : Type 0} → conn_end.Ghosts C → Ghosts E → C → E → Type 0
HasPassed conns ends conn app = (conns.offered conn ≡ ends.pulled app ++ ends.seen app) × (items_of (ends.said app) (ends.ended app) ≡ conns.got conn ++ conns.seen conn)

-- it is still the end of that pair
abbrev pub TagStays : {T E : Type 0} → Ghosts E → AppSide T E → AppSide T E → Type 0
TagStays ends old new = OfEnd old (λ was. OfEnd new (λ is. ends.tag is ≡ ends.tag was))
