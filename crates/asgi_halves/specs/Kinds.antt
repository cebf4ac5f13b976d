-- What the half of a connection does in an exchange of any kind, stage by stage.
use Rattle.std.specs.Prelude.{◌≡◌, ◌⊎◌, ◌<◌, ◌+◌, ℕ, ⊤, Bool, true, false, List, [], ◌∷◌, ◌++◌, length, Option, Some, None}
use Rattle.std.specs.List.{count_by}
use Rattle.asgi_io.specs.declared.answer.Answer.{Answer}
use Rattle.asgi_io.specs.Answers.{turn_of}
use Rattle.asgi_io.specs.declared.turns.Turn.{Turn}
use Rattle.asgi_io.specs.declared.turns.Turn.TheVariants.{Moved, Idle, Last}
use Rattle.asgi_types.specs.declared.incoming.Incoming.{Incoming}
use Rattle.asgi_pipes.specs.declared.ends.ConnEnd as conn_end
use Rattle.asgi_pipes.specs.declared.items.OutItem.{OutItem}
use Rattle.asgi_exchange.specs.Views.{ConnView, ByCut}
use Rattle.asgi_conversation.specs.declared.following.NextStep.{NextStep}
use Rattle.asgi_ws.specs.declared.messages.Call.TheVariants.{Read}
use Rattle.asgi_ws.specs.declared.messages.Got.{Got}
use Rattle.asgi_ws.specs.declared.messages.Got.TheVariants as got
use Rattle.asgi_ws.specs.Lines.{LineState}
use Rattle.asgi_ws.specs.Sessions.{is_read}
use Rattle.asgi_halves.specs.declared.stage.Stage.{Stage}
use Rattle.asgi_halves.specs.declared.stage.Stage.TheVariants.{Running, Ending, Cut, Over}

-- what comes after the exchange, once it is over
abbrev pub following_of : Stage → Option NextStep
following_of (Over following) = Some following
following_of _ = None

-- the exchange goes on, and the connection is not cut short
abbrev pub IsOpen : Stage → Type 0
IsOpen Running = ⊤
IsOpen (Ending kind) = ⊤
IsOpen (Cut outcome) = ⊥
IsOpen (Over following) = ⊥

-- the connection is cut short, or the exchange is over
abbrev pub IsShut : Stage → Type 0
IsShut Running = ⊥
IsShut (Ending kind) = ⊥
IsShut (Cut outcome) = ⊤
IsShut (Over following) = ⊤

-- the end of the task was taken
abbrev pub HasEnded : Stage → Type 0
HasEnded Running = ⊥
HasEnded (Ending kind) = ⊤
HasEnded (Cut outcome) = ⊥
HasEnded (Over following) = ⊤

-- the end of the task was not taken yet
abbrev pub AwaitsEnd : Stage → Type 0
AwaitsEnd Running = ⊤
AwaitsEnd (Ending kind) = ⊥
AwaitsEnd (Cut outcome) = ⊤
AwaitsEnd (Over following) = ⊥

-- the connection is cut short, and the task has not ended
abbrev pub IsCut : Stage → Type 0
IsCut Running = ⊥
IsCut (Ending kind) = ⊥
IsCut (Cut outcome) = ⊤
IsCut (Over following) = ⊥

-- the disconnect of a cut was offered, if none was before
abbrev pub IsCutOff : {A W : Type 0} → Incoming → ConnView A W → ConnView A W → Type 0
IsCutOff event view later = (later ≡ view) ⊎ ((view.broken ≡ None) × (later ≡ record view { offered = view.offered ++ event ∷ []; broken = Some ByCut }))

-- whether one item more is there, by the list before and after
abbrev pub IsOneMore : {A : Type 0} → Bool → List A → List A → Type 0
IsOneMore {A = A} true old new = (item : A) × (new ≡ old ++ item ∷ [])
IsOneMore false old new = new ≡ old

-- whether items were added to the list
abbrev pub HasGrown : {A : Type 0} → Bool → List A → List A → Type 0
HasGrown true old new = length old < length new
HasGrown false old new = new ≡ old

-- a turn that took an item has moved, and one that took none was idle
abbrev pub TookOne : Turn → List OutItem → List OutItem → Type 0
TookOne Moved old new = (item : OutItem) × (new ≡ old ++ item ∷ [])
TookOne Idle old new = new ≡ old
TookOne Last old new = ⊥

-- ---- what a turn of an exchange that runs did (own: each turn does all that can be done)

-- no read was made, of bytes or of a message
abbrev pub ReadsNone : LineState → LineState → Type 0
ReadsNone was now = (now.reads ≡ was.reads) × (count_by is_read now.session.calls ≡ count_by is_read was.session.calls)

-- the turn of a read of a message: it is idle exactly if nothing has arrived yet
abbrev pub turn_by : Got → Turn
turn_by (got.Message message) = Moved
turn_by got.Idle = Idle
turn_by got.Ended = Moved
turn_by got.Failed = Moved
turn_by got.NoMemory = Moved

-- The turn of the one read that may be made, of bytes or of a message. None is made only if the half rests, and then it is idle.
pub data IsTurnOfRead (Rests : Type 0) (was now : LineState) (turn : Turn) : Type 0 where
  NoRead : Rests → now ≡ was → turn ≡ Idle → IsTurnOfRead Rests was now turn
  OfBytes : (answer : Answer) → now.reads ≡ was.reads ++ answer ∷ [] → now.session ≡ was.session → turn ≡ turn_of answer → IsTurnOfRead Rests was now turn
  OfMessage : (answer : Got) → now.session.calls ≡ was.session.calls ++ Read answer ∷ [] → now.reads ≡ was.reads → turn ≡ turn_by answer → IsTurnOfRead Rests was now turn

-- the application goes on, or an item was taken or an event offered
abbrev pub HasWorked : {C : Type 0} → conn_end.Ghosts C → Bool → C → C → Type 0
HasWorked E app_goes_on old new = (app_goes_on ≡ true) ⊎ (length (E.got old) < length (E.got new)) ⊎ (length (E.offered old) < length (E.offered new))

-- the application does not go on, no item was taken, and no event was offered
abbrev pub HasRested : {C : Type 0} → conn_end.Ghosts C → Bool → C → C → Type 0
HasRested E app_goes_on old new = (app_goes_on ≡ false) × (E.got new ≡ E.got old) × (E.offered new ≡ E.offered old)

-- The turn of an exchange that runs and runs on: it has moved if something was taken or offered or the application goes on, and else
-- it is that of one read.
abbrev pub IsTurnOfRun : {C : Type 0} → conn_end.Ghosts C → Bool → C → C → Type 0 → LineState → LineState → Turn → Type 0
IsTurnOfRun E app_goes_on old new Rests was now turn =
    (HasWorked E app_goes_on old new × (turn ≡ Moved)) ⊎ (HasRested E app_goes_on old new × IsTurnOfRead Rests was now turn)

-- the turn of one read that was made
abbrev pub IsTurnOfOneRead : LineState → LineState → Turn → Type 0
IsTurnOfOneRead was now turn = IsTurnOfRead ⊥ was now turn

-- The turn in which the rest of the body is read and dropped: that of one read, or it has moved, and the line has not.
abbrev pub IsTurnOfRest : LineState → LineState → Turn → Type 0
IsTurnOfRest was now turn = IsTurnOfOneRead was now turn ⊎ ((now ≡ was) × (turn ≡ Moved))

-- all that is due was offered, or the end takes no more: no place is free, or the disconnect was offered
abbrev pub OffersAll : {C : Type 0} → conn_end.Ghosts C → Type 0 → C → Type 0
OffersAll E NoneDue new = NoneDue ⊎ (E.room new ≡ 0) ⊎ (E.is_broken new ≡ true)

-- as many events as the exchange has places were offered
abbrev pub OffersMost : {C : Type 0} → conn_end.Ghosts C → ℕ → C → C → Type 0
OffersMost E ring old new = length (E.offered new) ≡ length (E.offered old) + ring

-- what was taken, and what is there to take, stays
abbrev pub TakesNone : {C : Type 0} → conn_end.Ghosts C → C → C → Type 0
TakesNone E old new = (E.got new ≡ E.got old) × (E.seen new ≡ E.seen old)

module _ {S H A W : Type 0} (stands : S → LineState → H → List ℕ → ConnView A W → Type 0) where
  -- The line moves on, and the half's end of the pair is not called.
  abbrev pub PreservesAlone : LineState → H → LineState → H → Type 0
  PreservesAlone was old now new =
      (scene : S) (read : List ℕ) (view : ConnView A W) → stands scene was old read view
      → (more : List ℕ) × (arrived : List A) × (written : List W) × stands scene now new (read ++ more) (record view { arrived = arrived; written = written })
