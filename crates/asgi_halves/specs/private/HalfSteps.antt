-- The clauses of the steps of the connection's half: words of private functions. No promise is stated by them.
use Rattle.std.specs.Prelude.{◌≡◌, ◌⊎◌, ◌<◌, ◌≤◌, ⊤, ℕ, Bool, true, false, List, [], ◌∷◌, ◌++◌, length, None}
use Rattle.asgi_types.specs.declared.end_kind.EndKind.{EndKind}
use Rattle.asgi_types.specs.declared.end_kind.EndKind.TheVariants as kind
use Rattle.asgi_types.specs.declared.facts.Framing.{Framing}
use Rattle.asgi_types.specs.declared.incoming.Incoming.{Incoming}
use Rattle.asgi_request.specs.declared.next.Next.{Next}
use Rattle.asgi_request.specs.declared.next.Next.TheVariants as next
use Rattle.asgi_request.specs.Opened.{HasOpened}
use Rattle.asgi_request.specs.Reading.{Reading, StandsFor, AllGiven, EndsWhole, WholeGiven, IsWaiting}
use Rattle.asgi_response.specs.declared.progress.Progress.{Progress}
use Rattle.asgi_response.specs.declared.progress.Progress.TheVariants as progress
use Rattle.asgi_response.specs.declared.refusal.Input.{Input}
use Rattle.asgi_response.specs.declared.refusal.Input.TheVariants as input
use Rattle.asgi_response.specs.Response.{response_text}
use Rattle.asgi_response.specs.Standing as standing
use Rattle.asgi_pipes.specs.declared.ends.ConnEnd as conn_end
use Rattle.asgi_exchange.specs.Halves.{IsOffered}
use Rattle.asgi_exchange.specs.Http.{http}
use Rattle.asgi_exchange.specs.Items.{end_of}
use Rattle.asgi_exchange.specs.Steps.{is_by_input, is_by_cut}
use Rattle.asgi_exchange.specs.Views.{ConnView, taken_of}
use Rattle.asgi_halves.specs.declared.half.BodyProgress.{BodyProgress}
use Rattle.asgi_halves.specs.declared.half.BodyProgress.TheVariants.{Open, Waits, Whole, Refused, BrokenOff}
use Rattle.asgi_halves.specs.declared.half.HttpHalf.{HttpHalf}
use Rattle.asgi_halves.specs.Kinds.{IsOneMore, TakesNone}
use Rattle.asgi_halves.specs.declared.stage.Stage.TheVariants.{Running}
use Rattle.asgi_run.specs.AnyHalf.{PreservesInLine}
use Rattle.asgi_halves.specs.Half.{Scene, Invariant, WithinScene, HasGiven, EndsWhere, BreaksAt, alone, known}
use Rattle.asgi_ws.specs.Lines.{LineState}
use Rattle.asgi_run.specs.Lines.{Transferred}
use Rattle.asgi_halves.specs.ReadAhead.{ahead_limit}
use Rattle.asgi_conversation.specs.Persistence.{InHand}
use Rattle.asgi_conversation.specs.SoFar.{HasBrokenIn}
use Rattle.asgi_conversation.specs.TaskEnds.{has_ended}
use Rattle.asgi_conversation.specs.declared.input.InputEnd.{InputEnd}

-- Before the end of the task: a text is in hand, which goes on from what is written.
pub record Pending (scene : Scene) (now : LineState) (half : HttpHalf) (read : List ℕ) (view : ConnView ℕ ℕ) : Type 0 where
  pub moved : Transferred scene.start now half.wire.input read (scene.before ++ view.written) 0
  pub limits : half.wire.requests.limits ≡ half.wire.limits
  pub within : WithinScene scene half.wire.limits half.wire.input read view.arrived
  pub offers : IsOffered (http half.wire.limits scene.facts) view.arrived view.offered view.broken
  pub breaks : HasBrokenIn half.wire.limits half.wire.input scene.facts (alone view)
  pub running : half.stage ≡ Running
  pub uncut : is_by_cut view.broken ≡ false
  pub input_broke : half.input_broke ≡ is_by_input view.broken
  pub settled : half.input_broke ≡ true → BreaksAt half.body half.wire.input
  pub events : List Incoming
  pub given : HasGiven half.wire.requests read scene.opened events half.body
  pub ends_where : EndsWhere half.body half.wire.input
  pub unended : end_of view.got ≡ None
  pub offered : half.input_broke ≡ false → view.offered ≡ events
  pub text : standing.StandsFor half.text scene.facts (taken_of view)
  pub grows : response_text scene.facts (taken_of view) ≡ view.written ++ half.wire.out.items
  pub hand : (input : Input) → InHand (known scene view) input view.written half.wire.out.items

-- the line moves on, and its end of the pair is not called
abbrev pub PreservesByLine : LineState → HttpHalf → LineState → HttpHalf → Type 0
PreservesByLine was old now new =
    (scene : Scene) (read : List ℕ) (view : ConnView ℕ ℕ) → Invariant scene was old read view
    → (more arrived written : List ℕ) × Invariant scene now new (read ++ more) (record view { arrived = arrived; written = written })

-- its end of the pair is called, and the line does not move
abbrev pub PreservesByEnd : HttpHalf → (ConnView ℕ ℕ → Type 0) → HttpHalf → (ConnView ℕ ℕ → Type 0) → Type 0
PreservesByEnd = PreservesInLine Invariant

-- nothing changed but the body and what the reader gave
abbrev pub KeepsBesidesBody : HttpHalf → HttpHalf → Type 0
KeepsBesidesBody old new = new ≡ record old { body = new.body; wire = record old.wire { requests = new.wire.requests } }

-- what was given before is still given, and perhaps more
abbrev pub GivesOn : HttpHalf → HttpHalf → Type 0
GivesOn old new =
    (read : List ℕ) (opened : List Next) (framing : Framing) (arrived : List ℕ) (events : List Incoming)
    → HasOpened old.wire.requests.limits read opened framing arrived → HasGiven old.wire.requests read opened events old.body → EndsWhere old.body old.wire.input
    → (more : List Incoming) × HasGiven new.wire.requests read opened more new.body × EndsWhere new.body old.wire.input

-- the same events were given
abbrev pub GivesAfter : HttpHalf → HttpHalf → Type 0
GivesAfter old new =
    (read : List ℕ) (opened : List Next) (framing : Framing) (arrived : List ℕ) (events : List Incoming)
    → HasOpened old.wire.requests.limits read opened framing arrived → HasGiven old.wire.requests read opened events old.body → EndsWhere old.body old.wire.input
    → HasGiven new.wire.requests read opened events new.body × EndsWhere new.body old.wire.input

-- the reader gave this after those before, or needs more
abbrev pub GaveNext : Reading → List ℕ → List Next → Next → Type 0
GaveNext reader read given next.Need = StandsFor reader read given × AllGiven reader read given
GaveNext reader read given item = StandsFor reader read (given ++ item ∷ [])

-- the disconnect waits for the end of the input
abbrev pub EndsAtInput : BodyProgress → Type 0
EndsAtInput Whole = ⊤
EndsAtInput BrokenOff = ⊤
EndsAtInput _ = ⊥

-- more is read: of the body, or after it
abbrev pub ReadsAt : BodyProgress → Type 0
ReadsAt Open = ⊤
ReadsAt Whole = ⊤
ReadsAt _ = ⊥

-- the reader was asked for more of the body, and none is there
abbrev pub HasAsked : HttpHalf → Type 0
HasAsked half = half.input_broke ≡ false → half.body ≡ Open → IsWaiting half.wire.requests

-- no more of this body is to be offered by what is held: no event waits, the reader has no more of it, and no disconnect is due
abbrev pub IsNoneDue : BodyProgress → InputEnd → Reading → Type 0
IsNoneDue Open end reader = IsWaiting reader
IsNoneDue (Waits event) end reader = ⊥
IsNoneDue Whole end reader = has_ended end ≡ false
IsNoneDue (Refused status) end reader = ⊥
IsNoneDue BrokenOff end reader = has_ended end ≡ false

-- all that is due of what is held was offered; after the disconnect nothing is due
abbrev pub NoneDue : HttpHalf → Type 0
NoneDue half = half.input_broke ≡ false → IsNoneDue half.body half.wire.input half.wire.requests

-- one event was offered or none, as is said, and what is there to take stays
abbrev pub OffersOne : {C : Type 0} → conn_end.Ghosts C → Bool → C → C → Type 0
OffersOne E said old new = IsOneMore said (E.offered old) (E.offered new) × TakesNone E old new

-- few bytes are held after whole requests
abbrev pub HoldsFew : Reading → Type 0
HoldsFew reader =
    (read : List ℕ) (given : List Next) → StandsFor reader read given → EndsWhole given → (rest : List ℕ) × WholeGiven reader read given rest × (length rest < ahead_limit)

-- as many bytes as may be are held after whole requests
abbrev pub HoldsEnough : Reading → Type 0
HoldsEnough reader =
    (read : List ℕ) (given : List Next) → StandsFor reader read given → EndsWhole given → (rest : List ℕ) × WholeGiven reader read given rest × (ahead_limit ≤ length rest)

-- no more is read at this body: an event waits, it was refused or broken off, or enough is held after it
abbrev pub RestsAt : BodyProgress → Reading → Type 0
RestsAt Open reader = ⊥
RestsAt (Waits event) reader = ⊤
RestsAt Whole reader = HoldsEnough reader
RestsAt (Refused status) reader = ⊤
RestsAt BrokenOff reader = ⊤

-- no more is read: the input has ended, or by the body
abbrev pub Rests : HttpHalf → Type 0
Rests half = (has_ended half.wire.input ≡ true) ⊎ RestsAt half.body half.wire.requests

-- the rest of the body decides what comes after the end of the task
abbrev pub NeedsBody : EndKind → Progress → Bool → Type 0
NeedsBody kind.Idle progress input_broke = ⊥
NeedsBody _ progress.Nothing input_broke = ⊤
NeedsBody _ progress.Begun input_broke = input_broke ≡ true
NeedsBody _ (progress.Complete closes) input_broke = closes ≡ false

-- the body of the request, as the end of the task finds it
abbrev pub known_input : BodyProgress → Input
known_input Whole = input.Whole
known_input (Refused status) = input.Faulty status
known_input _ = input.Broken

-- no event waits
abbrev pub IsFree : BodyProgress → Type 0
IsFree (Waits event) = ⊥
IsFree _ = ⊤
