-- What a server of many connections does, as its reactor sees it: when it asks for a connection, when it waits, and which seats are taken.
use Rattle.std.specs.Prelude.{⊤, ◌≡◌, ◌≢◌, ◌⊎◌, ◌+◌, ◌-◌, ◌^◌, ◌<◌, ◌≤◌, ℕ, List, [], ◌∷◌, ◌++◌}
use Rattle.asgi_many.specs.declared.intake.Intake.{Intake}
use Rattle.asgi_many.specs.declared.intake.Intake.TheVariants.{Asks, Waits, Closed}
use Rattle.asgi_many.specs.declared.reactor.Move.{Move}
use Rattle.asgi_many.specs.declared.reactor.Move.TheVariants.{Taken, NoneYet, NoneLeft, Waited, Freed}
use Rattle.asgi_many.specs.declared.reactor.Next.{Next}
use Rattle.asgi_many.specs.declared.reactor.Next.TheVariants.{Arrived, NoneNow, NoneEver}
use Rattle.asgi_many.specs.declared.reactor.Ready.{Ready}
use Rattle.asgi_many.specs.declared.reactor.Ready.TheVariants.{Seat, Tick, Arrivals}
use Rattle.asgi_many.specs.declared.serving.Served.{Served}
use Rattle.asgi_many.specs.declared.serving.Served.TheVariants.{All, TooLong}

-- It asked for a connection, and got this answer: a newcomer takes a seat, none is there yet, or none will come any more.
abbrev pub asked_by : {L : Type 0} → Next L → Move
asked_by (Arrived newcomer) = Taken
asked_by NoneNow = NoneYet
asked_by NoneEver = NoneLeft

-- ---- how it stands after a move

-- how many seats are taken
abbrev pub taken_by : ℕ → Move → ℕ
taken_by taken Taken = taken + 1
taken_by taken NoneYet = taken
taken_by taken NoneLeft = taken
taken_by taken (Waited ready) = taken
taken_by taken Freed = taken - 1

-- whether it asks for a connection, once it was told that one may have arrived
abbrev pub asks_again : Intake → Intake
asks_again Asks = Asks
asks_again Waits = Asks
asks_again Closed = Closed

abbrev pub told_by : Ready → Intake → Intake
told_by Arrivals intake = asks_again intake
told_by (Seat at) intake = intake
told_by (Tick at) intake = intake

-- whether it asks for a connection
abbrev pub intake_by : Intake → Move → Intake
intake_by intake Taken = intake
intake_by intake NoneYet = Waits
intake_by intake NoneLeft = Closed
intake_by intake (Waited ready) = told_by ready intake
intake_by intake Freed = intake

-- how many steps that is: the line of a connection that has ended is given back in the step in which it ended
abbrev pub steps_by : Move → ℕ
steps_by Taken = 1
steps_by NoneYet = 1
steps_by NoneLeft = 1
steps_by (Waited ready) = 1
steps_by Freed = 0

-- ---- and after many

abbrev pub taken_after : ℕ → List Move → ℕ
taken_after taken [] = taken
taken_after taken (move ∷ more) = taken_after (taken_by taken move) more

abbrev pub intake_after : Intake → List Move → Intake
intake_after intake [] = intake
intake_after intake (move ∷ more) = intake_after (intake_by intake move) more

abbrev pub steps_in : List Move → ℕ
steps_in [] = 0
steps_in (move ∷ more) = steps_by move + steps_in more

-- ---- which moves are right

-- It asks for a connection if one may be there and a seat is free, and else it waits. No seat is freed while none is taken.
abbrev pub May : (seats taken : ℕ) → Intake → Move → Type 0
May seats taken intake Taken = (intake ≡ Asks) × (taken < seats)
May seats taken intake NoneYet = (intake ≡ Asks) × (taken < seats)
May seats taken intake NoneLeft = (intake ≡ Asks) × (taken < seats)
May seats taken intake (Waited ready) = (intake ≢ Asks) ⊎ (seats ≤ taken)
May seats taken intake Freed = 0 < taken

abbrev pub MayAll : (seats taken : ℕ) → Intake → List Move → Type 0
MayAll seats taken intake [] = ⊤
MayAll seats taken intake (move ∷ more) = May seats taken intake move × MayAll seats (taken_by taken move) (intake_by intake move) more

-- What a server with this many seats did, which began with none taken and with asking for a connection.
pub record KeepsSeats (seats : ℕ) (old new : List Move) (how : Served) : Type 0 where
  pub moves : List Move
  pub moved : new ≡ old ++ moves
  -- each move is right, so never are more seats taken than there are
  pub may : MayAll seats 0 Asks moves
  -- it says that all have ended only once no seat is taken, and none will come any more
  pub all : how ≡ All → (taken_after 0 moves ≡ 0) × (intake_after Asks moves ≡ Closed)
  -- and that it took too long only after so many steps
  pub too_long : how ≡ TooLong → steps_in moves ≡ 2 ^ 64 - 1

-- ---- words of private functions

-- One step: from so many that were taken to so many that are, and from whether it asked for one to whether it does.
abbrev pub Steps : (seats : ℕ) (old new : List Move) (was is : ℕ) (before intake : Intake) → Type 0
Steps seats old new was is before intake =
    (moves : List Move) × (new ≡ old ++ moves) × MayAll seats was before moves × (taken_after was moves ≡ is) × (intake_after before moves ≡ intake)
    × (steps_in moves ≡ 1)

-- One seat is freed, or none.
abbrev pub Frees : (old new : List Move) (was is : ℕ) → Type 0
Frees old new was is = ((new ≡ old) × (is ≡ was)) ⊎ ((new ≡ old ++ Freed ∷ []) × (was ≡ is + 1))

-- From the beginning of the server until now.
pub record KeptSeats (seats : ℕ) (old now : List Move) (taken : ℕ) (intake : Intake) (steps : ℕ) : Type 0 where
  pub moves : List Move
  pub moved : now ≡ old ++ moves
  pub may : MayAll seats 0 Asks moves
  pub taken_now : taken_after 0 moves ≡ taken
  pub intake_now : intake_after Asks moves ≡ intake
  pub steps_now : steps_in moves ≡ steps
