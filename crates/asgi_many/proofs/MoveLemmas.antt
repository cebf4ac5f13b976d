-- What is kept of seats by one step more.
use Rattle.std.proofs.Common.{◌≡◌, ◌≢◌, ◌⊎◌, ℕ, ◌+◌, ◌-◌, ◌^◌, ◌≤◌, List, [], ◌∷◌, ◌++◌, refl, sym, ap, ◌∙◌, inl, inr, arith, append_assoc, append-nil}
use Rattle.asgi_many.specs.declared.intake.Intake.{Intake}
use Rattle.asgi_many.specs.declared.intake.Intake.TheVariants.{Asks, Closed}
use Rattle.asgi_many.specs.declared.reactor.Move.{Move}
use Rattle.asgi_many.specs.declared.reactor.Move.TheVariants.{Waited, Freed}
use Rattle.asgi_many.specs.declared.reactor.Ready.{Ready}
use Rattle.asgi_many.specs.declared.serving.Served.{Served}
use Rattle.asgi_many.specs.declared.serving.Served.TheVariants.{All, TooLong}
use Rattle.asgi_many.specs.Moves.{Frees, KeepsSeats, KeptSeats, MayAll, Steps, intake_after, intake_by, steps_in, taken_after, taken_by, told_by}

taken_on : (taken : ℕ) (moves more : List Move) → taken_after taken (moves ++ more) ≡ taken_after (taken_after taken moves) more
taken_on taken [] more = refl
taken_on taken (move ∷ moves) more = taken_on (taken_by taken move) moves more

intake_on : (intake : Intake) (moves more : List Move) → intake_after intake (moves ++ more) ≡ intake_after (intake_after intake moves) more
intake_on intake [] more = refl
intake_on intake (move ∷ moves) more = intake_on (intake_by intake move) moves more

steps_on : (moves more : List Move) → steps_in (moves ++ more) ≡ steps_in moves + steps_in more
steps_on [] more = omega (arith)
steps_on (move ∷ moves) more = let rest = steps_on moves more in omega (arith, rest)

may_on : (seats taken : ℕ) (intake : Intake) (moves more : List Move) → MayAll seats taken intake moves
    → MayAll seats (taken_after taken moves) (intake_after intake moves) more → MayAll seats taken intake (moves ++ more)
may_on seats taken intake [] more may then = then
may_on seats taken intake (move ∷ moves) more may then = (may.0, may_on seats (taken_by taken move) (intake_by intake move) moves more may.1 then)

pub begins : (seats : ℕ) (old : List Move) (taken : ℕ) → taken ≡ 0 → KeptSeats seats old old taken Asks 0
begins seats old taken none = record {
  moves = [];
  moved = sym (append-nil old);
  may = tt;
  taken_now = sym none;
  intake_now = refl;
  steps_now = refl;
}

pub steps : (seats : ℕ) (old now new : List Move) (was is : ℕ) (before intake : Intake) (count : ℕ) → Steps seats now new was is before intake
    → KeptSeats seats old now was before count → KeptSeats seats old new is intake (count + 1)
steps seats old now new was is before intake count (more, moved, may, taken, then, one) kept = record {
  moves = kept.moves ++ more;
  moved = moved ∙ ap (λ l. l ++ more) kept.moved ∙ append_assoc old kept.moves more;
  may = may_on seats 0 Asks kept.moves more kept.may (rw (kept.taken_now, kept.intake_now) may);
  taken_now = taken_on 0 kept.moves more ∙ ap (λ n. taken_after n more) kept.taken_now ∙ taken;
  intake_now = intake_on Asks kept.moves more ∙ ap (λ i. intake_after i more) kept.intake_now ∙ then;
  steps_now = let split = steps_on kept.moves more in let before = kept.steps_now in omega (arith, split, before, one);
}

-- it waits, and perhaps a seat is freed
pub waits : (seats : ℕ) (old mid new : List Move) (was is : ℕ) (before : Intake) (ready : Ready) → mid ≡ old ++ Waited ready ∷ []
    → (before ≢ Asks) ⊎ (seats ≤ was) → Frees mid new was is → Steps seats old new was is before (told_by ready before)
waits seats old mid new was is before ready waited may (inl none) =
    (Waited ready ∷ [], none.0 ∙ waited, (may, tt), sym none.1, refl, refl)
waits seats old mid new was is before ready waited may (inr one) = (
  Waited ready ∷ Freed ∷ [],
  one.0 ∙ ap (λ l. l ++ Freed ∷ []) waited ∙ append_assoc old (Waited ready ∷ []) (Freed ∷ []),
  (may, (omega (arith, one.1), tt)),
  omega (arith, one.1),
  refl,
  refl,
)

-- a newcomer may come to it, so it does not wait for want of numbers
pub may_wait : {A B C : Type 0} → A ⊎ B ⊎ C → (C → ⊥) → A ⊎ B
may_wait (inl a) none = inl a
may_wait (inr (inl b)) none = inr b
may_wait (inr (inr c)) none = absurd (none c)

pub keeps : (seats : ℕ) (old now : List Move) (taken : ℕ) (intake : Intake) (count : ℕ) (how : Served) → KeptSeats seats old now taken intake count
    → (how ≡ All → (taken ≡ 0) × (intake ≡ Closed)) → (how ≡ TooLong → count ≡ 2 ^ 64 - 1) → KeepsSeats seats old now how
keeps seats old now taken intake count how kept none many = record {
  moves = kept.moves;
  moved = kept.moved;
  may = kept.may;
  all = λ is_all. (kept.taken_now ∙ (none is_all).0, kept.intake_now ∙ (none is_all).1);
  too_long = λ is_long. kept.steps_now ∙ many is_long;
}
