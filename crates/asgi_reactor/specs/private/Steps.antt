-- What each step of a ticketer tells: of its view before and after, and of the word that it found.
use Rattle.std.specs.Prelude.{◌≡◌, ◌≢◌, ℕ, ◌+◌, ◌≤◌, true, false}
use Rattle.atomic_table.specs.Table.{Me, Step}
use Rattle.asgi_reactor.specs.declared.quota.Tally.{Tally}
use Rattle.asgi_reactor.specs.Tickets.{tally}

abbrev Tells : Type 1
Tells = Step (Unit {0}) → Me (Unit {0}) Tally → ℕ → Me (Unit {0}) Tally → Type 0

abbrev pub enters : Tells
enters step was found is = is.0 ≡ tally 0 0 false

-- a ticket was taken, if the word was the one that was expected
abbrev pub takes : Tells
takes step was found is =
    (is.1 ≡ was.1) × (found ≡ step.first → is.0 ≡ tally (was.0.held + 1) was.0.spent was.0.over) × (found ≢ step.first → is.0 ≡ was.0)

abbrev pub gives_back : Tells
gives_back step was found is = (is.1 ≡ was.1) × (was.0.held ≡ is.0.held + 1) × (is.0.spent ≡ was.0.spent) × (is.0.over ≡ was.0.over)

abbrev pub spends : Tells
spends step was found is = (is.1 ≡ was.1) × (was.0.held ≡ is.0.held + 1) × (is.0.spent ≡ was.0.spent + 1) × (is.0.over ≡ was.0.over)

-- that all were spent is known from then on
abbrev pub looks : Tells
looks step was found is =
    (is.1 ≡ was.1) × (is.0.held ≡ was.0.held) × (is.0.spent ≡ was.0.spent) × (found ≡ 0 → is.0.over ≡ true) × (found ≢ 0 → is.0.over ≡ was.0.over)

-- no more were spent than the number that was expected
abbrev pub settles : Tells
settles step was found is = (is ≡ was) × (was.0.spent ≤ step.first)
