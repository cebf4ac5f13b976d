-- What a hand of the desk knows: its part, the first teller, what it handed in, and the book while it holds it.
use Rattle.std.specs.Prelude.{◌≡◌, ℕ, List, [], Option}
use Rattle.asgi_desk.specs.declared.channel.Hand.{Hand}

module _ {N T : Type 0} where
  abbrev pub hand : ℕ → Option T → List (ℕ × N) → ℕ → List (ℕ × N) → Hand N T
  hand parts first put books held = record { parts = parts; first = first; put = put; books = books; held = held }

  -- what a seat knows while it has no book in hand
  abbrev pub seated : ℕ → Option T → List (ℕ × N) → Hand N T
  seated parts first put = hand parts first put 0 []

  abbrev pub IsFree : Hand N T → Type 0
  IsFree v = (v.books ≡ 0) × (v.held ≡ [])
