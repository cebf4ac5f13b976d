-- What a book has, and what holds of it.
use Rattle.std.specs.Prelude.{◌≡◌, ℕ, ◌+◌, ◌≤◌, ◌==◌, Bool, false, List, [], ◌∷◌, ◌++◌, Option, Some}
use Rattle.asgi_desk.specs.declared.waiting.Waiting.{Waiting}
use Rattle.asgi_desk.specs.declared.waiting.Waiting.TheVariants.{Empty, Top'}
use Rattle.asgi_desk.specs.declared.book.Last.{Last}
use Rattle.asgi_desk.specs.declared.book.Last.TheVariants.{Unused, Put}
use Rattle.asgi_desk.specs.declared.book.Book.{Book}
use Rattle.asgi_desk.specs.Told.{Told, numbers_of, one_to}

module _ {N : Type 0} where
  -- the reports that wait
  abbrev pub waiting_of : Waiting N → List (ℕ × N)
  waiting_of Empty = []
  waiting_of (Top' e way p left q right) = (e.number, e.report) ∷ (waiting_of left ++ waiting_of right)

  -- each number is b or more, and none is lower than one above it
  abbrev pub IsAbove : ℕ → Waiting N → Type 0
  IsAbove b Empty = Unit {0}
  IsAbove b (Top' e way p left q right) = (b ≤ e.number) × IsAbove e.number left × IsAbove e.number right

  -- whether the report with the number `count + 1` is on top
  abbrev pub is_due : ℕ → Waiting N → Bool
  is_due count Empty = false
  is_due count (Top' e way p left q right) = e.number == count + 1

  abbrev pub added_by : Last N → List (ℕ × N)
  added_by Unused = []
  added_by (Put s) = s.value ∷ []

module _ {N T : Type 0} where
  -- all reports in the book
  abbrev pub all_of : Book N T → List (ℕ × N)
  all_of b = b.told.items ++ waiting_of b.waiting

  -- what was handed in last
  abbrev pub added : Book N T → List (ℕ × N)
  added b = added_by b.last

module _ {N T : Type 0} (tells : T → T → ℕ → N → Type 0) where
  -- Since the teller was `was`, it got the reports with the numbers 1, 2, 3 .. up to the count, each once, in this order
  pub record Keeps (was : T) (b : Book N T) : Type 0 where
    pub told : Told tells was b.teller b.told.items
    pub numbers : numbers_of b.told.items ≡ one_to b.count
    pub order : IsAbove 0 b.waiting

  -- the same, and no report waits whose turn it is
  pub record IsKept (was : T) (b : Book N T) : Type 0 where
    pub keeps : Keeps was b
    pub none_due : is_due b.count b.waiting ≡ false

  abbrev pub IsKeptFrom : Option T → Book N T → Type 0
  IsKeptFrom first b = (was : T) × (first ≡ Some was) × IsKept was b
