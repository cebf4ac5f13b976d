-- Which of two heaps has the lower number on top.
use Rattle.std.specs.Prelude.{ℕ, ◌≤◌, Bool, true, false, nat_lt, Option, Some, None}
use Rattle.asgi_desk.specs.declared.waiting.Waiting.{Waiting}
use Rattle.asgi_desk.specs.declared.waiting.Waiting.TheVariants.{Empty, Top'}
use Rattle.asgi_desk.specs.private.Book.{IsAbove}

abbrev pub least : {N : Type 0} → Waiting N → Option ℕ
least Empty = None
least (Top' e way p left q right) = Some e.number

abbrev pub is_before : Option ℕ → Option ℕ → Bool
is_before None y = false
is_before (Some n) None = true
is_before (Some n) (Some m) = nat_lt n m

-- no number of the second is lower than the first one's least, which is b or more
abbrev pub IsOrdered : {N : Type 0} → ℕ → Waiting N → Waiting N → Type 0
IsOrdered b Empty y = IsAbove b y
IsOrdered b (Top' e way p left q right) y = (b ≤ e.number) × IsAbove e.number left × IsAbove e.number right × IsAbove e.number y
