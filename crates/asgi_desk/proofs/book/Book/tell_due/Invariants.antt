use Rattle.std.proofs.Common.{◌≡◌, length}
use Rattle.std.specs.List.Sorted.{IsPermutation}
use Rattle.asgi_desk.specs.private.Book.{waiting_of, all_of, added, Keeps}
use Rattle.asgi_desk.proofs.book.Book.tell_due.Given as goal

abbrev pub invariant-loop-entry : goal.invariant-loop-entry
invariant-loop-entry g l = record {
  all : IsPermutation (all_of l.fn.self) (all_of l.self);
  last : added l.self ≡ added l.fn.self;
  keeps : (was : g.row.T.Denot) → Keeps g.T.Teller.tells was l.fn.self → Keeps g.T.Teller.tells was l.self;
}

abbrev pub decreases-loop-entry : goal.decreases-loop-entry
decreases-loop-entry g l = length (waiting_of l.self.waiting)
