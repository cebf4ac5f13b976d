use Rattle.std.proofs.Common.{None, Some, refl}
use Rattle.std.proofs.lemmas.Option.{none-some}
use Rattle.asgi_many.proofs.table.Table.new.Goals as goal

pub returns-clause-holds : goal.returns-clause-holds
returns-clause-holds g c app state = record {
  counted = refl;
  seating = record {
    long = refl;
    sitting = λ i seat there. absurd (none-some seat (rw c.in_ok-with_capacity.ensures.empty at there));
    apart = λ i j seat other there. absurd (none-some seat (rw c.in_ok-with_capacity.ensures.empty at there));
    each = λ k end one there. absurd (none-some (Some end) there);
    waits = λ k there. absurd (none-some None there);
  };
}
