use Rattle.std.proofs.Common.{List, ℕ, sym, subst, arith}
use Rattle.std.specs.List.Sorted.{IsPermutation}
use Rattle.asgi_crew_tests.proofs.Counting.{are_one_to}
use Rattle.asgi_crew_tests.proofs.desk.fakes.is_one_to.Goals as goal

pub returns : goal.returns
returns c = λ all.
    let items = c.deref-number-items.result.now in
    let same = subst (λ (l : List ℕ). IsPermutation l items) c.in_ok-sorted.ensures.items
    (subst (λ (l : List ℕ). IsPermutation c.in_ok-sorted.sorted.items l) (sym c.deref-number-items.ensures.value) c.sort_unstable.ensures.permutation) in
    are_one_to c.args.numbers.now items same (λ k lt. c.loop-index.invariant k (omega arith))
