use Rattle.std.proofs.Common.{◌≡◌, ◌∷◌, ◌++◌, List, ℕ, length, ap, rules, arith, subst}
use Rattle.std.specs.List.Sorted.{IsPermutation}
use Rattle.asgi_desk.specs.private.Book.{waiting_of}
use Rattle.asgi_desk.proofs.Heap.{fewer, goes_right}
use Rattle.asgi_desk.proofs.waiting.+merged.Goals as goal

pub merged-requires : goal.merged-requires
merged-requires g t c κs within =
    let left = waiting_of c.in-Top.left.value in let right = waiting_of c.in-Top.right.value in
    let top : waiting_of c.ordered-top.result.0 ≡ (c.in-Top.entry.number, c.in-Top.entry.report) ∷ (left ++ right) = search rules in
    let less = fewer (waiting_of c.args.one) (waiting_of c.args.other) (waiting_of c.ordered-top.result.0) (waiting_of c.ordered-top.result.1) left right
    (c.in-Top.entry.number, c.in-Top.entry.report) c.ordered-top.ensures.reports top in
    let under : waiting_of c.replace-under.result ≡ right = search rules in
    let same = ap length under in (omega (arith, c.decreases), within)

pub returns-in-Top-clause-reports : goal.returns-in-Top-clause-reports
returns-in-Top-clause-reports g t c =
    let x : ℕ × g.row.N.Denot = (c.in-Top.entry.number, c.in-Top.entry.report) in
    let left = waiting_of c.in-Top.left.value in let right = waiting_of c.in-Top.right.value in let below = waiting_of c.ordered-top.result.1 in
    let top : waiting_of c.ordered-top.result.0 ≡ x ∷ (left ++ right) = search rules in
    let under : waiting_of c.replace-under.result ≡ right = search rules in
    goes_right (waiting_of c.args.one ++ waiting_of c.args.other) x left right below (waiting_of c.merged.result) (waiting_of c.balanced.result)
    (subst (λ (l : List (ℕ × g.row.N.Denot)). IsPermutation (waiting_of c.args.one ++ waiting_of c.args.other) (l ++ below)) top c.ordered-top.ensures.reports)
    (subst (λ (l : List (ℕ × g.row.N.Denot)). IsPermutation (l ++ below) (waiting_of c.merged.result)) under c.merged.ensures.reports)
    (search rules)
