use Rattle.std.proofs.Common.{◌≡◌, [], ◌∷◌, ◌++◌, List, ℕ, rules, subst}
use Rattle.std.specs.List.Sorted.{IsPermutation}
use Rattle.asgi_desk.specs.private.Book.{waiting_of}
use Rattle.asgi_desk.proofs.Telling.{one_comes}
use Rattle.asgi_desk.proofs.book.Book.add.Goals as goal

pub returns-clause-all : goal.returns-clause-all
returns-clause-all g c =
    let b = c.args.self.now in
    let same : waiting_of c.replace-others.result ++ waiting_of c.one-one.result ≡ waiting_of b.waiting ++ (c.args.number, c.args.report) ∷ [] = search rules in
    one_comes b.told.items (waiting_of b.waiting) (waiting_of c.merged.result) (c.args.number, c.args.report)
    (subst (λ (l : List (ℕ × g.row.N.Denot)). IsPermutation l (waiting_of c.merged.result)) same c.merged.ensures.reports)
