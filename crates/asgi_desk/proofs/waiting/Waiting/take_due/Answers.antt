use Rattle.std.proofs.Common.{◌≡◌, ◌∷◌, ◌++◌, rules}
use Rattle.asgi_desk.specs.private.Book.{waiting_of}
use Rattle.asgi_desk.proofs.Heap.{top_goes}
use Rattle.asgi_desk.proofs.waiting.Waiting.take_due.Goals as goal

pub returns-in-Top-clause-reports : goal.returns-in-Top-clause-reports
returns-in-Top-clause-reports g c =
    let sides = waiting_of c.in-Top.left.value ++ waiting_of c.in-Top.right.value in
    let top : waiting_of c.args.self.now ≡ (c.in-Top.entry.number, c.in-Top.entry.report) ∷ sides = search rules in
    let same : waiting_of c.into_inner.result ++ waiting_of c.into_inner-in-Top.result ≡ sides = search rules in
    top_goes _ sides _ _ _ top same c.merged.ensures.reports
