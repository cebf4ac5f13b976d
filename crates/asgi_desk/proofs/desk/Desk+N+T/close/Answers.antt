use Rattle.std.proofs.Common.{List, ℕ, ap, ◌∙◌, subst, sym}
use Rattle.std.specs.List.Sorted.{IsPermutation}
use Rattle.crossbeam_channel.specs.Claims.{view}
use Rattle.asgi_desk.specs.declared.channel.Hand.{Hand}
use Rattle.asgi_desk.specs.Told.{numbers_of}
use Rattle.asgi_desk.proofs.Moves.{learns}
use Rattle.asgi_desk.proofs.Telling.{closes_at}
use Rattle.asgi_desk.proofs.desk.Desk+N+T.close.Goals as goal

pub learn_as-requires-clause-rule : goal.learn_as-requires-clause-rule
learn_as-requires-clause-rule g c =
    let took = c.take-book.ensures.took in
    learns g.T.Teller.tells c.take-book.new.seat.id (view c.take-book.new.seat)
    (ap (λ (h : Hand g.row.N.Denot g.row.T.Denot). h.parts) took ∙ c.requires.whole.0)
    (ap (λ (h : Hand g.row.N.Denot g.row.T.Denot). h.books) took)

pub returns-clause-each : goal.returns-clause-each
returns-clause-each g c =
    let closed = closes_at g.T.Teller.tells (view c.args.seat) (view c.take-book.new.seat) c.take-book.result c.take-book.ensures.kept c.take-book.ensures.took c.learn_as.ensures.rule.1 c.requires.numbers in
    subst (λ (l : List (ℕ × g.row.N.Denot)). IsPermutation (view c.args.seat).put l) (sym c.into_told.ensures.1) closed.each

pub returns-clause-in_order : goal.returns-clause-in_order
returns-clause-in_order g c =
    let closed = closes_at g.T.Teller.tells (view c.args.seat) (view c.take-book.new.seat) c.take-book.result c.take-book.ensures.kept c.take-book.ensures.took c.learn_as.ensures.rule.1 c.requires.numbers in
    ap numbers_of c.into_told.ensures.1 ∙ closed.in_order
