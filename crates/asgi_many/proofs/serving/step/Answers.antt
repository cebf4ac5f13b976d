use Rattle.std.proofs.Common.{refl, inl, inr, ◌∙◌}
use Rattle.asgi_many.proofs.MoveLemmas as move
use Rattle.asgi_many.proofs.ServingLemmas as lemma
use Rattle.asgi_many.proofs.serving.step.Goals as goal

pub returns-then-asks_for-clause-goes_on : goal.returns-then-asks_for-clause-goes_on
returns-then-asks_for-clause-goes_on g c limits asked told going =
    lemma.takes_in _ _ _ _ _ _ _ limits _ _ asked _ _ told _ _ _ (λ places sits. c.take_in.ensures.sits c.args.calls.now.app.now limits asked places sits) going

pub returns-then-asks_for-clause-no_more : goal.returns-then-asks_for-clause-no_more
returns-then-asks_for-clause-no_more g c closed = inl (c.take_in.ensures.no_more closed)

pub returns-then-asks_for-clause-seats : goal.returns-then-asks_for-clause-seats
returns-then-asks_for-clause-seats g c = rw (c.if-asks_for.ensures.yes refl).0 c.take_in.ensures.seats

pub go_on-requires : goal.go_on-requires
go_on-requires g c =
    let (limits, asked, told, going) = c.requires.going in
    (limits, asked, told, lemma.goes_on _ _ _ _ _ _ _ limits _ _ asked _ _ told _ _ _ c.wait.ensures.told refl (λ came places holds. holds) going)

pub go_on-requires-in-Tick : goal.go_on-requires-in-Tick
go_on-requires-in-Tick g c =
    let (limits, asked, told, going) = c.requires.going in
    (limits, asked, told, lemma.goes_on _ _ _ _ _ _ _ limits _ _ asked _ _ told _ _ _ c.wait.ensures.told refl (λ came places holds. holds) going)

pub returns-in-Arrivals-clause-asked : goal.returns-in-Arrivals-clause-asked
returns-in-Arrivals-clause-asked g c = lemma.none_more _ _ c.wait.ensures.told

pub returns-in-Seat-clause-asked : goal.returns-in-Seat-clause-asked
returns-in-Seat-clause-asked g c = lemma.none_more _ _ (c.go_on.ensures.asked ∙ c.wait.ensures.told)

pub returns-in-Tick-clause-asked : goal.returns-in-Tick-clause-asked
returns-in-Tick-clause-asked g c = lemma.none_more _ _ (c.go_on-in-Tick.ensures.asked ∙ c.wait.ensures.told)

pub returns-in-Arrivals-clause-no_more : goal.returns-in-Arrivals-clause-no_more
returns-in-Arrivals-clause-no_more g c closed = inr (lemma.was_closed _ (rw c.told_of_arrivals.ensures at closed), c.wait.ensures.told)

pub returns-in-Seat-clause-no_more : goal.returns-in-Seat-clause-no_more
returns-in-Seat-clause-no_more g c closed = inr (closed, c.go_on.ensures.asked ∙ c.wait.ensures.told)

pub returns-in-Tick-clause-no_more : goal.returns-in-Tick-clause-no_more
returns-in-Tick-clause-no_more g c closed = inr (closed, c.go_on-in-Tick.ensures.asked ∙ c.wait.ensures.told)

pub returns-in-Arrivals-clause-seats : goal.returns-in-Arrivals-clause-seats
returns-in-Arrivals-clause-seats g c =
    rw c.told_of_arrivals.ensures
    (move.waits _ _ _ _ _ _ _ _ c.in-Arrivals.ensures.moves (move.may_wait (c.asks_for.ensures.no c.if-asks_for.false) c.requires.few) (inl (refl, refl)))

pub returns-in-Seat-clause-seats : goal.returns-in-Seat-clause-seats
returns-in-Seat-clause-seats g c =
    move.waits _ _ _ _ _ _ _ _ c.in-Seat.ensures.moves (move.may_wait (c.asks_for.ensures.no c.if-asks_for.false) c.requires.few) c.go_on.ensures.seats

pub returns-in-Tick-clause-seats : goal.returns-in-Tick-clause-seats
returns-in-Tick-clause-seats g c =
    move.waits _ _ _ _ _ _ _ _ c.in-Tick.ensures.moves (move.may_wait (c.asks_for.ensures.no c.if-asks_for.false) c.requires.few) c.go_on-in-Tick.ensures.seats
