use Rattle.std.proofs.Common.{refl, arith, inl, inr}
use Rattle.std.proofs.lemmas.Option.{slice_get_within}
use Rattle.asgi_many.specs.Serving.{came_in}
use Rattle.asgi_many.proofs.ServingLemmas as lemma
use Rattle.asgi_many.proofs.serving.leave.Goals as goal

pub over-requires : goal.over-requires
over-requires g c =
    let (limits, asked, told, going) = c.requires in
    let came = came_in going.sits.answers in
    let (free, one, given, served) = c.in-Over.ensures.over came going.places going.sits.holds in
    let within = slice_get_within came c.in-Over.end.number one given in
    let counted = going.sits.holds.counted in
    omega (arith, within, counted, c.args.table.now.few)

pub returns-in-NoOne-clause-goes_on : goal.returns-in-NoOne-clause-goes_on
returns-in-NoOne-clause-goes_on g c limits asked told going =
    lemma.goes_on _ _ _ _ _ _ _ limits _ _ asked _ _ told _ _ _ refl c.turn.ensures.limits.0
    (λ came places holds. c.in-NoOne.ensures.holds came places holds) going

pub returns-in-Moved-clause-goes_on : goal.returns-in-Moved-clause-goes_on
returns-in-Moved-clause-goes_on g c limits asked told going =
    lemma.goes_on _ _ _ _ _ _ _ limits _ _ asked _ _ told _ _ _ c.again.ensures.told c.turn.ensures.limits.0
    (λ came places holds. c.in-Moved.ensures.holds came places holds) going

pub returns-in-Idle-clause-goes_on : goal.returns-in-Idle-clause-goes_on
returns-in-Idle-clause-goes_on g c limits asked told going =
    lemma.goes_on _ _ _ _ _ _ _ limits _ _ asked _ _ told _ _ _ c.rests.ensures.told c.turn.ensures.limits.0
    (λ came places holds. c.in-Idle.ensures.holds came places holds) going

pub returns-in-Over-clause-goes_on : goal.returns-in-Over-clause-goes_on
returns-in-Over-clause-goes_on g c limits asked told going =
    lemma.ends_one _ _ _ _ _ _ _ limits _ _ asked _ _ told _ _ _ _ c.in-Over.end c.over.ensures.same c.turn.ensures.limits.0 c.over.ensures.told
    (λ came places holds. c.in-Over.ensures.holds came places holds) (λ came places holds. (c.in-Over.ensures.over came places holds).0) going

pub returns-in-NoOne-clause-seats : goal.returns-in-NoOne-clause-seats
returns-in-NoOne-clause-seats g c = inl (refl, omega (arith, c.in-NoOne.ensures.sits))

pub returns-in-Moved-clause-seats : goal.returns-in-Moved-clause-seats
returns-in-Moved-clause-seats g c = inl (c.again.ensures.moves, omega (arith, c.in-Moved.ensures.sits))

pub returns-in-Idle-clause-seats : goal.returns-in-Idle-clause-seats
returns-in-Idle-clause-seats g c = inl (c.rests.ensures.moves, omega (arith, c.in-Idle.ensures.sits))

pub returns-in-Over-clause-seats : goal.returns-in-Over-clause-seats
returns-in-Over-clause-seats g c = inr (c.over.ensures.moves, c.in-Over.ensures.sits)

pub returns-in-NoOne-clause-asked : goal.returns-in-NoOne-clause-asked
returns-in-NoOne-clause-asked g c = refl

pub returns-in-Moved-clause-asked : goal.returns-in-Moved-clause-asked
returns-in-Moved-clause-asked g c = c.again.ensures.told

pub returns-in-Idle-clause-asked : goal.returns-in-Idle-clause-asked
returns-in-Idle-clause-asked g c = c.rests.ensures.told

pub returns-in-Over-clause-asked : goal.returns-in-Over-clause-asked
returns-in-Over-clause-asked g c = c.over.ensures.same
