use Rattle.std.proofs.Common.{◌∙◌, inl}
use Rattle.asgi_many.proofs.ServingLemmas as lemma
use Rattle.asgi_many.proofs.serving.go_on.Goals as goal

pub leave-requires : goal.leave-requires
leave-requires g c =
    let (limits, asked, told, going) = c.requires in (
      limits,
      asked,
      told,
      rw c.look.ensures.same (lemma.goes_on _ _ _ _ _ _ _ limits _ _ asked _ _ told _ _ _ c.may_go_on.ensures.told c.look.ensures.limits.0
          (λ came places holds. c.look.ensures.holds came places holds) going),
    )

pub returns-in-Some-Moved-clause-goes_on : goal.returns-in-Some-Moved-clause-goes_on
returns-in-Some-Moved-clause-goes_on g c limits asked told going =
    lemma.goes_on _ _ _ _ _ _ _ limits _ _ asked _ _ told _ _ _ (c.again.ensures.told ∙ c.may_go_on.ensures.told) c.look.ensures.limits.0
    (λ came places holds. c.look.ensures.holds came places holds) going

pub returns-in-Some-Idle-clause-goes_on : goal.returns-in-Some-Idle-clause-goes_on
returns-in-Some-Idle-clause-goes_on g c limits asked told going =
    lemma.goes_on _ _ _ _ _ _ _ limits _ _ asked _ _ told _ _ _ (c.rests.ensures.told ∙ c.may_go_on.ensures.told) c.look.ensures.limits.0
    (λ came places holds. c.look.ensures.holds came places holds) going

pub returns-in-Some-Over-clause-goes_on : goal.returns-in-Some-Over-clause-goes_on
returns-in-Some-Over-clause-goes_on g c limits asked told going =
    rw c.look.ensures.same at (c.leave.ensures.goes_on limits asked told (rw c.look.ensures.same
    (lemma.goes_on _ _ _ _ _ _ _ limits _ _ asked _ _ told _ _ _ c.may_go_on.ensures.told c.look.ensures.limits.0
    (λ came places holds. c.look.ensures.holds came places holds) going)))

pub returns-in-None-clause-seats : goal.returns-in-None-clause-seats
returns-in-None-clause-seats g c = inl (c.may_go_on.ensures.moves, c.look.ensures.sits)

pub returns-in-Some-Moved-clause-seats : goal.returns-in-Some-Moved-clause-seats
returns-in-Some-Moved-clause-seats g c = inl (c.again.ensures.moves ∙ c.may_go_on.ensures.moves, c.look.ensures.sits)

pub returns-in-Some-Idle-clause-seats : goal.returns-in-Some-Idle-clause-seats
returns-in-Some-Idle-clause-seats g c = inl (c.rests.ensures.moves ∙ c.may_go_on.ensures.moves, c.look.ensures.sits)

pub returns-in-Some-Over-clause-seats : goal.returns-in-Some-Over-clause-seats
returns-in-Some-Over-clause-seats g c = rw (c.may_go_on.ensures.moves, c.look.ensures.sits) at c.leave.ensures.seats

pub returns-in-None-clause-asked : goal.returns-in-None-clause-asked
returns-in-None-clause-asked g c = c.may_go_on.ensures.told

pub returns-in-Some-Moved-clause-asked : goal.returns-in-Some-Moved-clause-asked
returns-in-Some-Moved-clause-asked g c = c.again.ensures.told ∙ c.may_go_on.ensures.told

pub returns-in-Some-Idle-clause-asked : goal.returns-in-Some-Idle-clause-asked
returns-in-Some-Idle-clause-asked g c = c.rests.ensures.told ∙ c.may_go_on.ensures.told

pub returns-in-Some-Over-clause-asked : goal.returns-in-Some-Over-clause-asked
returns-in-Some-Over-clause-asked g c = c.leave.ensures.asked ∙ c.may_go_on.ensures.told
