use Rattle.asgi_halves.proofs.HalfEndLemmas.{dropped_one, dropped_then, pulled}
use Rattle.asgi_halves.proofs.half.HttpHalf.drop_rest.Goals as goal

pub loop-event-init : goal.loop-event-init
loop-event-init c = record { dropped = pulled c.in_ok-pull.ensures.same c.in_ok-pull.ensures.gives c.in_ok-pull.ensures.limits; asked = c.in_ok-pull.ensures.asked }

pub returns-then-not-drop_one-clause-gives : goal.returns-then-not-drop_one-clause-gives
returns-then-not-drop_one-clause-gives c = (dropped_one c.loop-event.invariant.dropped c.drop_one.ensures.same c.drop_one.ensures.gives c.drop_one.ensures.requests).gives

pub loop-event-preserved : goal.loop-event-preserved
loop-event-preserved c =
    let one = dropped_one c.loop-event.invariant.dropped c.drop_one.ensures.same c.drop_one.ensures.gives c.drop_one.ensures.requests in
    let pull = c.pull-in-loop-event.ensures in record { dropped = dropped_then one (pulled pull.same pull.gives pull.limits); asked = c.in_ok-pull-2.ensures.asked }
