use Rattle.asgi_halves.proofs.HalfWords.{OutItem, [], ◌∷◌, ◌++◌, sym, append-nil, ◌∙◌}
use Rattle.asgi_halves.proofs.TurnLemmas.{view_taking}
use Rattle.asgi_halves.proofs.turns.take_one.Goals as goal

pub returns-in-None-clause-leads : goal.returns-in-None-clause-leads
returns-in-None-clause-leads g c scene read view x v =
    ([], view, rw append-nil x, (v.0 ∙ sym c.take.ensures.same.0, v.1 ∙ sym c.take.ensures.same.1, v.2 ∙ sym c.in-None.ensures.none.0))

pub returns-in-Some-Ended-clause-leads : goal.returns-in-Some-Ended-clause-leads
returns-in-Some-Ended-clause-leads g c scene read view x v =
    let e = c.take_end.ensures.ends scene _ read view x in
    let taking = view_taking g.C.ConnEnd _ _ view c.in-Some-Ended.field-0-is v c.take.ensures.same.0 c.take.ensures.same.1 c.in-Some-Ended.ensures.some.0 in
    ([], record view { got = view.got ++ OutItem.Ended c.in-Some-Ended.kind ∷ []; broken_first = e.0 }, rw append-nil e.1, taking)

pub returns-in-Some-Event-clause-leads : goal.returns-in-Some-Event-clause-leads
returns-in-Some-Event-clause-leads g c scene read view x v =
    let e = c.say.ensures.says scene read view x in
    let taking = view_taking g.C.ConnEnd _ _ view c.in-Some-Event.field-0-is v c.take.ensures.same.0 c.take.ensures.same.1 c.in-Some-Event.ensures.some.0 in
    ([], record view { got = view.got ++ OutItem.Event c.in-Some-Event.event ∷ []; written = e.0 }, rw append-nil e.1, taking)
