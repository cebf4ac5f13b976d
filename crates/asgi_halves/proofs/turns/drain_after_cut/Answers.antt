use Rattle.asgi_halves.proofs.HalfWords.{sym, ◌∙◌}
use Rattle.asgi_halves.proofs.TurnLemmas.{offers_cut, view_taking}
use Rattle.asgi_halves.proofs.turns.drain_after_cut.Goals as goal

pub returns-in-None-clause-leads : goal.returns-in-None-clause-leads
returns-in-None-clause-leads g c scene line read view x v =
    let o = c.offer_disconnect-first.ensures in
    let waits = c.cut_disconnect.ensures.waits c.args.outcome c.requires.cut scene line read view in
    let off = offers_cut g.C.ConnEnd view _ c.cut_disconnect.ensures.event v o.first o.yes o.no o.broken o.same.0 (λ later. waits later x) in
    (off.0, off.1, (off.2.0 ∙ sym c.take.ensures.same.0, off.2.1 ∙ sym c.take.ensures.same.1, off.2.2 ∙ sym c.in-None.ensures.none.0))

pub returns-in-Some-Event-clause-leads : goal.returns-in-Some-Event-clause-leads
returns-in-Some-Event-clause-leads g c scene line read view x v =
    let o = c.offer_disconnect-first.ensures in
    let waits = c.cut_disconnect.ensures.waits c.args.outcome c.requires.cut scene line read view in
    let off = offers_cut g.C.ConnEnd view _ c.cut_disconnect.ensures.event v o.first o.yes o.no o.broken o.same.0 (λ later. waits later x) in
    let taking = view_taking g.C.ConnEnd _ _ off.0 c.in-Some-Event.field-0-is off.2 c.take.ensures.same.0 c.take.ensures.same.1 c.in-Some-Event.ensures.some.0 in
    (_, c.cut_disconnect.ensures.drops c.args.outcome c.requires.cut scene line read off.0 c.in-Some-Event.field-0-0 off.1, taking)

pub returns-clause-leads : goal.returns-clause-leads
returns-clause-leads g c scene line read view x v =
    let o = c.offer_disconnect-first.ensures in
    let waits = c.cut_disconnect.ensures.waits c.args.outcome c.requires.cut scene line read view in
    let off = offers_cut g.C.ConnEnd view _ c.cut_disconnect.ensures.event v o.first o.yes o.no o.broken o.same.0 (λ later. waits later x) in
    let taking = view_taking g.C.ConnEnd _ _ off.0 c.in-Some-Ended.field-0-is off.2 c.take.ensures.same.0 c.take.ensures.same.1 c.in-Some-Ended.ensures.some.0 in
    (_, c.end_with.ensures.ends c.requires.cut scene line read off.0 c.in-Some-Ended.field-0-0 off.1, taking)
