use Rattle.asgi_halves.proofs.SessionOfferLemmas.{broken_view, left_view, none_view, offered_view}
use Rattle.asgi_halves.proofs.SessionWords.{Session, Some, refl}
use Rattle.asgi_halves.proofs.session_half.WebSocketHalf.offer.Goals as goal

pub returns-in-Ok-clause-leads : goal.returns-in-Ok-clause-leads
returns-in-Ok-clause-leads g c scene line read view x v =
    let w = c.in-Begun-default-Some in
    offered_view x c.requires.running g.C.ConnEnd c.args.end.now c.offer.new.self c.replace.result c.replace.ensures.value v w.answer w.event
    (rw w.field-1-is at w.is) c.in-Ok.ensures.ok.0 c.offer.ensures.same.0 c.offer.ensures.same.1

pub returns-in-Err-clause-leads : goal.returns-in-Err-clause-leads
returns-in-Err-clause-leads g c scene line read view x v =
    let err = c.in-Err.ensures.err in
    let w = c.in-Begun-default-Some in
    none_view x c.requires.running g.C.ConnEnd c.args.end.now c.offer.new.self c.replace.result c.replace.ensures.value v (Session.Begun w.answer (Some c.in-Err.back))
    (rw (w.field-1-is, ← err.0) at w.is) err.1 c.offer.ensures.same.0 c.offer.ensures.same.1

pub returns-in-Leaves-clause-leads : goal.returns-in-Leaves-clause-leads
returns-in-Leaves-clause-leads g c scene line read view x v =
    let o = c.offer_disconnect.ensures in
    left_view x c.requires.running g.C.ConnEnd c.args.end.now c.offer_disconnect.new.self c.replace.result c.replace.ensures.value v
    c.offer_disconnect.result c.in-Leaves.disconnect o.first o.yes o.broken o.same.0 c.in-Leaves.is

pub returns-in-Breaks-clause-leads : goal.returns-in-Breaks-clause-leads
returns-in-Breaks-clause-leads g c scene line read view x v =
    let o = c.offer_disconnect-in-Breaks.ensures in
    broken_view x c.requires.running g.C.ConnEnd c.args.end.now c.offer_disconnect-in-Breaks.new.self c.replace.result c.replace.ensures.value v
    c.offer_disconnect-in-Breaks.result c.disconnect.result o.first o.yes o.broken o.same.0 c.in-Breaks.is c.disconnect.ensures c.replace.new.dest c.replace.ensures.after

pub returns-in-Begun-default-None-clause-leads : goal.returns-in-Begun-default-None-clause-leads
returns-in-Begun-default-None-clause-leads g c scene line read view x v =
    let w = c.in-Begun-default-None in
    none_view x c.requires.running g.C.ConnEnd c.args.end.now c.args.end.now c.replace.result c.replace.ensures.value v _ (rw w.field-1-is at w.is) refl refl refl

pub returns-in-Closed-clause-leads : goal.returns-in-Closed-clause-leads
returns-in-Closed-clause-leads g c scene line read view x v =
    none_view x c.requires.running g.C.ConnEnd c.args.end.now c.args.end.now c.replace.result c.replace.ensures.value v _ c.in-Closed.is refl refl refl
