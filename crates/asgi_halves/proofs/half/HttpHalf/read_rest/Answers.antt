use Rattle.asgi_halves.proofs.HalfWords.{[], inl, sym, ◌∙◌, failures_at, OfBytes, ReadsAt, subst, ap, append-nil}
use Rattle.asgi_halves.proofs.{HalfInLemmas.rest_read, HalfInLemmas.rest_short, HalfLemmas.stage_of}
use Rattle.asgi_halves.proofs.half.HttpHalf.read_rest.Goals as goal

pub returns-in-Ok-clause-leads : goal.returns-in-Ok-clause-leads
returns-in-Ok-clause-leads g c scene read view x =
    let e = stage_of x c.requires.ending.1 in
    let m = c.in-Ok.ensures.moved in
    let later = rest_read x e.0 (ap failures_at c.requires.ending.1) (sym c.has_ended.ensures ∙ c.if-has_ended.false) (subst ReadsAt (sym c.requires.open) tt) c.requires.asked
    (λ w. cc (sym c.requires.open ∙ w)) m.0 m.3 c.in-Ok.ensures.same c.in-Ok.ensures.limits (m.1 scene.start read _ 0) m.2 c.requires.ending.1 e.1 in
    (m.0, _, view.written, later)

pub returns-in-Err-clause-leads : goal.returns-in-Err-clause-leads
returns-in-Err-clause-leads g c scene read view x =
    let e = stage_of x c.requires.ending.1 in
    let m = c.in-Err.ensures.moved in
    let later = rest_short x e.0 (ap failures_at c.requires.ending.1) (sym c.has_ended.ensures ∙ c.if-has_ended.false) (subst ReadsAt (sym c.requires.open) tt) c.requires.asked
    (λ w. cc (sym c.requires.open ∙ w)) m.0 m.3 c.in-Err.ensures.same c.in-Err.ensures.limits (m.1 scene.start read _ 0) in
    (m.0, _, view.written, later)

pub returns-in-Ok-clause-turn : goal.returns-in-Ok-clause-turn
returns-in-Ok-clause-turn g c kind is = let t = c.in-Ok.ensures.turn in inl (OfBytes t.0 t.1 c.read.ensures.session t.2)

pub returns-then-has_ended-clause-leads : goal.returns-then-has_ended-clause-leads
returns-then-has_ended-clause-leads g c scene read view x = ([], view.arrived, view.written, rw append-nil x)
