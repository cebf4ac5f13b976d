use Rattle.asgi_halves.proofs.HalfWords.{ap, OfBytes, failures_at, [], append-nil}
use Rattle.asgi_halves.proofs.{HalfInLemmas.read_more, HalfInLemmas.read_short, HalfLemmas.stage_of}
use Rattle.asgi_halves.proofs.half.HttpHalf.read.Goals as goal

pub returns-in-Ok-clause-leads : goal.returns-in-Ok-clause-leads
returns-in-Ok-clause-leads g c scene read view x =
    let r = stage_of x c.requires.running in
    let on = c.reads_on.ensures in
    let goes = c.if-not-reads_on.false in
    let m = c.in-Ok.ensures.moved in
    let later = read_more x r.talks (ap failures_at c.requires.running) (on.open goes) (on.free goes) c.requires.asked (on.few goes) m.0 m.3 c.read.ensures.same c.read.ensures.limits
    (m.1 scene.start read _ 0) m.2 c.requires.running r.unended r.offered in
    (m.0, _, view.written, later)

pub returns-in-Err-clause-leads : goal.returns-in-Err-clause-leads
returns-in-Err-clause-leads g c scene read view x =
    let r = stage_of x c.requires.running in
    let on = c.reads_on.ensures in
    let goes = c.if-not-reads_on.false in
    let m = c.read.ensures.moved in
    let later = read_short x r.talks (ap failures_at c.requires.running) (on.open goes) (on.free goes) c.requires.asked (on.few goes) m.0 m.3 c.read.ensures.same c.read.ensures.limits
    (m.1 scene.start read _ 0) r.unended in
    (m.0, _, view.written, later)

pub returns-in-Ok-clause-turn : goal.returns-in-Ok-clause-turn
returns-in-Ok-clause-turn g c is = let t = c.in-Ok.ensures.turn in OfBytes t.0 t.1 c.read.ensures.session t.2

pub returns-then-not-reads_on-clause-leads : goal.returns-then-not-reads_on-clause-leads
returns-then-not-reads_on-clause-leads g c scene read view x = ([], view.arrived, view.written, rw append-nil x)
