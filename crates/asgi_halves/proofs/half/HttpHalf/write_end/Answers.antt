use Rattle.asgi_halves.proofs.HalfWords.{[], ap, refl, Stage, NextStep, Outcome, HttpHalf, inr, failures_at, tries_front, ◌++◌, take, append-nil}
use Rattle.asgi_halves.proofs.{HalfEndLemmas.ends_idle, HalfEndLemmas.ends_written, HalfEndLemmas.ends_cut, HalfLemmas.restage, HalfLemmas.lacks, HalfLemmas.stage_of}
use Rattle.asgi_halves.proofs.half.HttpHalf.write_end.Goals as goal

pub returns-in-Idle-clause-leads : goal.returns-in-Idle-clause-leads
returns-in-Idle-clause-leads g c scene read view x =
    ([], view.arrived, view.written, rw append-nil (ends_idle x c.requires.ending c.requires.progress c.requires.known c.input_of-input.ensures c.after_task-following.ensures c.in-Idle.is))

pub returns-in-Err-clause-leads : goal.returns-in-Err-clause-leads
returns-in-Err-clause-leads g c scene read view x =
    let half = c.args.self.now in
    let later : HttpHalf = record half { wire = record half.wire { out = c.end.new.out }; stage = Stage.Over (NextStep.ConnectionEnds Outcome.NoMemory) } in
    ([], view.arrived, view.written, rw append-nil (restage x later refl (ap failures_at c.requires.ending) (inr lacks)))

pub returns-in-None-clause-leads : goal.returns-in-None-clause-leads
returns-in-None-clause-leads g c scene read view x =
    let o = c.put.ensures in
    let w = c.in-None.ensures.none in
    let text = c.in-Ok.ensures.ok scene.facts _ (stage_of x c.requires.ending).0.text in
    let ends = ends_written x c.requires.ending c.requires.progress c.requires.known c.input_of-input.ensures c.after_task-following.ensures c.in_default.not-Idle text
    (g.L.Line.state c.put.new.line) o.same o.empty (record { beside = o.reads; session = o.session; appends = w.0; rose = w.1; tries = c.in-None.ensures.tries }) in
    ([], view.arrived, view.written ++ c.end.new.out.items, rw append-nil ends)

pub returns-in-Some-clause-leads : goal.returns-in-Some-clause-leads
returns-in-Some-clause-leads g c scene read view x =
    let o = c.put.ensures in
    let w = c.in-Some.ensures.some in
    let tries = tries_front _ _ c.in-Some.n _ w.0 c.in-Some.ensures.tries in
    let text = c.in-Ok.ensures.ok scene.facts _ (stage_of x c.requires.ending).0.text in
    let ends = ends_cut x c.requires.ending c.requires.progress c.requires.known c.input_of-input.ensures c.after_task-following.ensures c.in_default.not-Idle text
    (g.L.Line.state c.put.new.line) o.same c.in-Some.n w.0 (record { beside = o.reads; session = o.session; appends = w.1; rose = w.2; tries = tries }) in
    ([], view.arrived, view.written ++ take c.in-Some.n c.end.new.out.items, rw append-nil ends)
