use Rattle.asgi_halves.proofs.HalfWords.{◌≡◌, ◌<◌, inr, take, length, Appends, RoseBy, TriesWrites, session_is, rules}
use Rattle.asgi_io.specs.declared.write.Wrote.{Wrote}
use Rattle.asgi_halves.proofs.LineCallLemmas.{by_state}
use Rattle.asgi_halves.proofs.wire.write.Goals as goal

pub returns-in-Done : goal.returns-in-Done
returns-in-Done g c =
    let by = by_state g.L.Line g.L.Reads g.L.Counts g.L.Messages g.met.L.Line.state_is c.args.line.now c.write_out.new.writer in
    record {
      none = by (λ was now. Appends was.written now.written c.args.text.now × RoseBy 0 was.failed now.failed) c.in-Done.ensures.writes;
      some = search rules;
      tries = by (λ was now. TriesWrites was.writes now.writes (length c.args.text.now) Wrote.Done) c.in-Done.ensures.tries;
      reads = by (λ was now. (now.left ≡ was.left) × (now.reads ≡ was.reads)) (g.met.L.Line.reads_stay _ _ c.write_out.ensures.beside);
      session = by (λ was now. now.session ≡ was.session) (session_is _ _ (g.met.L.Line.session_stays _ _ (inr c.write_out.ensures.beside)));
    }

pub returns-in-Failed : goal.returns-in-Failed
returns-in-Failed g c =
    let by = by_state g.L.Line g.L.Reads g.L.Counts g.L.Messages g.met.L.Line.state_is c.args.line.now c.write_out.new.writer in
    let n = c.in-Failed.n in
    let w = c.in-Failed.ensures.writes in
    record {
      none = search rules;
      some = by (λ was now. (n < length c.args.text.now) × Appends was.written now.written (take n c.args.text.now) × RoseBy 1 was.failed now.failed) (w.1, w.0, w.2);
      tries = by (λ was now. TriesWrites was.writes now.writes n (Wrote.Failed n)) c.in-Failed.ensures.tries;
      reads = by (λ was now. (now.left ≡ was.left) × (now.reads ≡ was.reads)) (g.met.L.Line.reads_stay _ _ c.write_out.ensures.beside);
      session = by (λ was now. now.session ≡ was.session) (session_is _ _ (g.met.L.Line.session_stays _ _ (inr c.write_out.ensures.beside)));
    }
