use Rattle.std.proofs.Common.{◌≡◌, length, ◌-◌, ◌≤◌, take}
use Rattle.std.specs.Io.KnownBytes.{Appends}
use Rattle.asgi_io.specs.Counting.{RoseBy}
use Rattle.asgi_io.proofs.WriteLemmas.{PartsGone}
use Rattle.asgi_io.proofs.write.write_out.Given as goal

abbrev pub invariant-loop-at : goal.invariant-loop-at
invariant-loop-at g l = record {
  in_text : l.at ≤ length l.text;
  written : Appends (g.W.Counts.written l.fn.writer) (g.W.Counts.written l.writer) (take l.at l.text);
  counted : RoseBy 0 (g.W.Counts.failed l.fn.writer) (g.W.Counts.failed l.writer);
  gone : PartsGone (g.W.Counts.answers l.fn.writer) (g.W.Counts.answers l.writer) l.at;
  beside : g.W.Counts.beside l.writer ≡ g.W.Counts.beside l.fn.writer;
}

abbrev pub decreases-loop-at : goal.decreases-loop-at
decreases-loop-at g l = length l.text - l.at
