use Rattle.std.proofs.Common.{◌≡◌, ◌++◌}
use Rattle.std.specs.Prelude.{replicate}
use Rattle.std.specs.Io.KnownBytes.{Keeps}
use Rattle.asgi_io.specs.declared.answer.Answer.TheVariants.{Paused}
use Rattle.asgi_io.specs.Counting.{RoseBy}
use Rattle.asgi_io.proofs.write.write_retrying.Given as goal

abbrev pub invariant-loop-tried : goal.invariant-loop-tried
invariant-loop-tried g l = record {
  held : Keeps (g.W.Counts.written l.fn.writer) (g.W.Counts.written l.writer);
  counted : RoseBy 0 (g.W.Counts.failed l.fn.writer) (g.W.Counts.failed l.writer);
  told : g.W.Counts.answers l.writer ≡ g.W.Counts.answers l.fn.writer ++ replicate l._tried Paused;
  beside : g.W.Counts.beside l.writer ≡ g.W.Counts.beside l.fn.writer;
}
