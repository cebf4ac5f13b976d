use Rattle.std.proofs.Common.{arith, ◌∙◌}
use Rattle.asgi_io.proofs.BytesLemmas.{Appends-more}
use Rattle.asgi_io.proofs.CountLemmas.{rose_after}
use Rattle.asgi_io.proofs.WriteLemmas.{part_more}
use Rattle.asgi_io.proofs.write.write_out.Goals as goal

pub loop-at-preserved : goal.loop-at-preserved
loop-at-preserved g c = record {
  in_text = omega (arith, c.write_retrying-n.ensures.bound);
  written = Appends-more _ _ _ c.args.text.now c.loop-at.at c.write_retrying-n.result c.loop-at.invariant.written c.write_retrying-n.ensures.bytes;
  counted = rose_after 0 _ _ _ c.loop-at.invariant.counted c.write_retrying-n.ensures.counts;
  gone = part_more _ _ _ c.loop-at.at c.write_retrying-n.result c.loop-at.invariant.gone c.write_retrying-n.ensures.tries (omega (arith, c.if-n-eq0.false));
  beside = c.write_retrying-n.ensures.beside ∙ c.loop-at.invariant.beside;
}
