use Rattle.std.proofs.Common.{◌≡◌, ◌∙◌, sym}
use Rattle.asgi_server.specs.declared.accepting.Fault.TheVariants.{Short, Lasting}
use Rattle.asgi_server.proofs.AcceptLemmas.{one_passed}
use Rattle.asgi_server.proofs.accepting.accept_in_time.Goals as goal

pub loop-short-preserved : goal.loop-short-preserved
loop-short-preserved g c = record {
  passed =
      one_passed _ _ _ c.in-Err.e c.loop-short._short c.loop-short.invariant.passed c.in-Err.ensures.accepted
      (λ lasting. let never : Short ≡ Lasting = sym c.in-Short.is ∙ (c.fault_of.ensures ∙ lasting) in cc);
  others = (c.accept.ensures.others.0 ∙ c.loop-short.invariant.others.0, c.accept.ensures.others.1 ∙ c.loop-short.invariant.others.1);
}
