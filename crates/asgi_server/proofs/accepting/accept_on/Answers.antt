use Rattle.std.proofs.Common.{◌≡◌, ◌∙◌, sym}
use Rattle.asgi_server.specs.declared.accepting.Fault.TheVariants.{Passing, Short, Lasting}
use Rattle.asgi_server.proofs.AcceptLemmas.{accepted_then, failed_then, lost_then}
use Rattle.asgi_server.proofs.accepting.accept_on.Goals as goal

pub returns-in-Ok-clause-accepts : goal.returns-in-Ok-clause-accepts
returns-in-Ok-clause-accepts g c = accepted_then _ _ _ _ _ c.in-Ok.accepted c.loop-lost._lost c.loop-lost.invariant.passed c.in-Ok.ensures.accepts

pub loop-lost-preserved : goal.loop-lost-preserved
loop-lost-preserved g c = record {
  passed =
      lost_then _ _ _ c.in-Err.e c.loop-lost._lost c.loop-lost.invariant.passed c.in-Err.ensures.accepts (sym c.fault_of.ensures ∙ c.in-Passing.is);
  others = (c.accept_in_time.ensures.others.0 ∙ c.loop-lost.invariant.others.0, c.accept_in_time.ensures.others.1 ∙ c.loop-lost.invariant.others.1);
}

pub returns-in-Short-clause-accepts : goal.returns-in-Short-clause-accepts
returns-in-Short-clause-accepts g c =
    failed_then _ _ _ c.in-Err.e c.loop-lost._lost c.loop-lost.invariant.passed c.in-Err.ensures.accepts
    (λ passing. let never : Short ≡ Passing = sym c.in-Short.is ∙ (c.fault_of.ensures ∙ passing) in cc)

pub returns-in-Lasting-clause-accepts : goal.returns-in-Lasting-clause-accepts
returns-in-Lasting-clause-accepts g c =
    failed_then _ _ _ c.in-Err.e c.loop-lost._lost c.loop-lost.invariant.passed c.in-Err.ensures.accepts
    (λ passing. let never : Lasting ≡ Passing = sym c.in-Lasting.is ∙ (c.fault_of.ensures ∙ passing) in cc)
