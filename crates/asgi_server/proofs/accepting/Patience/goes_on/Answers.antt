use Rattle.std.proofs.Common.{◌≡◌, ◌∙◌, sym}
use Rattle.asgi_server.specs.declared.accepting.Fault.TheVariants.{Passing, Short, Lasting}
use Rattle.asgi_server.proofs.accepting.Patience.goes_on.Goals as goal

pub returns-in-Passing : goal.returns-in-Passing
returns-in-Passing g c = λ _ lasting. let never : Passing ≡ Lasting = sym c.in-Passing.is ∙ (c.fault_of.ensures ∙ lasting) in cc

pub returns-in-Short : goal.returns-in-Short
returns-in-Short g c = λ _ lasting. let never : Short ≡ Lasting = sym c.in-Short.is ∙ (c.fault_of.ensures ∙ lasting) in cc
