use Rattle.std.proofs.Common.{rules, ap, ◌∙◌, w32}
use Rattle.std.proofs.lemmas.Int.{to_z-of_z}
use Rattle.std.specs.Int.RustNames.{FitsSigned}
use Rattle.std.specs.IoError.{error_kind}
use Rattle.asgi_reactor.specs.Faults.{fault_of, fault_of_code}
use Rattle.asgi_reactor.proofs.faults.fault_of.Goals as goal

pub returns-in-Some : goal.returns-in-Some
returns-in-Some c =
    let fits : FitsSigned w32 c.in-Some.code = search rules in
    c.fault_of_code.ensures ∙ ap fault_of_code (to_z-of_z w32 c.in-Some.code fits) ∙ ap (λ code. fault_of code (error_kind c.args.e.now)) c.in-Some.ensures
