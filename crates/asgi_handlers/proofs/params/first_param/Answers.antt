use Rattle.std.proofs.Common.{ℕ, List, rules, tests}
use Rattle.std.specs.Prelude.{bytes_eq}
use Rattle.std.specs.Borrow.{Bor}
use Rattle.std.proofs.lemmas.Iterator.{YieldsList-from_slice}
use Rattle.std.proofs.lemmas.Iterator.Search.{find_from_yields_List}
use Rattle.asgi_handlers.proofs.params.first_param.Goals as goal

pub returns : goal.returns
returns c =
    find_from_yields_List (λ (param : Bor (List ℕ) × Bor (List ℕ)). bytes_eq param.0.now c.args.name.now) _ _ _ c.find.ensures.ran
    (YieldsList-from_slice c.args.params.now cc)
    (λ x b q k. search (rules, tests))
