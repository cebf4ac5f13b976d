use Rattle.std.proofs.Common.{rules, tests}
use Rattle.std.proofs.lemmas.Iterator.Search.{any_from_yields_List}
use Rattle.std.proofs.lemmas.Iterator.Consumers.{YieldsList-from_first}
use Rattle.std.specs.Prelude.{codes}
use Rattle.asgi_types.specs.Fields.{shown}
use Rattle.asgi_types.specs.Tokens.{is_listed}
use Rattle.asgi_response.proofs.fields.has_close.Goals as goal

pub returns : goal.returns
returns c =
    any_from_yields_List (λ f. is_listed f (codes "connection") (codes "close")) _ _ _ c.any.ensures.ran
    (YieldsList-from_first shown (λ rest. rest) c.args.headers.now c.iter.ensures)
    (λ x b q k. search (rules, tests))
