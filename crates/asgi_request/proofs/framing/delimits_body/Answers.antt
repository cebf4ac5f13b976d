use Rattle.std.proofs.Common.{rules, tests}
use Rattle.std.proofs.lemmas.Iterator.Search.{any_from_yields_List}
use Rattle.std.proofs.lemmas.Iterator.Consumers.{YieldsList-from_first}
use Rattle.asgi_types.specs.Fields.{shown}
use Rattle.asgi_request.specs.private.Steps.{is_delimiter}
use Rattle.asgi_request.proofs.framing.delimits_body.Goals as goal

pub returns : goal.returns
returns c =
    any_from_yields_List (λ f. is_delimiter f.name) _ _ _ c.any.ensures.ran
    (YieldsList-from_first shown (λ rest. rest) c.args.headers.now c.iter.ensures)
    (λ x b q k. search (rules, tests))
