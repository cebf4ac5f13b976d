use Rattle.std.proofs.Common.{rules, tests}
use Rattle.std.proofs.lemmas.Iterator.Search.{find_from_yields_List}
use Rattle.std.proofs.lemmas.Iterator.Consumers.{YieldsList-from_first}
use Rattle.asgi_types.specs.Fields.{HeaderField, shown}
use Rattle.asgi_types.specs.Tokens.{same_ignoring_case}
use Rattle.asgi_types.proofs.headers.Headers.first_named.Goals as goal

pub returns : goal.returns
returns c =
    find_from_yields_List (λ (field : HeaderField). same_ignoring_case field.name c.args.name.now) _ _ _ c.find.ensures.ran
    (YieldsList-from_first shown (λ rest. rest) c.args.self.now c.iter.ensures)
    (λ x b q k. search (rules, tests))
