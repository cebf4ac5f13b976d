use Rattle.std.proofs.Common.{rules, tests}
use Rattle.std.proofs.lemmas.Iterator.Search.{any_from_yields_List}
use Rattle.std.proofs.lemmas.Iterator.Consumers.{YieldsList-from_first}
use Rattle.asgi_types.specs.Fields.{shown}
use Rattle.asgi_types.specs.Tokens as spec
use Rattle.asgi_types.proofs.headers.Headers.has_token.Goals as goal

pub returns : goal.returns
returns c =
    any_from_yields_List (λ f. spec.is_listed f c.args.name.now c.args.token.now) _ _ _ c.any.ensures.ran
    (YieldsList-from_first shown (λ rest. rest) c.args.self.now c.iter.ensures)
    (λ x b q k. search (rules, tests))
