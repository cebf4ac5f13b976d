use Rattle.std.proofs.Common.{ℕ, List, sym, subst}
use Rattle.std.specs.Borrow.{Bor}
use Rattle.std.proofs.lemmas.Result.{IfOk-weaker}
use Rattle.asgi_handlers.specs.Params.{Param, params_of}
use Rattle.asgi_routes.specs.Patterns.{AreShown}
use Rattle.asgi_routes.proofs.TextLemmas.{collected}
use Rattle.asgi_routes.proofs.texts.texts_of.Goals as goal

pub returns : goal.returns
returns c =
    IfOk-weaker c.collect.result _ _
    (λ texts ran. subst (λ (parts : List Param). AreShown parts (params_of texts.items)) c.iter.ensures.value
    (subst (λ (pairs : List (Bor (List ℕ) × Bor (List ℕ))). AreShown c.iter.result (params_of pairs)) (sym ran.2.0) (collected ran.0 c.iter.result ran.1)))
    c.collect.ensures.ran
