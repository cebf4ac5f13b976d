use Rattle.std.proofs.Common.{◌≡◌, ℕ, List, ◌++◌, refl, ap, ◌∙◌, arith, eq-eqb}
use Rattle.std.specs.Prelude.{codes, string_bytes}
use Rattle.asgi_routes.proofs.EndpointLemmas.{listed_own}
use Rattle.asgi_routes.proofs.chain.Chain.allow_own.Goals as goal

pub returns : goal.returns
returns g c =
    let same : c.args.self.now.pattern ≡ c.args.pattern = omega arith in
    listed_own c.args.self.now.pattern c.args.self.now.method c.args.pattern (string_bytes c.args.text.now) (string_bytes c.push_str-2.new.self) (codes ", ") c.allowed.result.now
    (eq-eqb c.args.self.now.pattern c.args.pattern same) refl c.allowed.ensures
    (c.in_ok-push_str-2.ensures.bytes ∙ ap (λ (l : List ℕ). l ++ c.allowed.result.now) c.in_ok-push_str.ensures.bytes)
