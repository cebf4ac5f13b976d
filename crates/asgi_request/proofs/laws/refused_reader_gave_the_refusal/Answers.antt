use Rattle.std.proofs.Common.{◌≡◌, sym, ℕ, List, ◌∷◌, [], ◌++◌, subst}
use Rattle.asgi_request.specs.declared.next.Next.{Next}
use Rattle.asgi_request.specs.declared.next.Next.TheVariants.{Bad}
use Rattle.asgi_request.proofs.RefusalLemmas.{refused_last}
use Rattle.asgi_request.proofs.laws.refused_reader_gave_the_refusal.Goals as goal

pub returns : goal.returns
returns c reader bytes given status x refused =
    subst (λ (k : ℕ). (before : List Next) × (given ≡ before ++ Bad k ∷ [])) (sym refused.2)
    (refused_last reader.limits bytes given reader.place reader.held refused.0 x refused.1)
