-- The parts that the parameters of a match took, as they are collected.
use Rattle.std.proofs.Common.{◌≡◌, ℕ, List, [], ◌∷◌, Option, refl, ap, sym, ◌∙◌, subst}
use Rattle.std.specs.Prelude.{⊤}
use Rattle.std.specs.Borrow.{Bor}
use Rattle.std.specs.Iterator.{DrainsIf, Yields}
use Rattle.matchit.specs.Params.{AllText, GivesPair}
use Rattle.asgi_handlers.specs.Params.{Param, params_of}
use Rattle.asgi_routes.specs.Patterns.{AreShown}

abbrev Pair : Type 0
Pair = Bor (List ℕ) × Bor (List ℕ)

abbrev Step : List Param → Option Pair → List Param → Type 0
Step = GivesPair (λ (pair : Pair). (pair.0.now, pair.1.now))

all_shown : (pairs : List Pair) (parts left : List Param) → Yields Step parts pairs left → left ≡ [] → AreShown parts (params_of pairs)
all_shown [] parts left same end = subst (λ (l : List Param). AreShown l []) (sym (same ∙ end)) tt
all_shown (pair ∷ pairs) parts left one end =
    let rest : AreShown one.0 (params_of pairs) = all_shown pairs one.0 left one.2 end in
    let step = one.1 in
    subst (λ (l : List Param). AreShown l (params_of (pair ∷ pairs))) (sym step.1) (step.2, step.3, rest)

-- all pairs were collected
pub collected : (pairs : List Pair) (parts : List Param) → DrainsIf Step ⊤ parts pairs → AreShown parts (params_of pairs)
collected pairs parts is = all_shown pairs parts is.0 is.1 ((is.2 tt).1)

-- texts of parts that are valid UTF-8
pub texts_are : (parts texts : List Param) → AllText parts → AreShown parts texts → texts ≡ parts
texts_are [] [] valid shown = refl
texts_are [] (text ∷ texts) valid shown = absurd shown
texts_are (part ∷ parts) [] valid shown = absurd shown
texts_are (part ∷ parts) (text ∷ texts) valid shown =
    ap (λ (name : List ℕ). (name, text.1) ∷ texts) (shown.0 valid.0) ∙ ap (λ (taken : List ℕ). (part.0, taken) ∷ texts) (shown.1 valid.1)
    ∙ ap (λ (rest : List Param). part ∷ rest) (texts_are parts texts valid.2 shown.2)
