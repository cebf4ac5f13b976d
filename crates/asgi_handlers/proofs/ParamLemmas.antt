-- A parameter by its name, among pairs of texts and among what they show.
use Rattle.std.proofs.Common.{◌≡◌, ℕ, Bool, true, false, cond, List, [], ◌∷◌, Option, Some, None, refl, ap, sym, ◌∙◌}
use Rattle.std.specs.Prelude.{option_map, bytes_eq}
use Rattle.std.specs.Borrow.{Bor}
use Rattle.std.specs.List.{find}
use Rattle.asgi_handlers.specs.Params.{Param, param_in, params_of}

abbrev Pair : Type 0
Pair = Bor (List ℕ) × Bor (List ℕ)

abbrev shown : Pair → Param
shown pair = (pair.0.now, pair.1.now)

one_more : (test : Bool) (pair : Pair) (rest : Option Param) (found : Option Pair) → rest ≡ option_map shown found
    → cond test (Some (shown pair)) rest ≡ option_map shown (cond test (Some pair) found)
one_more true pair rest found is = refl
one_more false pair rest found is = is

found_shown : (name : List ℕ) (pairs : List Pair)
    → find (λ (param : Param). bytes_eq param.0 name) (params_of pairs) ≡ option_map shown (find (λ (pair : Pair). bytes_eq pair.0.now name) pairs)
found_shown name [] = refl
found_shown name (pair ∷ pairs) =
    one_more (bytes_eq pair.0.now name) pair (find (λ (param : Param). bytes_eq param.0 name) (params_of pairs)) (find (λ (pair : Pair). bytes_eq pair.0.now name) pairs)
    (found_shown name pairs)

twice : (found : Option Pair) → option_map (λ (param : Param). param.1) (option_map shown found) ≡ option_map (λ (pair : Pair). pair.1.now) found
twice None = refl
twice (Some pair) = refl

-- the part of the pair that was found is that of the parameter
pub part_found : (name : List ℕ) (pairs : List Pair) (found : Option Pair) → found ≡ find (λ (pair : Pair). bytes_eq pair.0.now name) pairs
    → option_map (λ (pair : Pair). pair.1.now) found ≡ param_in (params_of pairs) name
part_found name pairs found is =
    sym (ap (λ (f : Option Param). option_map (λ (param : Param). param.1) f) (found_shown name pairs)
    ∙ twice (find (λ (pair : Pair). bytes_eq pair.0.now name) pairs)
    ∙ ap (λ (f : Option Pair). option_map (λ (pair : Pair). pair.1.now) f) (sym is))
