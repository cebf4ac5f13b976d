-- The parameters of a path: what a table of routes finds in it.
use Rattle.std.specs.Prelude.{ℕ, List, Option, map, option_map, bytes_eq}
use Rattle.std.specs.Borrow.{Bor}
use Rattle.std.specs.List.{find}

-- a name, and the part of the path that the parameter of this name took
abbrev pub Param : Type 0
Param = List ℕ × List ℕ

-- those that pairs of texts show
abbrev pub params_of : List (Bor (List ℕ) × Bor (List ℕ)) → List Param
params_of pairs = map (λ (pair : Bor (List ℕ) × Bor (List ℕ)). (pair.0.now, pair.1.now)) pairs

-- the part that the first of this name took
abbrev pub param_in : List Param → List ℕ → Option (List ℕ)
param_in params name = option_map (λ (param : Param). param.1) (find (λ (param : Param). bytes_eq param.0 name) params)
