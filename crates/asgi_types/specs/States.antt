-- A state as a map from names to values (ASGI lifespan protocol 2.0, "Lifespan State").
use Rattle.std.specs.Prelude.{◌≡◌, ℕ, List, [], ◌∷◌, Option, Some, None, if◌then◌else◌}
use Rattle.std.specs.Str.{bytes_eq}
use Rattle.asgi_types.specs.declared.state.StateValue.{StateValue}

-- what the state holds under a name
abbrev pub value_of : List (List ℕ × StateValue) → List ℕ → Option StateValue
value_of [] name = None
value_of (e ∷ es) name = (if bytes_eq e.0 name then Some e.1 else value_of es name)

-- the state with the value under the name: a held name is replaced, a new one comes last
abbrev pub with_value : List (List ℕ × StateValue) → List ℕ → StateValue → List (List ℕ × StateValue)
with_value [] name value = (name, value) ∷ []
with_value (e ∷ es) name value = (if bytes_eq e.0 name then (name, value) ∷ es else e ∷ with_value es name value)

-- no name stands twice
abbrev pub EachNameOnce : List (List ℕ × StateValue) → Type 0
EachNameOnce [] = Unit {0}
EachNameOnce (e ∷ es) = (value_of es e.0 ≡ None) × EachNameOnce es
