-- Fields by their names (RFC 9110, section 5.1).
use Rattle.std.specs.Prelude.{ℕ, Bool, List, [], ◌∷◌, bytes_eq, nat_lt, if◌then◌else◌}
use Rattle.std.specs.List.{count_by}
use Rattle.asgi_types.specs.Fields.{HeaderField}

-- how many fields have the name
abbrev pub count_named : List HeaderField → List ℕ → ℕ
count_named fields name = count_by (λ f. bytes_eq f.name name) fields

-- the field is there
abbrev pub has_field : List HeaderField → List ℕ → Bool
has_field fields name = nat_lt 0 (count_named fields name)

-- the value of the first field of the name, or nothing if there is none
abbrev pub value_named : List HeaderField → List ℕ → List ℕ
value_named [] name = []
value_named (f ∷ fields) name = if bytes_eq f.name name then f.value else value_named fields name
