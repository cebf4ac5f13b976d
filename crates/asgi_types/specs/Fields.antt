-- Header fields as they are kept (RFC 9110, sections 5.1 and 5.5).
use Rattle.std.specs.Prelude.{◌≡◌, ℕ, ◌≤◌, List, length}
use Rattle.std.specs.Borrow.{Bor}
use Rattle.http_header.specs.Token.{IsToken, lowercase}
use Rattle.http_header.specs.FieldValue.{IsFieldValue}

-- one field: its name, in lower case, and its value
pub record HeaderField : Type 0 where
  pub name : List ℕ
  pub value : List ℕ

-- a valid field: no byte of it ends its line
pub record IsValidField (f : HeaderField) : Type 0 where
  -- field-name = token (5.1); it is kept in lower case, and its length is limited
  pub name : IsToken f.name
  pub in_lower_case : lowercase f.name ≡ f.name
  pub within_limit : length f.name ≤ 65535
  -- the value has no control byte but the tab (5.5)
  pub value : IsFieldValue f.value

-- the field of a name that may be in any case
abbrev pub field_of : List ℕ → List ℕ → HeaderField
field_of name value = record { name = lowercase name; value = value }

-- the field that a pair of slices shows
abbrev pub shown : Bor (List ℕ) × Bor (List ℕ) → HeaderField
shown pair = record { name = pair.0.now; value = pair.1.now }
