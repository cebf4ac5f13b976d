-- The tokens that the fields of a name list (RFC 9110, sections 5.1 and 5.6.1).
use Rattle.std.specs.Prelude.{ℕ, Bool, ◌&&◌, not, List, length, ◌==◌, bytes_eq, map}
use Rattle.std.specs.List.{list_any, slice_split}
use Rattle.std.specs.Char.{to_ascii_lowercase}
use Rattle.httparse.specs.Ascii.{comma}
use Rattle.httparse.specs.Grammar.{trim_ows}
use Rattle.asgi_types.specs.Fields.{HeaderField}

-- equal but for the case of ASCII letters
abbrev pub same_ignoring_case : List ℕ → List ℕ → Bool
same_ignoring_case a b = bytes_eq (map to_ascii_lowercase a) (map to_ascii_lowercase b)

-- the part is the token, without the spaces and tabs at its ends; an empty part is no element of the list (section 5.6.1.2)
abbrev pub is_element : List ℕ → List ℕ → Bool
is_element part token = not (length (trim_ows part) == 0) && same_ignoring_case (trim_ows part) token

-- the token is among the parts between commas
abbrev pub lists_token : List ℕ → List ℕ → Bool
lists_token value token = list_any (λ part. is_element part token) (slice_split (λ b. b == comma) value)

-- the field has the name, and lists the token
abbrev pub is_listed : HeaderField → List ℕ → List ℕ → Bool
is_listed f name token = bytes_eq f.name name && lists_token f.value token

-- a field of the name lists the token
abbrev pub has_token : List HeaderField → List ℕ → List ℕ → Bool
has_token fields name token = list_any (λ f. is_listed f name token) fields
