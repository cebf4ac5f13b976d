-- The length that a response gives for its content (RFC 9110, section 8.6).
use Rattle.std.specs.Prelude.{ℕ, List, [], ◌∷◌, Option, Some, None, if◌then◌else◌, codes, bytes_eq}
use Rattle.asgi_types.specs.Fields.{HeaderField}
use Rattle.asgi_types.specs.Lengths.{length_of_text}
use Rattle.asgi_protocol.specs.declared.content_length.ContentLength.{ContentLength}
use Rattle.asgi_protocol.specs.declared.content_length.ContentLength.TheVariants.{Absent, Given, Faulty}

-- the values of the fields with this name; names are in lower case, as `Headers` keeps them
abbrev pub values_of : List HeaderField → List ℕ → List (List ℕ)
values_of [] name = []
values_of (field ∷ fields) name = if bytes_eq field.name name then field.value ∷ values_of fields name else values_of fields name

abbrev pub length_of_value : Option ℕ → ContentLength
length_of_value None = Faulty
length_of_value (Some n) = Given n

-- one field at most, of 1 to 19 digits
abbrev pub length_of_values : List (List ℕ) → ContentLength
length_of_values [] = Absent
length_of_values (value ∷ []) = length_of_value (length_of_text value)
length_of_values (value ∷ another ∷ values) = Faulty

abbrev pub content_length : List HeaderField → ContentLength
content_length headers = length_of_values (values_of headers (codes "content-length"))
