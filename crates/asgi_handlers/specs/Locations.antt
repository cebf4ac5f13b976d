-- The place of a redirect, as a URI reference (RFC 9110, section 10.2.2; RFC 3986, sections 2.1 to 2.4).
use Rattle.std.specs.Prelude.{ℕ, Bool, ◌||◌, ◌==◌, List, [], ◌∷◌, flat_map, if◌then◌else◌, codes}
use Rattle.std.specs.Char.{is_ascii_alphanumeric}
use Rattle.std.specs.List.{list_any}
use Rattle.percent_encoding.specs.Percent.{percent_encode_byte}

-- What stands in a URI besides letters and digits: the other unreserved characters (2.3), the reserved ones (2.2), and `%`, which
-- begins an octet that was encoded before, since no text is encoded twice (2.4).
abbrev pub uri_marks : List ℕ
uri_marks = codes "-._~:/?#[]@!$&'()*+,;=%"

abbrev pub is_uri_byte : ℕ → Bool
is_uri_byte b = is_ascii_alphanumeric b || list_any (λ c. c == b) uri_marks

-- any other octet is `%` and its two hexadecimal digits (2.1)
abbrev pub uri_octet : ℕ → List ℕ
uri_octet b = if is_uri_byte b then b ∷ [] else percent_encode_byte b

abbrev pub uri_reference : List ℕ → List ℕ
uri_reference bytes = flat_map uri_octet bytes
