-- Whether a text is a size line or a trailer section, as tests that compute (RFC 9112, sections 7.1 and 7.1.2): words of
-- `BodyOf.antt`. By the law `body_texts_are_decided` the tests agree with the grammar.
use Rattle.std.specs.Prelude.{ℕ, zero, suc, Bool, false, ◌&&◌, ◌||◌, ◌==◌, nat_lt, nat_le, List, [], ◌∷◌, length, bytes_eq, if◌then◌else◌, Option, Some, None}
use Rattle.std.specs.Str.Parse.{digits_value}
use Rattle.std.specs.Char.{is_ascii_hexdigit}
use Rattle.httparse.specs.Ascii.{line_feed, carriage_return, colon, semicolon, crlf_bytes}
use Rattle.httparse.specs.Grammar.{is_token_byte, is_value_byte, is_ows, is_extension_byte}

-- the bytes at the front that pass the test
abbrev pub run_of : (ℕ → Bool) → List ℕ → List ℕ
run_of test [] = []
run_of test (b ∷ bytes) = if test b then b ∷ run_of test bytes else []

-- the bytes from the first that fails the test
abbrev pub after_run : (ℕ → Bool) → List ℕ → List ℕ
after_run test [] = []
after_run test (b ∷ bytes) = if test b then after_run test bytes else b ∷ bytes

-- ---- a size line: chunk-size [ chunk-ext ] CRLF; blanks are accepted after the size

-- the most digits that a size has
abbrev pub most_digits : ℕ
most_digits = 16

-- [ chunk-ext ] CRLF, and nothing more
abbrev pub is_line_rest : List ℕ → Bool
is_line_rest [] = false
is_line_rest (b ∷ bytes) = bytes_eq (if b == semicolon then after_run is_extension_byte bytes else b ∷ bytes) crlf_bytes

-- the size that the digits give, if there are some, not too many, and the rest of the line is right
abbrev pub size_of : List ℕ → Bool → Option ℕ
size_of digits rest_is = if nat_lt 0 (length digits) && (nat_le (length digits) most_digits && rest_is) then Some (digits_value 16 digits) else None

-- the size that the text announces, or none if it is no size line
abbrev pub size_in : List ℕ → Option ℕ
size_in text = size_of (run_of is_ascii_hexdigit text) (is_line_rest (after_run is_ows (after_run is_ascii_hexdigit text)))

-- ---- a trailer section: *( field-line CRLF ) CRLF; a line may also end with LF alone

-- an empty line, and nothing more
abbrev pub is_empty_line : List ℕ → Bool
is_empty_line text = bytes_eq text crlf_bytes || bytes_eq text (line_feed ∷ [])

-- the bytes after a line feed, if the text begins with one
abbrev pub after_feed : List ℕ → Option (List ℕ)
after_feed [] = None
after_feed (b ∷ bytes) = if b == line_feed then Some bytes else None

-- the bytes after a line end
abbrev pub after_end : List ℕ → Option (List ℕ)
after_end [] = None
after_end (b ∷ bytes) = if b == carriage_return then after_feed bytes else after_feed (b ∷ bytes)

-- the bytes after a colon, a value and a line end
abbrev pub after_value : List ℕ → Option (List ℕ)
after_value [] = None
after_value (b ∷ bytes) = if b == colon then after_end (after_run is_value_byte bytes) else None

-- the bytes after a field line
abbrev pub after_field : List ℕ → Option (List ℕ)
after_field text = if nat_lt 0 (length (run_of is_token_byte text)) then after_value (after_run is_token_byte text) else None

-- there are bytes, and they pass the test
abbrev pub holds_of : (List ℕ → Bool) → Option (List ℕ) → Bool
holds_of test None = false
holds_of test (Some bytes) = test bytes

-- the text is at most n field lines and an empty line
abbrev pub is_section : ℕ → List ℕ → Bool
is_section zero text = is_empty_line text
is_section (suc n) text = is_empty_line text || holds_of (is_section n) (after_field text)
