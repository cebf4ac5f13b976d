-- Texts that are written one part after another.
use Rattle.std.proofs.Common.{◌≡◌, ℕ, ◌+◌, ◌≤◌, Bool, true, List, [], ◌∷◌, ◌++◌, length, refl, ap, ◌∙◌, arith, append_assoc, length-append, filter, flat_map}
use Rattle.std.specs.Prelude.{if◌then◌else◌, codes}
use Rattle.std.proofs.lemmas.List.Elements.{filter-append}
use Rattle.std.proofs.lemmas.Grind.{flat_map-append}
use Rattle.httparse.specs.Ascii.{crlf_bytes}
use Rattle.asgi_types.specs.Fields.{HeaderField}
use Rattle.asgi_response.specs.StatusLine.{status_line}
use Rattle.asgi_response.specs.Fields.{is_shown, field_line, field_lines, head_text}

pub five_parts : (o p q r s t a b c d e : List ℕ) → p ≡ o ++ a → q ≡ p ++ b → r ≡ q ++ c → s ≡ r ++ d → t ≡ s ++ e
    → t ≡ o ++ (a ++ b ++ c ++ d ++ e)
five_parts o p q r s t a b c d e pp qq rr ss tt' =
    tt' ∙ ap (λ (x : List ℕ). x ++ e) (ss ∙ ap (λ (x : List ℕ). x ++ d) (rr ∙ ap (λ (x : List ℕ). x ++ c) (qq ∙ ap (λ (x : List ℕ). x ++ b) pp)))
    ∙ simp append_assoc

pub head_parts : (chunked closing : Bool) (status : ℕ) (headers : List HeaderField) (o p q r s t : List ℕ)
    → p ≡ o ++ status_line status → q ≡ p ++ field_lines status headers
    → r ≡ q ++ (if chunked then codes "transfer-encoding: chunked" ++ crlf_bytes else [])
    → s ≡ r ++ (if closing then codes "connection: close" ++ crlf_bytes else [])
    → t ≡ s ++ crlf_bytes → t ≡ o ++ head_text chunked closing status headers
head_parts chunked closing status headers o p q r s t pp qq rr ss tt' =
    five_parts o p q r s t (status_line status) (field_lines status headers)
    (if chunked then codes "transfer-encoding: chunked" ++ crlf_bytes else [])
    (if closing then codes "connection: close" ++ crlf_bytes else []) crlf_bytes pp qq rr ss tt'

-- the lines of more fields are more lines
lines-append : (status : ℕ) (fields more : List HeaderField) → field_lines status (fields ++ more) ≡ field_lines status fields ++ field_lines status more
lines-append status fields more =
    ap (flat_map field_line) (filter-append (λ (f : HeaderField). is_shown status f.name) fields more)
    ∙ flat_map-append field_line (filter (λ (f : HeaderField). is_shown status f.name) fields) (filter (λ (f : HeaderField). is_shown status f.name) more)

first_line : (status : ℕ) (f : HeaderField) (rest : List HeaderField) → is_shown status f.name ≡ true → field_lines status (f ∷ rest) ≡ field_line f ++ field_lines status rest
first_line status f rest h = rw h refl

-- the next line is among those of all fields
pub line_fits : (status : ℕ) (before rest all : List HeaderField) (f : HeaderField) → is_shown status f.name ≡ true → before ++ f ∷ rest ≡ all
    → length (field_lines status before) + length (field_line f) ≤ length (field_lines status all)
line_fits status before rest all f h e =
    let whole : length (field_lines status (before ++ f ∷ rest)) ≡ length (field_lines status all) = ap (λ (l : List HeaderField). length (field_lines status l)) e in
    let split = ap length (lines-append status before (f ∷ rest)) ∙ length-append (field_lines status before) (field_lines status (f ∷ rest)) in
    let first = ap length (first_line status f rest h) ∙ length-append (field_line f) (field_lines status rest) in
    omega (arith, whole, split, first)
