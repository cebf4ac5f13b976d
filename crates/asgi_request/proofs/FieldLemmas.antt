-- The fields of a head, and those that the application names, are fields that can be kept.
use Rattle.std.proofs.Common.{◌≡◌, ℕ, ◌≤◌, ◌↔◌, ◌∙◌, List, [], ◌∷◌, length, map, All, IsTrue, sym, ap, subst, arith, Result, Err}
use Rattle.std.specs.Result.{IsErrOf}
use Rattle.std.specs.Prelude.{◌-◌, drop, slice_range}
use Rattle.std.proofs.lemmas.List.{length-take, length-drop}
use Rattle.std.proofs.lemmas.List.Elements.{All-nil, All-cons, All-head, All-tail, All-weaker}
use Rattle.http_header.specs.Token.{is_token_byte}
use Rattle.http_header.specs.FieldName.{IsFieldName}
use Rattle.http_header.specs.FieldValue.{IsFieldValue}
use Rattle.httparse.specs.Grammar as grammar
use Rattle.httparse.specs.Grammar.{AllPass, Field, IsField, field_value}
use Rattle.httparse.specs.declared.spans.HeaderSpan.{HeaderSpan}
use Rattle.httparse.specs.Spans.{span_bytes, header_bytes, name_and_value}
use Rattle.httparse.proofs.TrimLemmas.{AllPass-trim_ows}
use Rattle.asgi_request.specs.private.Steps.{IsKeepable}
use Rattle.asgi_types.specs.declared.headers.HeaderError.{HeaderError}
use Rattle.asgi_types.specs.declared.headers.HeaderError.TheVariants.{BadName, BadValue}

is_err : (r : Result (Unit {0}) HeaderError) (e f : HeaderError) → r ≡ Err e → e ≡ f → IsErrOf r f
is_err r e f is same = is ∙ ap Err same

-- a name that can be kept is never refused
pub never_bad_name : (r : Result (Unit {0}) HeaderError) (e : HeaderError) (name : List ℕ) → r ≡ Err e → e ≡ BadName
    → (IsErrOf r BadName ↔ ((IsFieldName name) → ⊥)) → IsFieldName name → ⊥
never_bad_name r e name is same clause good = clause.0 (is_err r e BadName is same) good

-- nor is a value
pub never_bad_value : (r : Result (Unit {0}) HeaderError) (e : HeaderError) (name value : List ℕ) → r ≡ Err e → e ≡ BadValue
    → (IsErrOf r BadValue ↔ (IsFieldName name × ((IsFieldValue value) → ⊥))) → IsFieldValue value → ⊥
never_bad_value r e name value is same clause good = (clause.0 (is_err r e BadValue is same)).1 good

-- ---- the fields of a head

-- the two crates name the same token bytes
same_token_byte : (b : ℕ) → IsTrue (grammar.is_token_byte b) → IsTrue (is_token_byte b)
unfolding is_token_byte grammar.is_token_byte
same_token_byte b h = h

name_of_token : (name : List ℕ) → grammar.IsToken name → length name ≤ 65535 → IsFieldName name
name_of_token name t short = ((t.0, All-weaker (λ b. IsTrue (grammar.is_token_byte b)) (λ b. IsTrue (is_token_byte b)) same_token_byte name t.1), short)

short_range : (text : List ℕ) (i j : ℕ) → length (slice_range text i j) ≤ length text
short_range text i j = omega (arith, length-take (j - i) (drop i text), length-drop i text)

keepable_one : (text : List ℕ) (s : HeaderSpan) (f : Field) → header_bytes text s ≡ name_and_value f → IsField f → length text ≤ 65535 → IsKeepable text s
keepable_one text s f e good short =
    let name : span_bytes text s.name ≡ f.name = ap (λ (p : List ℕ × List ℕ). p.0) e in
    let value : span_bytes text s.value ≡ field_value f = ap (λ (p : List ℕ × List ℕ). p.1) e in
    let token = subst (λ (l : List ℕ). grammar.IsToken l) (sym name) good.name in
    let trimmed = subst (λ (l : List ℕ). AllPass grammar.is_value_byte l) (sym value) (AllPass-trim_ows grammar.is_value_byte f.raw good.raw) in
    let fits = short_range text s.name.start s.name.end in
    (name_of_token (span_bytes text s.name) token (omega (arith, fits, short)), trimmed)

-- each field of a head of the grammar can be kept
pub fields_keepable : (text : List ℕ) (spans : List HeaderSpan) (fields : List Field)
    → map (header_bytes text) spans ≡ map name_and_value fields → All IsField fields → length text ≤ 65535 → All (IsKeepable text) spans
fields_keepable text [] fields e all short = All-nil (IsKeepable text)
fields_keepable text (s ∷ spans) [] e all short = cc
fields_keepable text (s ∷ spans) (f ∷ fields) e all short =
    All-cons (IsKeepable text) s spans
    (keepable_one text s f (cc) (All-head IsField f fields all) short)
    (fields_keepable text spans fields (cc) (All-tail IsField f fields all) short)
