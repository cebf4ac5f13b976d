-- A text that grows keeps the fields that it has, and has the new one at its end.
use Rattle.std.proofs.Common.{◌≡◌, ℕ, ◌+◌, ◌-◌, ◌≤◌, List, [], ◌∷◌, ◌++◌, length, take, drop, refl, ap, ◌∙◌, arith, All, append_assoc, length-append}
use Rattle.std.specs.Prelude.{map, slice_range}
use Rattle.std.proofs.lemmas.List.{take-append-le, drop-append-le, length-drop, length-map, map-append, append-nil}
use Rattle.std.proofs.lemmas.List.Elements.{All-head, All-tail, All-same, All-push, All-weaker}
use Rattle.std.proofs.Math.Seq.{take-append_seam, drop-append_seam}
use Rattle.http_header.specs.Token.{lowercase}
use Rattle.http_header.specs.FieldName.{IsFieldName}
use Rattle.http_header.specs.FieldValue.{IsFieldValue}
use Rattle.asgi_types.specs.declared.headers.Span.{Span}
use Rattle.asgi_types.specs.Fields.{HeaderField, IsValidField, field_of}
use Rattle.asgi_types.specs.Spans.{HoldsFields, IsSpanIn, field_at, span_after}
use Rattle.asgi_types.proofs.FieldLemmas.{valid-field_of}

-- a range stays if more bytes follow
slice_range-append : (s t : List ℕ) (i j : ℕ) → i ≤ j → j ≤ length s → slice_range (s ++ t) i j ≡ slice_range s i j
slice_range-append s t i j ordered inside =
    let far : i ≤ length s = omega arith in
    let fits : j - i ≤ length (drop i s) = omega (arith, length-drop i s) in
    ap (take (j - i)) (drop-append-le i s t far) ∙ take-append-le (j - i) (drop i s) t fits

-- the range after s that a takes
slice_range-seam : (s a b : List ℕ) (n m : ℕ) → n ≡ length s → m ≡ n + length a → slice_range (s ++ (a ++ b)) n m ≡ a
slice_range-seam s a b n m at to =
    let size : m - n ≡ length a = omega arith in
    ap (λ k. take (m - n) (drop k (s ++ (a ++ b)))) at ∙ ap (take (m - n)) (drop-append_seam s (a ++ b))
    ∙ ap (λ k. take k (a ++ b)) size ∙ take-append_seam a b

-- the fields of a text stay if more bytes follow
pub fields-append : (text more : List ℕ) (spans : List Span) → All (IsSpanIn (length text)) spans
    → map (field_at (text ++ more)) spans ≡ map (field_at text) spans
fields-append text more [] all = refl
fields-append text more (p ∷ spans) all =
    let at = All-head (IsSpanIn (length text)) p spans all in
    let middle : p.middle ≤ length text = omega (arith, at.value, at.inside) in
    let name = slice_range-append text more p.start p.middle at.name middle in
    let value = slice_range-append text more p.middle p.end at.value at.inside in
    let rest = fields-append text more spans (All-tail (IsSpanIn (length text)) p spans all) in
    cc (name, value, rest)

-- the field that was appended
new_field : (text name value : List ℕ) → field_at (text ++ (lowercase name ++ value)) (span_after (length text) name value) ≡ field_of name value
new_field text name value =
    let size : length (lowercase name) ≡ length name = simp length-map in
    let first = slice_range-seam text (lowercase name) value (length text) (length text + length name) refl (omega (arith, size)) in
    let second = ap (λ l. slice_range l (length text + length name) (length text + length name + length value))
    (regroup text (lowercase name) value) ∙ slice_range-seam (text ++ lowercase name) value [] (length text + length name) (length text + length name + length value) (omega (arith, size, joined)) refl in
    cc (first, second)
  where
    joined : length (text ++ lowercase name) ≡ length text + length (lowercase name)
    joined = simp length-append

    regroup : (a b c : List ℕ) → a ++ (b ++ c) ≡ (a ++ b) ++ (c ++ [])
    regroup a b c = simp (append_assoc, append-nil)

-- the fields of the text with a name and a value after it
pub fields-push : (old : List HeaderField) (text new_text name value : List ℕ) (spans new_spans : List Span)
    → All (IsSpanIn (length text)) spans → map (field_at text) spans ≡ old
    → new_text ≡ text ++ (lowercase name ++ value) → new_spans ≡ spans ++ span_after (length text) name value ∷ []
    → map (field_at new_text) new_spans ≡ old ++ field_of name value ∷ []
fields-push old text new_text name value spans new_spans all view texts after =
    let span = span_after (length text) name value in
    ap (λ (t : List ℕ). map (field_at t) new_spans) texts
    ∙ ap (map (field_at (text ++ (lowercase name ++ value)))) after
    ∙ map-append (field_at (text ++ (lowercase name ++ value))) spans (span ∷ [])
    ∙ ap (λ (fs : List HeaderField). fs ++ field_at (text ++ (lowercase name ++ value)) span ∷ []) (fields-append text (lowercase name ++ value) spans all ∙ view)
    ∙ ap (λ (f : HeaderField). old ++ f ∷ []) (new_field text name value)

-- ---- what a push keeps

-- spans stay inside when the text grows, and the new one is at its end
inside-push : (n m : ℕ) (name value : List ℕ) (spans : List Span) → m ≡ n + (length name + length value)
    → All (IsSpanIn n) spans → All (IsSpanIn m) (spans ++ span_after n name value ∷ [])
inside-push n m name value spans size all =
    All-push (IsSpanIn m) spans (span_after n name value)
    (All-weaker (IsSpanIn n) (IsSpanIn m) (λ p at. record { name = at.name; value = at.value; inside = omega (arith, at.inside, size) }) spans all)
    (record { name = omega arith; value = omega arith; inside = omega (arith, size) })

pub holds-push : (text new_text name value : List ℕ) (spans new_spans : List Span) → IsFieldName name → IsFieldValue value
    → HoldsFields text spans
    → new_text ≡ text ++ (lowercase name ++ value) → new_spans ≡ spans ++ span_after (length text) name value ∷ []
    → HoldsFields new_text new_spans
holds-push text new_text name value spans new_spans named valued h texts after =
    let old : List HeaderField = map (field_at text) spans in
    record {
      inside = All-same (IsSpanIn (length new_text)) new_spans (spans ++ span_after (length text) name value ∷ []) after
          (inside-push (length text) (length new_text) name value spans (ap length texts ∙ size) h.inside);
      valid = All-same IsValidField (map (field_at new_text) new_spans) (old ++ field_of name value ∷ [])
          (fields-push old text new_text name value spans new_spans h.inside refl texts after)
          (All-push IsValidField old (field_of name value) h.valid (valid-field_of name value named valued));
    }
  where
    size : length (text ++ (lowercase name ++ value)) ≡ length text + (length name + length value)
    size = simp (length-append, length-map)
