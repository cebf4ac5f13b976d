-- The fields that the spans cover are those of the head.
use Rattle.std.proofs.Common.{◌≡◌, ℕ, zero, suc, ◌<◌, ◌≤◌, length, take, subst, arith, List, [], ◌∷◌, map, refl, sym, ap, ◌∙◌, Option, Some, None}
use Rattle.std.specs.Prelude.{IsSome}
use Rattle.std.proofs.lemmas.List.{length-map, length-take, drop_all}
use Rattle.httparse.specs.Grammar.{Field, RequestHead, ReadsRequest}
use Rattle.httparse.specs.declared.spans.HeaderSpan.{HeaderSpan}
use Rattle.httparse.specs.declared.spans.RequestSpans.{RequestSpans}
use Rattle.httparse.specs.Spans.{header_bytes, name_and_value, IsRequestAt}
use Rattle.asgi_types.specs.Fields.{HeaderField, field_of}
use Rattle.asgi_types.specs.declared.outgoing.HttpVersion.TheVariants.{V10, V11}
use Rattle.asgi_request.specs.declared.head.HeadRecord.{HeadRecord}
use Rattle.asgi_request.specs.Head.{IsHeadOf, ParsesHead, field_of_line, version_of}
use Rattle.asgi_request.specs.private.Steps.{field_at}

pair_field : List ℕ × List ℕ → HeaderField
pair_field p = field_of p.0 p.1

of_spans : (text : List ℕ) (spans : List HeaderSpan) → map (field_at text) spans ≡ map pair_field (map (header_bytes text) spans)
unfolding pair_field
of_spans text [] = refl
of_spans text (s ∷ spans) = ap (λ hs. field_at text s ∷ hs) (of_spans text spans)

of_lines : (fields : List Field) → map field_of_line fields ≡ map pair_field (map name_and_value fields)
unfolding pair_field
of_lines [] = refl
of_lines (f ∷ fields) = ap (λ hs. field_of_line f ∷ hs) (of_lines fields)

pub same_fields : (text : List ℕ) (spans : List HeaderSpan) (fields : List Field)
    → map (header_bytes text) spans ≡ map name_and_value fields → map (field_at text) spans ≡ map field_of_line fields
same_fields text spans fields e = of_spans text spans ∙ ap (map pair_field) e ∙ sym (of_lines fields)

pub version_of-zero : (n : ℕ) → n ≡ 0 → version_of n ≡ V10
version_of-zero zero e = refl
version_of-zero (suc n) e = absurd (omega (arith, e))

pub version_of-above : (n : ℕ) → 0 < n → version_of n ≡ V11
version_of-above zero h = absurd (omega (arith, h))
version_of-above (suc n) h = refl

pub few_fields : (text : List ℕ) (spans : List HeaderSpan) (count : ℕ) (fields : List Field)
    → map (header_bytes text) (take count spans) ≡ map name_and_value fields → length fields ≤ length spans
few_fields text spans count fields e = omega (arith, simp (length-map, length-take) at (ap length e))

pub head_of_whole : (max_headers : ℕ) (text : List ℕ) (spans : List HeaderSpan) (r : RequestSpans) (h : RequestHead)
    → r.len ≡ length text → length spans ≤ max_headers → IsRequestAt text spans r h → IsHeadOf max_headers text h
head_of_whole max_headers text spans r h len room at =
    let none = drop_all r.len text (omega arith) in
    let few = few_fields text spans r.headers h.fields at.fields in
    record {
      reads = subst (λ (rest : List ℕ). ReadsRequest text h rest) none at.reads;
      few = omega arith;
    }

-- a head of few fields is one of more
pub more_room : (few most : ℕ) (text : List ℕ) (found : Option HeadRecord) → few ≤ most → IsSome found → ParsesHead few text found
    → ParsesHead most text found
more_room few most text None room is parses = cc
more_room few most text (Some r) room is parses =
    (parses.0, record { reads = parses.1.reads; few = omega (arith, room, parses.1.few) }, parses.2)
