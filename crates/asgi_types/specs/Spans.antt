-- Where each header field stands in the text that `Headers` keeps.
use Rattle.std.specs.Prelude.{ℕ, ◌+◌, ◌≤◌, List, length, map, slice_range, All}
use Rattle.asgi_types.specs.declared.headers.Span.{Span}
use Rattle.asgi_types.specs.Fields.{HeaderField, IsValidField}

-- the span lies in the first n bytes
pub record IsSpanIn (n : ℕ) (p : Span) : Type 0 where
  pub name : p.start ≤ p.middle
  pub value : p.middle ≤ p.end
  pub inside : p.end ≤ n

-- the field at a span of the text
abbrev pub field_at : List ℕ → Span → HeaderField
field_at text p = record { name = slice_range text p.start p.middle; value = slice_range text p.middle p.end }

-- the span of a name and a value after n bytes
abbrev pub span_after : ℕ → List ℕ → List ℕ → Span
span_after n name value =
    record { start = n; middle = n + length name; end = n + length name + length value }

-- the spans lie in the text, and what stands there are valid fields
pub record HoldsFields (text : List ℕ) (spans : List Span) : Type 0 where
  pub inside : All (IsSpanIn (length text)) spans
  pub valid : All IsValidField (map (field_at text) spans)
