-- Words of the private functions that read a head, which state no promise.
use Rattle.std.specs.Prelude.{ℕ, Bool, ◌||◌, List, bytes_eq, codes}
use Rattle.httparse.specs.declared.spans.HeaderSpan.{HeaderSpan}
use Rattle.httparse.specs.Spans.{span_bytes}
use Rattle.http_header.specs.FieldName.{IsFieldName}
use Rattle.http_header.specs.FieldValue.{IsFieldValue}
use Rattle.asgi_types.specs.Fields.{HeaderField, field_of}

-- the field that the spans cover
abbrev pub field_at : List ℕ → HeaderSpan → HeaderField
field_at text s = field_of (span_bytes text s.name) (span_bytes text s.value)

-- the spans cover a field that can be kept
abbrev pub IsKeepable : List ℕ → HeaderSpan → Type 0
IsKeepable text s = IsFieldName (span_bytes text s.name) × IsFieldValue (span_bytes text s.value)

-- a field of the name says how the body is delimited
abbrev pub is_delimiter : List ℕ → Bool
is_delimiter name = bytes_eq name (codes "content-length") || bytes_eq name (codes "transfer-encoding")
