-- What the head of a request holds (RFC 9112, sections 2.3, 3 and 5), by the grammar of `httparse`.
use Rattle.std.specs.Prelude.{◌≡◌, ℕ, zero, suc, ◌≤◌, List, [], length, map, Option, Some, None}
use Rattle.std.specs.Char.{to_ascii_uppercase}
use Rattle.httparse.specs.Grammar.{Field, field_value, RequestHead, ReadsRequest}
use Rattle.asgi_types.specs.declared.outgoing.HttpVersion.{HttpVersion}
use Rattle.asgi_types.specs.declared.outgoing.HttpVersion.TheVariants.{V10, V11}
use Rattle.asgi_types.specs.Fields.{HeaderField, field_of}
use Rattle.asgi_request.specs.declared.head.HeadRecord.{HeadRecord}

-- The text is this head and nothing else, with at most max_headers field lines.
pub record IsHeadOf (max_headers : ℕ) (text : List ℕ) (head : RequestHead) : Type 0 where
  pub reads : ReadsRequest text head []
  pub few : length head.fields ≤ max_headers

-- the field of a field line, without the white space around its value
abbrev pub field_of_line : Field → HeaderField
field_of_line line = field_of line.name (field_value line)

-- HTTP/1.0 or HTTP/1.1, by the minor version
abbrev pub version_of : ℕ → HttpVersion
version_of zero = V10
version_of (suc n) = V11

-- the method in upper case, the target as received, the fields in their order
abbrev pub record_of : RequestHead → HeadRecord
record_of head = record {
  version = version_of head.minor;
  method = map to_ascii_uppercase head.method;
  target = head.target;
  headers = map field_of_line head.fields;
}

-- the record of the head that the text is, or none if it is no head
abbrev pub ParsesHead : ℕ → List ℕ → Option HeadRecord → Type 0
ParsesHead max_headers text None = (head : RequestHead) → ¬ (IsHeadOf max_headers text head)
ParsesHead max_headers text (Some r) = (head : RequestHead) × IsHeadOf max_headers text head × (r ≡ record_of head)
