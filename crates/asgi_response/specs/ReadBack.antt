-- What a recipient reads of the head of a response, by the grammar of `httparse` (RFC 9112, sections 4 and 5).
use Rattle.std.specs.Prelude.{◌≡◌, ℕ, ◌≤◌, Bool, List, [], ◌∷◌, ◌++◌, map, if◌then◌else◌, codes, All}
use Rattle.std.specs.List.{filter}
use Rattle.httparse.specs.Grammar.{AllPass, IsToken, ResponseHead, ReadsResponse, is_value_byte, status_code, trim_ows}
use Rattle.httparse.specs.Spans.{name_and_value}
use Rattle.asgi_types.specs.Fields.{HeaderField}
use Rattle.asgi_response.specs.Fields.{is_shown, head_text}

-- a field that can be sent, as each field of a `Headers` can
pub record IsSendable (f : HeaderField) : Type 0 where
  pub name : IsToken f.name
  pub value : AllPass is_value_byte f.value

-- the application's fields, less those that the text leaves out, and the server's own
abbrev pub fields_sent : Bool → Bool → ℕ → List HeaderField → List HeaderField
fields_sent chunked closing status headers =
    filter (λ f. is_shown status f.name) headers
    ++ (if chunked then (record { name = codes "transfer-encoding"; value = codes "chunked" }) ∷ [] else [])
    ++ (if closing then (record { name = codes "connection"; value = codes "close" }) ∷ [] else [])

-- a field as it is read: without the whitespace around its value
abbrev pub as_read : HeaderField → List ℕ × List ℕ
as_read f = (f.name, trim_ows f.value)

-- The bytes begin with the head of a response with this status and exactly these fields, and the rest follows. There is no other
-- reading: any head that is read from the bytes is this one, and ends where it ends.
pub record IsReadAs (bytes : List ℕ) (status : ℕ) (fields : List HeaderField) (rest : List ℕ) : Type 0 where
  pub head : ResponseHead
  pub reads : ReadsResponse bytes head rest
  pub code : status_code head ≡ status
  pub named : map name_and_value head.fields ≡ map as_read fields
  pub only : (other : ResponseHead) (after : List ℕ) → ReadsResponse bytes other after → (other ≡ head) × (after ≡ rest)

-- the head of a response with these fields is read back: no value can add a line to it
abbrev pub IsHeadReadBack : List HeaderField → Type 0
IsHeadReadBack headers = (chunked closing : Bool) (status : ℕ) (rest : List ℕ) → 200 ≤ status → status ≤ 599
    → IsReadAs (head_text chunked closing status headers ++ rest) status (fields_sent chunked closing status headers) rest

-- the same for all fields that can be sent
abbrev pub HeadIsReadBack : Type 0
HeadIsReadBack = (headers : List HeaderField) → All IsSendable headers → IsHeadReadBack headers
