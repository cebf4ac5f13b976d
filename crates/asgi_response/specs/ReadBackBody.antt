-- What a recipient reads of a whole response, by the grammars of `httparse` and `http1` (RFC 9112, sections 4 to 7).
use Rattle.std.specs.Prelude.{◌≡◌, ℕ, ◌<◌, ◌^◌, Bool, true, false, List, [], ◌∷◌, ◌++◌, length, map, All, Option, Some, None, is_some, if◌then◌else◌, codes}
use Rattle.std.specs.List.{concat, flat_map}
use Rattle.httparse.specs.Grammar.{Field, LineEnd, crlf, ReadsSection}
use Rattle.httparse.specs.Spans.{name_and_value}
use Rattle.http1.specs.ChunkedBody.{Chunks, AreChunks, ReadsChunks, print_chunks, content}
use Rattle.asgi_types.specs.Fields.{HeaderField}
use Rattle.asgi_types.specs.declared.facts.Facts.{Facts}
use Rattle.asgi_types.specs.declared.outgoing.Outgoing.{Outgoing}
use Rattle.asgi_protocol.specs.ContentLengths.{content_length}
use Rattle.asgi_types.specs.declared.scope.Kind.TheVariants.{WebSocket}
use Rattle.asgi_protocol.specs.Lawful.{IsResponse, IsDenial, IsLawful, Trailers}
use Rattle.asgi_protocol.specs.Rules.{given_length}
use Rattle.asgi_response.specs.Accepted.{accepted}
use Rattle.asgi_response.specs.Denial.{closing_facts, denial_text}
use Rattle.asgi_response.specs.Fields.{is_chunked, closes}
use Rattle.asgi_response.specs.Content.{has_content}
use Rattle.asgi_response.specs.Response.{message_text, sends_trailers}
use Rattle.asgi_response.specs.ReadBack.{IsSendable, IsReadAs, as_read, fields_sent}

-- The bytes begin with a trailer section of exactly these fields, in their order, and the rest follows. There is no other reading:
-- any section that is read from the bytes is this one, and ends where it ends.
pub record IsSectionOf (bytes : List ℕ) (trailers : List HeaderField) (rest : List ℕ) : Type 0 where
  pub fields : List Field
  pub reads : ReadsSection bytes fields crlf rest
  pub named : map name_and_value fields ≡ map as_read trailers
  pub only : (other : List Field) (last : LineEnd) (after : List ℕ) → ReadsSection bytes other last after → (other ≡ fields) × (after ≡ rest)

-- The bytes are chunks without extensions with exactly this content, and a trailer section of these fields. There is no other
-- reading: any chunks read from the bytes, with extensions of any length, have this content and end there.
pub record IsChunked (bytes sent : List ℕ) (trailers : List HeaderField) : Type 0 where
  pub chunks : Chunks
  pub section : List ℕ
  pub well_formed : AreChunks 0 chunks
  pub text : bytes ≡ print_chunks chunks ++ section
  pub carried : content chunks ≡ sent
  pub only : (limit : ℕ) (other : Chunks) (after : List ℕ) → ReadsChunks limit bytes other after → (content other ≡ sent) × (after ≡ section)
  pub ends : IsSectionOf section trailers []

-- the bytes carry exactly this content: chunked, with these trailers after it, or as they are, without any
abbrev pub Carries : Bool → List ℕ → List ℕ → List HeaderField → Type 0
Carries true bytes sent trailers = IsChunked bytes sent trailers
Carries false bytes sent trailers = (bytes ≡ sent) × (trailers ≡ [])

-- all trailer fields that a response has, in order
abbrev pub trailer_fields : Option Trailers → List HeaderField
trailer_fields None = []
trailer_fields (Some t) = flat_map (λ fields. fields) (t.parts ++ t.last ∷ [])

-- the trailer fields that are sent
abbrev pub trailers_sent : Facts → ℕ → List HeaderField → Option Trailers → List HeaderField
trailers_sent facts status headers trailers = if sends_trailers facts status headers (is_some trailers) then trailer_fields trailers else []

-- a size fits 64 bits, as the size of any bytes in memory does
abbrev pub IsSized : List ℕ → Type 0
IsSized body = length body < 2 ^ 64

-- the text of these events is read as the status, the fields, exactly the bytes of the bodies, whose number is the
-- content-length if that is given, and exactly the trailer fields that are sent
pub record IsRead (facts : Facts) (text : List ℕ) (status : ℕ) (headers : List HeaderField) (sent : List ℕ) (trailers : List HeaderField) : Type 0 where
  pub body : List ℕ
  pub head : IsReadAs text status (fields_sent (is_chunked facts.version status headers) (closes facts.close headers) status headers) body
  pub carries : Carries (is_chunked facts.version status headers) body sent trailers
  pub sized : (n : ℕ) → given_length (content_length headers) ≡ Some n → length sent ≡ n

-- The text of a complete response that has content, after any `100 Continue`, is read back if each field can be sent
-- and each body is sized.
abbrev pub ResponseIsReadBack : Type 0
ResponseIsReadBack = (facts : Facts) (events : List Outgoing) (r : IsResponse (accepted facts events))
    → All IsSendable r.headers → All IsSendable (trailer_fields r.trailers) → All IsSized (r.parts ++ r.last ∷ [])
    → has_content facts.head_only r.status ≡ true
    → IsRead facts (message_text facts (accepted facts events)) r.status r.headers (concat (r.parts ++ r.last ∷ [])) (trailers_sent facts r.status r.headers r.trailers)

-- the same for a response with exactly these fields
abbrev pub IsResponseReadBack : List HeaderField → Type 0
IsResponseReadBack headers = (facts : Facts) (events : List Outgoing) (r : IsResponse (accepted facts events))
    → r.headers ≡ headers → All IsSendable (trailer_fields r.trailers) → All IsSized (r.parts ++ r.last ∷ [])
    → has_content facts.head_only r.status ≡ true
    → IsRead facts (message_text facts (accepted facts events)) r.status r.headers (concat (r.parts ++ r.last ∷ [])) (trailers_sent facts r.status r.headers r.trailers)

-- The text of a whole denial that has content is read back as a response is, and has `connection: close`, whatever its
-- fields are.
pub record DenialIsReadBack : Type 0 where
  pub read : (facts : Facts) (events : List Outgoing) (d : IsDenial events) → IsLawful WebSocket facts events
      → All IsSendable d.headers → All IsSized (d.parts ++ d.last ∷ [])
      → has_content facts.head_only d.status ≡ true
      → IsRead (closing_facts facts) (denial_text facts events) d.status d.headers (concat (d.parts ++ d.last ∷ [])) []
  pub closing : (facts : Facts) (status : ℕ) (headers : List HeaderField)
      → (front : List HeaderField) × (fields_sent (is_chunked facts.version status headers) (closes (closing_facts facts).close headers) status headers
      ≡ front ++ (record { name = codes "connection"; value = codes "close" }) ∷ [])
