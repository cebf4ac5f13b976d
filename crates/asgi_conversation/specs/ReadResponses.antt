-- The responses of a connection, as a recipient reads them back one after another by the grammars of `httparse` and `http1`
-- (RFC 9112, sections 4 to 7 and 9.3.2).
use Rattle.std.specs.Prelude.{◌≡◌, ℕ, Bool, true, false, List, [], ◌∷◌, ◌++◌, length, All, Option, Some, None, codes, ◌==◌, if◌then◌else◌}
use Rattle.std.specs.List.{concat}
use Rattle.http1.specs.ChunkedBody.{Chunks, ReadsChunks, content}
use Rattle.asgi_types.specs.Fields.{HeaderField, field_of}
use Rattle.asgi_types.specs.Tokens.{has_token}
use Rattle.asgi_types.specs.declared.outgoing.Outgoing.{Outgoing}
use Rattle.asgi_types.specs.declared.outgoing.Outgoing.TheVariants.{ResponseStart, ResponseBody, ResponseTrailers}
use Rattle.asgi_protocol.specs.ContentLengths.{content_length}
use Rattle.asgi_protocol.specs.Lawful.{IsResponse}
use Rattle.asgi_protocol.specs.Rules.{given_length}
use Rattle.asgi_response.specs.Content.{has_content}
use Rattle.asgi_response.specs.Fields.{is_chunked, closes}
use Rattle.asgi_response.specs.ReadBack.{IsReadAs, IsSendable, fields_sent}
use Rattle.asgi_response.specs.ReadBackBody.{IsSized, IsSectionOf, trailers_sent}
use Rattle.asgi_conversation.specs.ExchangeRecord.{ExchangeRecord}

-- ---- the content of a response

-- The bytes begin with chunks that carry exactly this content, then a trailer section of these fields, then the rest. There is no
-- other reading: whatever chunks are read of the bytes carry this and end there, and whatever section is read after them is this one.
pub record ReadsChunked (bytes sent : List ℕ) (trailers : List HeaderField) (rest : List ℕ) : Type 0 where
  pub chunks : Chunks
  pub section : List ℕ
  pub reads : ReadsChunks 0 bytes chunks section
  pub carried : content chunks ≡ sent
  pub only : (limit : ℕ) (other : Chunks) (after : List ℕ) → ReadsChunks limit bytes other after → (content other ≡ sent) × (after ≡ section)
  pub ends : IsSectionOf section trailers rest

-- Where the content ends (section 6.3), by whether there is any, whether it is chunked, whether the connection closes, and
-- the length that is given. Chunked content alone has trailers after it (section 7.1.2).
abbrev pub IsDelimited : (has_any chunked closing : Bool) → Option ℕ → List ℕ → (sent : List ℕ) → (trailers : List HeaderField) → (rest : List ℕ) → Type 0
-- rule 1: an answer to HEAD, 204 and 304 end with the head, whatever its fields are
IsDelimited false chunked closing given bytes sent trailers rest = (trailers ≡ []) × (bytes ≡ rest)
-- rule 4
IsDelimited true true closing given bytes sent trailers rest = ReadsChunked bytes sent trailers rest
-- rule 6
IsDelimited true false closing (Some n) bytes sent trailers rest = (trailers ≡ []) × (length sent ≡ n) × (bytes ≡ sent ++ rest)
-- rule 8: it goes on until the connection closes
IsDelimited true false closing None bytes sent trailers rest = (trailers ≡ []) × (closing ≡ true) × (bytes ≡ sent) × (rest ≡ [])

-- the fields say that the content is chunked (section 6.1), and that the connection closes (section 9.6)
abbrev pub says_chunked : List HeaderField → Bool
says_chunked fields = has_token fields (codes "transfer-encoding") (codes "chunked")

abbrev pub says_close : List HeaderField → Bool
says_close fields = has_token fields (codes "connection") (codes "close")

-- The bytes begin with this content and these trailers, and then the rest: the end of the content depends on the fields that
-- were read, and on whether there is any.
abbrev pub ReadsContent : (has_any : Bool) → List HeaderField → List ℕ → (sent : List ℕ) → (trailers : List HeaderField) → (rest : List ℕ) → Type 0
ReadsContent has_any fields bytes sent trailers rest =
    IsDelimited has_any (says_chunked fields) (says_close fields) (given_length (content_length fields)) bytes sent trailers rest

-- ---- one response

-- the interim response, if the client waits for it: the status 100, and no fields (RFC 9110, section 15.2.1)
abbrev pub ReadsContinue : Bool → List ℕ → List ℕ → Type 0
ReadsContinue true bytes rest = IsReadAs bytes 100 [] rest
ReadsContinue false bytes rest = bytes ≡ rest

-- The bytes begin with the response of this exchange, and then the rest: what is read is its status, its fields, the bytes of
-- its bodies and the trailer fields that are sent, and nothing else can be.
pub record ReadsAnswer (bytes : List ℕ) (x : ExchangeRecord) (rest : List ℕ) : Type 0 where
  pub response : IsResponse x.said
  -- the application's fields, and those that the server adds
  pub fields : List HeaderField
  pub fields_are : fields ≡ fields_sent (is_chunked x.facts.version response.status response.headers) (closes x.facts.close response.headers) response.status response.headers
  pub final : List ℕ
  pub interim : ReadsContinue x.facts.expect bytes final
  pub after : List ℕ
  pub head : IsReadAs final response.status fields after
  -- the recipient knows whether the request was HEAD
  pub body : ReadsContent (has_content x.facts.head_only response.status) fields after (concat (response.parts ++ response.last ∷ []))
      (trailers_sent x.facts response.status response.headers response.trailers) rest

-- ---- one after another

-- The bytes are the responses of these exchanges, in order, and then the rest.
abbrev pub AreRead : List ℕ → List ExchangeRecord → List ℕ → Type 0
AreRead bytes [] rest = bytes ≡ rest
AreRead bytes (x ∷ exchanges) rest = (after : List ℕ) × ReadsAnswer bytes x after × AreRead after exchanges rest

-- the fields of a refusal; 426 also names what is served (RFC 9110, section 15.5.22; RFC 6455, section 4.4)
abbrev pub refusal_fields : ℕ → List HeaderField
refusal_fields status =
    if status == 426
    then field_of (codes "upgrade") (codes "websocket") ∷ field_of (codes "sec-websocket-version") (codes "13") ∷ field_of (codes "content-length") (codes "0")
    ∷ field_of (codes "connection") (codes "upgrade, close") ∷ []
    else field_of (codes "content-length") (codes "0") ∷ field_of (codes "connection") (codes "close") ∷ []

-- ---- what can be read back

-- an event as an application can send it: each field as those of a `Headers`, and a size that fits 64 bits
abbrev pub CanBeSent : Outgoing → Type 0
CanBeSent (ResponseStart status headers announced) = All IsSendable headers
CanBeSent (ResponseBody body more_body) = IsSized body
CanBeSent (ResponseTrailers fields more_trailers) = All IsSendable fields
CanBeSent _ = Unit {0}

-- all events that were sent can be
abbrev pub AllCanBeSent : List ExchangeRecord → Type 0
AllCanBeSent exchanges = All (λ x. All CanBeSent x.said) exchanges
