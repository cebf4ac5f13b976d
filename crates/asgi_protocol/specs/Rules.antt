-- The rules that an event must meet at its place, apart from its order.
use Rattle.std.specs.Prelude.{◌≡◌, ℕ, ◌+◌, Bool, true, false, not, ◌&&◌, ◌||◌, ◌==◌, nat_le, nat_lt, List, [], ◌∷◌, length, Option, Some, None, if◌then◌else◌, codes, bytes_eq}
use Rattle.std.specs.List.{list_any}
use Rattle.asgi_types.specs.Fields.{HeaderField}
use Rattle.asgi_types.specs.declared.facts.Facts.{Facts}
use Rattle.asgi_types.specs.declared.outgoing.Outgoing.{Outgoing}
use Rattle.asgi_types.specs.declared.outgoing.Outgoing.TheVariants.{ResponseStart, ResponseBody, ResponseTrailers, WsAccept, WsClose, DenialStart, DenialBody}
use Rattle.asgi_protocol.specs.declared.content_length.ContentLength.{ContentLength}
use Rattle.asgi_protocol.specs.declared.content_length.ContentLength.TheVariants.{Absent, Given, Faulty}
use Rattle.asgi_protocol.specs.BytesLeft.{is_above, is_below}
use Rattle.asgi_protocol.specs.ContentLengths.{content_length}

-- the status codes of a final response (RFC 9110, section 15)
abbrev pub is_status : ℕ → Bool
is_status status = nat_le 200 status && nat_le status 599

-- of the close codes in RFC 6455, section 7.4, those that an application may send; the ranges are our choice
abbrev pub is_close_code : ℕ → Bool
is_close_code code = (nat_le 1000 code && nat_le code 1003) || (nat_le 1007 code && nat_le code 1011) || (nat_le 3000 code && nat_le code 4999)

-- the fields of the opening handshake that the server writes itself (RFC 6455, section 4.2.2), and those that delimit content;
-- names are in lower case, as `Headers` keeps them
abbrev pub is_handshake_name : List ℕ → Bool
is_handshake_name name =
    bytes_eq name (codes "sec-websocket-protocol") || bytes_eq name (codes "sec-websocket-accept")
    || bytes_eq name (codes "sec-websocket-extensions") || bytes_eq name (codes "upgrade")
    || bytes_eq name (codes "connection") || bytes_eq name (codes "content-length")
    || bytes_eq name (codes "transfer-encoding")

-- the fields that delimit content and the connection's own: no trailer field may have their names (RFC 9110, section 6.5.1; that others
-- pass is our choice)
abbrev pub is_framing_name : List ℕ → Bool
is_framing_name name = bytes_eq name (codes "content-length") || bytes_eq name (codes "transfer-encoding") || bytes_eq name (codes "connection")

-- the subprotocol is one that the client offers, byte for byte (RFC 6455, section 4.2.2)
abbrev pub is_offered : List (List ℕ) → Option (List ℕ) → Bool
is_offered offers None = true
is_offered offers (Some name) = list_any (λ offer. bytes_eq offer name) offers

-- a start with a status outside 200 to 599
abbrev pub has_bad_status : Outgoing → Bool
has_bad_status (ResponseStart status headers trailers) = not (is_status status)
has_bad_status (DenialStart status headers) = not (is_status status)
has_bad_status _ = false

abbrev pub is_faulty : ContentLength → Bool
is_faulty Faulty = true
is_faulty (Given n) = false
is_faulty Absent = false

abbrev pub is_absent : ContentLength → Bool
is_absent Faulty = false
is_absent (Given n) = false
is_absent Absent = true

-- a start whose content-length is faulty, trailers with a field that delimits content, or an accept with a field of the handshake
abbrev pub has_bad_header : Outgoing → Bool
has_bad_header (ResponseStart status headers trailers) = is_faulty (content_length headers)
has_bad_header (DenialStart status headers) = is_faulty (content_length headers)
has_bad_header (ResponseTrailers headers more_trailers) = list_any (λ field. is_framing_name field.name) headers
has_bad_header (WsAccept subprotocol headers) = list_any (λ field. is_handshake_name field.name) headers
has_bad_header _ = false

abbrev pub has_bad_code : Outgoing → Bool
has_bad_code (WsClose code reason) = not (is_close_code code)
has_bad_code _ = false

-- a control frame has at most 125 bytes, and two are the code's (RFC 6455, section 5.5)
abbrev pub has_bad_reason : Outgoing → Bool
has_bad_reason (WsClose code reason) = nat_lt 123 (length reason)
has_bad_reason _ = false

abbrev pub has_bad_subprotocol : Facts → Outgoing → Bool
has_bad_subprotocol facts (WsAccept subprotocol headers) = not (is_offered facts.subprotocols subprotocol)
has_bad_subprotocol facts _ = false

abbrev pub given_length : ContentLength → Option ℕ
given_length (Given n) = Some n
given_length Faulty = None
given_length Absent = None

-- a response with the status has no content (RFC 9110, sections 15.3.5 and 15.4.5)
abbrev pub has_no_content : ℕ → Bool
has_no_content status = status == 204 || status == 304

-- the length that a start with the status promises, by its content-length
abbrev pub promised_at : ℕ → ContentLength → Option ℕ
promised_at status length = if has_no_content status then None else given_length length

abbrev pub length_given_in : ℕ → List HeaderField → Option ℕ
length_given_in status headers = promised_at status (content_length headers)

abbrev pub length_given_by : Outgoing → Option ℕ
length_given_by (ResponseStart status headers trailers) = length_given_in status headers
length_given_by (DenialStart status headers) = length_given_in status headers
length_given_by _ = None

-- how many bytes the bodies after these events must have; any number in a response to HEAD (RFC 9110, sections 8.6 and 9.3.2)
abbrev pub promised_length : Facts → List Outgoing → Option ℕ
promised_length facts [] = None
promised_length facts (start ∷ bodies) = if facts.head_only then None else length_given_by start

-- the bytes of all bodies together
abbrev pub body_bytes : List Outgoing → ℕ
body_bytes [] = 0
body_bytes (ResponseBody body more_body ∷ events) = length body + body_bytes events
body_bytes (DenialBody body more_body ∷ events) = length body + body_bytes events
body_bytes (_ ∷ events) = body_bytes events

-- with this body there are more bytes than were promised
abbrev pub has_too_much_body : Facts → List Outgoing → Outgoing → Bool
has_too_much_body facts before (ResponseBody body more_body) = is_above (body_bytes before + length body) (promised_length facts before)
has_too_much_body facts before (DenialBody body more_body) = is_above (body_bytes before + length body) (promised_length facts before)
has_too_much_body facts before _ = false

-- this body is the last, and there are fewer bytes than were promised
abbrev pub has_too_little_body : Facts → List Outgoing → Outgoing → Bool
has_too_little_body facts before (ResponseBody body more_body) = not more_body && is_below (body_bytes before + length body) (promised_length facts before)
has_too_little_body facts before (DenialBody body more_body) = not more_body && is_below (body_bytes before + length body) (promised_length facts before)
has_too_little_body facts before _ = false

-- the event, after those before it, meets each rule
pub record MeetsRules (facts : Facts) (before : List Outgoing) (event : Outgoing) : Type 0 where
  pub status : has_bad_status event ≡ false
  pub header : has_bad_header event ≡ false
  pub code : has_bad_code event ≡ false
  pub reason : has_bad_reason event ≡ false
  pub subprotocol : has_bad_subprotocol facts event ≡ false
  pub not_too_much : has_too_much_body facts before event ≡ false
  pub not_too_little : has_too_little_body facts before event ≡ false
