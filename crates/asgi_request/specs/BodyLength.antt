-- Message body length (RFC 9112, section 6.3), and the heads that are refused before it is determined.
use Rattle.std.specs.Prelude.{ℕ, Bool, true, false, ◌&&◌, not, List, if◌then◌else◌, ◌==◌, nat_lt, codes, bytes_eq, Result, Ok, Err, Option, Some, None}
use Rattle.std.specs.Option.{unwrap_or}
use Rattle.asgi_types.specs.declared.facts.Framing.{Framing}
use Rattle.asgi_types.specs.declared.facts.Framing.TheVariants.{Length, Chunked}
use Rattle.asgi_types.specs.declared.limits.Limits.{Limits}
use Rattle.asgi_types.specs.declared.outgoing.HttpVersion.{HttpVersion}
use Rattle.asgi_types.specs.Fields.{HeaderField}
use Rattle.asgi_types.specs.Lengths.{length_of_text}
use Rattle.asgi_types.specs.Versions.{is_v11}
use Rattle.asgi_request.specs.declared.head.HeadRecord.{HeadRecord}
use Rattle.asgi_request.specs.declared.refusal.Refusal.{Refusal}
use Rattle.asgi_request.specs.declared.refusal.Refusal.TheVariants.{BadRequest, ContentTooLarge, NotImplemented}
use Rattle.asgi_types.specs.Tokens.{same_ignoring_case}
use Rattle.asgi_request.specs.FieldValues.{count_named, has_field, value_named}
use Rattle.asgi_request.specs.Target.{is_target}

-- HTTP/1.1 requires one Host field (section 3.2)
abbrev pub lacks_host : HeadRecord → Bool
lacks_host head = is_v11 head.version && not (count_named head.headers (codes "host") == 1)

-- one field gives the coding, which is `chunked` and nothing else (section 6.1)
abbrev pub is_chunked : List HeaderField → Bool
is_chunked fields =
    count_named fields (codes "transfer-encoding") == 1
    && same_ignoring_case (value_named fields (codes "transfer-encoding")) (codes "chunked")

-- the number of the first Content-Length field, if it is 1 to 19 digits
abbrev pub content_length : List HeaderField → Option ℕ
content_length fields = length_of_text (value_named fields (codes "content-length"))

-- no number is there
abbrev pub is_missing : Option ℕ → Bool
is_missing None = true
is_missing (Some n) = false

-- a number is there, and is greater than the most that is taken
abbrev pub exceeds : Option ℕ → ℕ → Bool
exceeds None most = false
exceeds (Some n) most = nat_lt most n

-- a Content-Length field is there
abbrev pub has_length : List HeaderField → Bool
has_length fields = has_field fields (codes "content-length")

-- a Transfer-Encoding field is there
abbrev pub has_coding : List HeaderField → Bool
has_coding fields = has_field fields (codes "transfer-encoding")

-- Message body length, by the fields (section 6.3): the first case that holds.
abbrev pub body_length : HttpVersion → List HeaderField → ℕ → Result Framing Refusal
body_length version fields max_body =
    -- rule 3: both fields may be an attempt at request smuggling
    if has_length fields && has_coding fields then Err BadRequest else (
    -- rule 5: two lengths, or one that is not valid
    if nat_lt 1 (count_named fields (codes "content-length")) then Err BadRequest else (
    if has_length fields && is_missing (content_length fields) then Err BadRequest else (
    -- section 6.1: in HTTP/1.0 a coding is faulty framing
    if has_coding fields && not (is_v11 version) then Err BadRequest else (
    -- section 6.1: a coding that is not known
    if has_coding fields && not (is_chunked fields) then Err NotImplemented else (
    -- RFC 9110, section 15.5.14
    if exceeds (content_length fields) max_body then Err ContentTooLarge else (
    -- rule 4
    if has_coding fields then Ok Chunked else
    -- rule 6, and rule 7 if neither field is there
    Ok (Length (unwrap_or (content_length fields) 0))))))))

-- How the body of a request is delimited, or why its head is refused: the first case that holds.
abbrev pub framing_or_refusal : HeadRecord → Limits → Result Framing Refusal
framing_or_refusal head limits =
    -- there are no tunnels (RFC 9110, section 9.3.6)
    if bytes_eq head.method (codes "CONNECT") then Err NotImplemented else (
    -- section 3.2
    if not (is_target head.method head.target) then Err BadRequest else (
    if lacks_host head then Err BadRequest else
    body_length head.version head.headers limits.max_body))
