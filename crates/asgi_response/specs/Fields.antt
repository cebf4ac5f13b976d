-- The head of a response: its status line, its fields and the empty line (RFC 9112, sections 4 to 6 and 9.6).
use Rattle.std.specs.Prelude.{ℕ, Bool, ◌&&◌, ◌||◌, not, List, [], ◌++◌, if◌then◌else◌, ◌==◌, codes, bytes_eq}
use Rattle.std.specs.List.{filter, flat_map}
use Rattle.httparse.specs.Ascii.{crlf_bytes}
use Rattle.asgi_types.specs.Fields.{HeaderField}
use Rattle.asgi_types.specs.declared.outgoing.HttpVersion.{HttpVersion}
use Rattle.asgi_types.specs.Versions.{is_v11}
use Rattle.asgi_protocol.specs.ContentLengths.{content_length}
use Rattle.asgi_protocol.specs.Rules.{has_no_content, is_absent}
use Rattle.asgi_response.specs.StatusLine.{status_line}
use Rattle.asgi_types.specs.Tokens.{has_token}

-- field-line = field-name ":" OWS field-value OWS (section 5), and its CRLF
abbrev pub field_line : HeaderField → List ℕ
field_line f = f.name ++ codes ": " ++ f.value ++ crlf_bytes

-- An application's field of this name is sent: the server alone determines how the message is framed and whether it
-- closes, and 204 has no content-length (RFC 9110, section 8.6).
abbrev pub is_shown : ℕ → List ℕ → Bool
is_shown status name =
    not (bytes_eq name (codes "transfer-encoding")) && not (bytes_eq name (codes "connection"))
    && not (status == 204 && bytes_eq name (codes "content-length"))

-- the lines of the application's fields, in the application's order
abbrev pub field_lines : ℕ → List HeaderField → List ℕ
field_lines status headers = flat_map field_line (filter (λ f. is_shown status f.name) headers)

-- there is no content-length field
abbrev pub gives_no_length : List HeaderField → Bool
gives_no_length headers = is_absent (content_length headers)

-- The content is chunked if its length is not given (section 6.1), in a response to HTTP/1.1 alone.
abbrev pub is_chunked : HttpVersion → ℕ → List HeaderField → Bool
is_chunked version status headers = is_v11 version && gives_no_length headers && not (has_no_content status)

-- the response has `close` if the connection closes for the request, or if the application sends it (section 9.6)
abbrev pub closes : Bool → List HeaderField → Bool
closes close headers = close || has_token headers (codes "connection") (codes "close")

-- the status line, the application's fields, the server's, and the empty line
abbrev pub head_text : Bool → Bool → ℕ → List HeaderField → List ℕ
head_text chunked closing status headers =
    status_line status ++ field_lines status headers
    ++ (if chunked then codes "transfer-encoding: chunked" ++ crlf_bytes else [])
    ++ (if closing then codes "connection: close" ++ crlf_bytes else []) ++ crlf_bytes
