-- The content of a response, part by part (RFC 9112, sections 6 and 7.1).
use Rattle.std.specs.Prelude.{ℕ, Bool, false, ◌&&◌, not, List, [], ◌++◌, length, if◌then◌else◌, ◌==◌, codes}
use Rattle.std.specs.Fmt.{digits}
use Rattle.std.specs.List.{flat_map}
use Rattle.httparse.specs.Ascii.{crlf_bytes}
use Rattle.asgi_types.specs.Fields.{HeaderField}
use Rattle.asgi_protocol.specs.Rules.{has_no_content}
use Rattle.asgi_response.specs.Fields.{field_line}

-- chunk = chunk-size CRLF chunk-data CRLF, the size in hexadecimal (section 7.1)
abbrev pub chunk : List ℕ → List ℕ
chunk data_bytes = digits 16 false (length data_bytes) ++ crlf_bytes ++ data_bytes ++ crlf_bytes

-- last-chunk (section 7.1)
abbrev pub last_chunk : List ℕ
last_chunk = codes "0" ++ crlf_bytes

-- a trailer section, as far as it is known: the lines of its fields, and the empty line after the last of them (section 7.1.2)
abbrev pub section_text : List HeaderField → Bool → List ℕ
section_text fields more_trailers = flat_map field_line fields ++ (if more_trailers then [] else crlf_bytes)

-- the end of chunked content: the last chunk, and an empty trailer section if no trailers follow
abbrev pub content_end : Bool → List ℕ
content_end trailers = last_chunk ++ section_text [] trailers

-- a part of the content, and after the last part of chunked content its end; a part of no bytes is no chunk, since that
-- would be the last chunk
abbrev pub part_text : (chunked trailers : Bool) → List ℕ → Bool → List ℕ
part_text chunked trailers body more_body =
    (if length body == 0 then [] else (if chunked then chunk body else body))
    ++ (if chunked && not more_body then content_end trailers else [])

-- a response to HEAD, or one with 204 or 304, has no content (section 6.3, rule 1)
abbrev pub has_content : Bool → ℕ → Bool
has_content head_only status = not head_only && not (has_no_content status)
