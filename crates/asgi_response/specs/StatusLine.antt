-- The status line of a response (RFC 9112, section 4).
use Rattle.std.specs.Prelude.{ℕ, List, [], ◌∷◌, ◌++◌, if◌then◌else◌, ◌==◌, codes}
use Rattle.std.specs.Fmt.{decimal}
use Rattle.httparse.specs.Ascii.{space, crlf_bytes}

-- the reason phrases that are written (RFC 9110, section 15); every other status has the empty one
abbrev pub reason_phrase : ℕ → List ℕ
reason_phrase status =
    if status == 200 then codes "OK" else (
    if status == 201 then codes "Created" else (
    if status == 202 then codes "Accepted" else (
    if status == 204 then codes "No Content" else (
    if status == 206 then codes "Partial Content" else (
    if status == 301 then codes "Moved Permanently" else (
    if status == 302 then codes "Found" else (
    if status == 303 then codes "See Other" else (
    if status == 304 then codes "Not Modified" else (
    if status == 307 then codes "Temporary Redirect" else (
    if status == 308 then codes "Permanent Redirect" else (
    if status == 400 then codes "Bad Request" else (
    if status == 401 then codes "Unauthorized" else (
    if status == 403 then codes "Forbidden" else (
    if status == 404 then codes "Not Found" else (
    if status == 405 then codes "Method Not Allowed" else (
    if status == 406 then codes "Not Acceptable" else (
    if status == 409 then codes "Conflict" else (
    if status == 410 then codes "Gone" else (
    if status == 411 then codes "Length Required" else (
    if status == 412 then codes "Precondition Failed" else (
    if status == 413 then codes "Content Too Large" else (
    if status == 415 then codes "Unsupported Media Type" else (
    if status == 422 then codes "Unprocessable Content" else (
    if status == 426 then codes "Upgrade Required" else (
    if status == 429 then codes "Too Many Requests" else (
    if status == 431 then codes "Request Header Fields Too Large" else (
    if status == 500 then codes "Internal Server Error" else (
    if status == 501 then codes "Not Implemented" else (
    if status == 502 then codes "Bad Gateway" else (
    if status == 503 then codes "Service Unavailable" else (
    if status == 504 then codes "Gateway Timeout" else (
    []))))))))))))))))))))))))))))))))

-- status-line = HTTP-version SP status-code SP [ reason-phrase ] CRLF
abbrev pub status_line_with : ℕ → List ℕ → List ℕ
status_line_with status reason = codes "HTTP/1.1 " ++ decimal status ++ space ∷ reason ++ crlf_bytes

-- the status line of a response
abbrev pub status_line : ℕ → List ℕ
status_line status = status_line_with status (reason_phrase status)
