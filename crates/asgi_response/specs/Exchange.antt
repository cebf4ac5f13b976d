-- The text of a whole exchange: that of its events, and what the end of its task adds.
use Rattle.std.specs.Prelude.{ℕ, Bool, true, false, List, [], ◌∷◌, ◌++◌, if◌then◌else◌, ◌==◌, codes}
use Rattle.httparse.specs.Ascii.{crlf_bytes}
use Rattle.asgi_types.specs.declared.end_kind.EndKind.{EndKind}
use Rattle.asgi_types.specs.declared.end_kind.EndKind.TheVariants.{Returned, Faulted, Idle}
use Rattle.asgi_types.specs.declared.facts.Facts.{Facts}
use Rattle.asgi_types.specs.declared.outgoing.Outgoing.{Outgoing}
use Rattle.asgi_response.specs.declared.refusal.Input.{Input}
use Rattle.asgi_response.specs.declared.refusal.Input.TheVariants.{Whole, Faulty, Broken}
use Rattle.asgi_response.specs.StatusLine.{status_line}
use Rattle.asgi_response.specs.Accepted.{accepted}
use Rattle.asgi_response.specs.Response.{response_text}

-- the fields of a response without content, after which the connection closes (RFC 9112, section 9.6)
abbrev pub closing_fields : List ℕ
closing_fields = codes "content-length: 0" ++ crlf_bytes ++ codes "connection: close" ++ crlf_bytes

-- 426 also names the protocol and the version of it that are served (RFC 9110, section 15.5.22; RFC 6455, section 4.4)
abbrev pub upgrade_fields : List ℕ
upgrade_fields =
    codes "upgrade: websocket" ++ crlf_bytes ++ codes "sec-websocket-version: 13" ++ crlf_bytes
    ++ codes "content-length: 0" ++ crlf_bytes ++ codes "connection: upgrade, close" ++ crlf_bytes

-- the text of a refusal
abbrev pub refusal_text : ℕ → List ℕ
refusal_text status = status_line status ++ (if status == 426 then upgrade_fields else closing_fields) ++ crlf_bytes

-- a start and a body: the head is written
abbrev pub has_begun : List Outgoing → Bool
has_begun (start ∷ body ∷ bodies) = true
has_begun _ = false

-- what replaces a response that never began: for a whole request, for one whose body is faulty, for one that was broken
-- off
abbrev pub replacement_text : Input → List ℕ
replacement_text Whole = refusal_text 500
replacement_text (Faulty status) = refusal_text status
replacement_text Broken = []

-- what the end of a task that returned or faulted adds; a response that has begun is left as it is
abbrev pub end_text : Facts → List Outgoing → Input → List ℕ
end_text facts events input = if has_begun (accepted facts events) then [] else replacement_text input

-- what the end of a task adds; one that ended by its limit of turns adds nothing
abbrev pub added_by_end : Facts → List Outgoing → EndKind → Input → List ℕ
added_by_end facts events Returned input = end_text facts events input
added_by_end facts events Faulted input = end_text facts events input
added_by_end facts events Idle input = []

-- the text of an exchange, from its events, how its task ended, and the body of its request
abbrev pub exchange_text : Facts → List Outgoing → EndKind → Input → List ℕ
exchange_text facts events kind input = response_text facts events ++ added_by_end facts events kind input
