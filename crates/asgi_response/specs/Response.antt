-- The text of a response, for any list of events (RFC 9112, sections 4 to 7). An event that is not lawful in its place
-- has no text, nor does an event of another kind of scope.
use Rattle.std.specs.Prelude.{ℕ, Bool, List, [], ◌∷◌, ◌++◌, ◌&&◌, if◌then◌else◌, codes}
use Rattle.std.specs.List.{flat_map}
use Rattle.httparse.specs.Ascii.{crlf_bytes}
use Rattle.asgi_types.specs.Fields.{HeaderField}
use Rattle.asgi_types.specs.declared.facts.Facts.{Facts}
use Rattle.asgi_types.specs.declared.outgoing.Outgoing.{Outgoing}
use Rattle.asgi_types.specs.declared.outgoing.Outgoing.TheVariants.{ResponseStart, ResponseBody, ResponseTrailers}
use Rattle.asgi_response.specs.Fields.{is_chunked, closes, head_text}
use Rattle.asgi_response.specs.Content.{part_text, section_text, has_content}
use Rattle.asgi_response.specs.Accepted.{accepted}

-- the interim response to a client that waits for it (RFC 9110, sections 10.1.1 and 15.2.1)
abbrev pub continue_text : Bool → List ℕ
continue_text expect = if expect then codes "HTTP/1.1 100 Continue" ++ crlf_bytes ++ crlf_bytes else []

-- trailer fields are sent if the start has announced them, the client takes them, and the content is chunked (RFC 9110,
-- section 6.5.1; RFC 9112, section 7.1.2); else they have no text
abbrev pub sends_trailers : Facts → ℕ → List HeaderField → (announced : Bool) → Bool
sends_trailers facts status headers announced = announced && facts.trailers_ok && has_content facts.head_only status && is_chunked facts.version status headers

-- the text of an event after the start: of a body, or of trailers
abbrev pub rest_text : Facts → ℕ → List HeaderField → (announced : Bool) → Outgoing → List ℕ
rest_text facts status headers announced (ResponseBody body more_body) =
    if has_content facts.head_only status
    then part_text (is_chunked facts.version status headers) (sends_trailers facts status headers announced) body more_body else []
rest_text facts status headers announced (ResponseTrailers fields more_trailers) =
    if sends_trailers facts status headers announced then section_text fields more_trailers else []
rest_text facts status headers announced _ = []

-- The head is written with the first body: a start alone has no text.
abbrev pub message_text : Facts → List Outgoing → List ℕ
message_text facts [] = []
message_text facts (ResponseStart status headers announced ∷ []) = []
message_text facts (ResponseStart status headers announced ∷ event ∷ events) =
    head_text (is_chunked facts.version status headers) (closes facts.close headers) status headers
    ++ flat_map (rest_text facts status headers announced) (event ∷ events)
message_text facts (_ ∷ events) = []

-- what an event adds after these: the first body adds the head too
abbrev pub event_text : Facts → List Outgoing → Outgoing → List ℕ
event_text facts (ResponseStart status headers announced ∷ []) event =
    head_text (is_chunked facts.version status headers) (closes facts.close headers) status headers ++ rest_text facts status headers announced event
event_text facts (ResponseStart status headers announced ∷ _ ∷ events) event = rest_text facts status headers announced event
event_text facts _ event = []

-- the text of the events, after `100 Continue` if the client waits for it
abbrev pub response_text : Facts → List Outgoing → List ℕ
response_text facts events = continue_text facts.expect ++ message_text facts (accepted facts events)
