-- Words of the private functions of a response text. No promise is stated by these words.
use Rattle.std.specs.Prelude.{ℕ, Bool, true, false, ◌&&◌, not, List, [], ◌++◌, length, Option, Some, None, if◌then◌else◌}
use Rattle.std.specs.List.{list_any}
use Rattle.asgi_types.specs.Fields.{HeaderField}
use Rattle.asgi_types.specs.declared.outgoing.Outgoing.{Outgoing}
use Rattle.asgi_types.specs.declared.outgoing.Outgoing.TheVariants.{ResponseStart, ResponseBody, ResponseTrailers, WsAccept, WsClose, DenialStart, DenialBody}
use Rattle.asgi_protocol.specs.BytesLeft.{is_above, is_below, left_after}
use Rattle.asgi_protocol.specs.ContentLengths.{content_length}
use Rattle.asgi_protocol.specs.Rules.{is_status, is_faulty, is_framing_name, promised_at}
use Rattle.asgi_protocol.specs.declared.content_length.ContentLength.{ContentLength}
use Rattle.asgi_response.specs.declared.content.Coding.{Coding}
use Rattle.asgi_response.specs.declared.content.Coding.TheVariants.{Nothing, Plain, Chunked}
use Rattle.asgi_response.specs.declared.content.Content.{Content}
use Rattle.asgi_response.specs.declared.content.Trailing.{Trailing}
use Rattle.asgi_response.specs.declared.content.Trailing.TheVariants as trailing
use Rattle.asgi_response.specs.declared.progress.Progress.{Progress}
use Rattle.asgi_response.specs.declared.progress.Progress.TheVariants as progress
use Rattle.asgi_response.specs.declared.text.ResponseText.{ResponseText}
use Rattle.asgi_response.specs.declared.text.Phase.{Phase}
use Rattle.asgi_response.specs.declared.text.Phase.TheVariants.{Waiting, Started, Begun, Trailers, Complete, NotAResponse}
use Rattle.asgi_response.specs.Fields.{is_chunked, closes, head_text}
use Rattle.asgi_response.specs.Content.{has_content, part_text, section_text}
use Rattle.asgi_response.specs.Standing.{coding_of, trailing_of}

-- ---- of the content

-- trailers are announced and sent
abbrev pub is_sent : Trailing → Bool
is_sent trailing.Nothing = false
is_sent trailing.Unsent = false
is_sent trailing.Sent = true

-- the text of a body in this coding
abbrev pub coded_text : Coding → (trailers : Bool) → List ℕ → Bool → List ℕ
coded_text Nothing trailers body more_body = []
coded_text Plain trailers body more_body = part_text false trailers body more_body
coded_text Chunked trailers body more_body = part_text true trailers body more_body

-- a body of `n` bytes is neither too long nor too short
abbrev pub is_allowed : Option ℕ → ℕ → Bool → Bool
is_allowed left n more_body = not (is_above n left) && not (not more_body && is_below n left)

-- the bytes that are left after a start
abbrev pub left_at_start : Bool → ℕ → ContentLength → Option ℕ
left_at_start head_only status length = if head_only then None else promised_at status length

-- ---- of the text

abbrev pub is_waiting : Phase → Bool
is_waiting Waiting = true
is_waiting (Started content) = false
is_waiting (Begun content) = false
is_waiting (Trailers sent) = false
is_waiting Complete = false
is_waiting NotAResponse = false

abbrev pub is_begun : Phase → Bool
is_begun Waiting = false
is_begun (Started content) = false
is_begun (Begun content) = true
is_begun (Trailers sent) = true
is_begun Complete = true
is_begun NotAResponse = true

-- the content that may follow, if a body may
abbrev pub content_due : Phase → Option Content
content_due Waiting = None
content_due (Started content) = Some content
content_due (Begun content) = Some content
content_due (Trailers sent) = None
content_due Complete = None
content_due NotAResponse = None

-- the phase after the last body
abbrev pub after_content : Trailing → Phase
after_content trailing.Nothing = Complete
after_content trailing.Unsent = Trailers false
after_content trailing.Sent = Trailers true

abbrev pub next_phase : Content → ℕ → Bool → Phase
next_phase content n more_body = if more_body then Begun (record content { left = left_after content.left n }) else after_content content.trailing

-- whether trailers are sent, if they are due
abbrev pub trailers_due : Phase → Option Bool
trailers_due (Trailers sent) = Some sent
trailers_due _ = None

-- a field that no trailer section may have
abbrev pub has_framing_field : List HeaderField → Bool
has_framing_field fields = list_any (λ field. is_framing_name field.name) fields

abbrev pub may_start : Phase → ℕ → Bool → Bool
may_start phase status faulty = is_waiting phase && is_status status && not faulty

abbrev pub content_at_start : ResponseText → ℕ → List HeaderField → (announced : Bool) → Content
content_at_start text status headers announced = record {
  coding = coding_of (has_content text.head_only status) (is_chunked text.version status headers);
  trailing = trailing_of announced (announced && text.trailers_ok && has_content text.head_only status && is_chunked text.version status headers);
  left = left_at_start text.head_only status (content_length headers);
}

abbrev pub after_start : ResponseText → ℕ → List HeaderField → (announced : Bool) → ResponseText
after_start text status headers announced =
    if may_start text.phase status (is_faulty (content_length headers))
    then record text {
      phase = Started (content_at_start text status headers announced);
      head = head_text (is_chunked text.version status headers) (closes text.close headers) status headers;
      close = closes text.close headers;
    } else text

abbrev pub after_part : ResponseText → Option Content → List ℕ → Bool → ResponseText
after_part text None body more_body = text
after_part text (Some content) body more_body =
    if is_allowed content.left (length body) more_body
    then record text { phase = next_phase content (length body) more_body; head = [] } else text

abbrev pub part_added : List ℕ → Option Content → List ℕ → Bool → List ℕ
part_added head None body more_body = []
part_added head (Some content) body more_body =
    if is_allowed content.left (length body) more_body then head ++ coded_text content.coding (is_sent content.trailing) body more_body else []

abbrev pub after_section : ResponseText → Option Bool → List HeaderField → Bool → ResponseText
after_section text None fields more_trailers = text
after_section text (Some sent) fields more_trailers =
    if has_framing_field fields then text else (if more_trailers then text else record text { phase = Complete })

abbrev pub section_added : Option Bool → List HeaderField → Bool → List ℕ
section_added None fields more_trailers = []
section_added (Some sent) fields more_trailers = if has_framing_field fields then [] else (if sent then section_text fields more_trailers else [])

abbrev pub progress_at : Phase → Bool → Progress
progress_at Waiting close = progress.Nothing
progress_at (Started content) close = progress.Nothing
progress_at (Begun content) close = progress.Begun
progress_at (Trailers sent) close = progress.Begun
progress_at Complete close = progress.Complete close
progress_at NotAResponse close = progress.Begun

-- ---- of a response to a request

abbrev pub after_response_event : ResponseText → Outgoing → ResponseText
after_response_event text (ResponseStart status headers announced) = after_start text status headers announced
after_response_event text (ResponseBody body more_body) = after_part text (content_due text.phase) body more_body
after_response_event text (ResponseTrailers fields more_trailers) = after_section text (trailers_due text.phase) fields more_trailers
after_response_event text _ = text

abbrev pub response_starts : ResponseText → Outgoing → Bool
response_starts text (ResponseStart status headers announced) = may_start text.phase status (is_faulty (content_length headers))
response_starts text _ = false

abbrev pub added_by_response : ResponseText → Outgoing → List ℕ
added_by_response text (ResponseBody body more_body) = part_added text.head (content_due text.phase) body more_body
added_by_response text (ResponseTrailers fields more_trailers) = section_added (trailers_due text.phase) fields more_trailers
added_by_response text _ = []

-- ---- of a response to an opening handshake

abbrev pub after_session_event : ResponseText → Outgoing → ResponseText
after_session_event text (DenialStart status headers) = after_start text status headers false
after_session_event text (DenialBody body more_body) = after_part text (content_due text.phase) body more_body
after_session_event text (WsAccept subprotocol headers) = record text { phase = NotAResponse }
after_session_event text (WsClose code reason) = record text { phase = NotAResponse }
after_session_event text _ = text

abbrev pub denial_starts : ResponseText → Outgoing → Bool
denial_starts text (DenialStart status headers) = may_start text.phase status (is_faulty (content_length headers))
denial_starts text _ = false

abbrev pub added_by_denial : ResponseText → Outgoing → List ℕ
added_by_denial text (DenialBody body more_body) = part_added text.head (content_due text.phase) body more_body
added_by_denial text _ = []

-- ---- of either

-- the text after an event
abbrev pub after_event : ResponseText → Outgoing → ResponseText
after_event text event = if text.session then after_session_event text event else after_response_event text event

-- the event is a start that the text takes
abbrev pub starts : ResponseText → Outgoing → Bool
starts text event = if text.session then denial_starts text event else response_starts text event

-- what the event added to the output
abbrev pub added_by : ResponseText → Outgoing → List ℕ
added_by text event = if text.session then added_by_denial text event else added_by_response text event
