-- What a judge does at an event, from what it keeps: words of private functions.
use Rattle.std.specs.Prelude.{ℕ, Bool, true, false, not, ◌&&◌, ◌||◌, List, [], ◌∷◌, length, Option, None, if◌then◌else◌}
use Rattle.asgi_types.specs.declared.facts.Facts.{Facts}
use Rattle.asgi_types.specs.declared.outgoing.Outgoing.{Outgoing}
use Rattle.asgi_types.specs.declared.outgoing.Outgoing.TheVariants.{ResponseStart, ResponseBody, ResponseTrailers, WsAccept, WsSend, WsClose, DenialStart, DenialBody, StartupComplete, StartupFailed, ShutdownComplete, ShutdownFailed}
use Rattle.asgi_protocol.specs.declared.judge.Due.{Due}
use Rattle.asgi_protocol.specs.declared.judge.Due.TheVariants.{Content, ContentAndTrailers, TrailersAlone}
use Rattle.asgi_protocol.specs.declared.judge.Stage.{Stage}
use Rattle.asgi_protocol.specs.declared.judge.Stage.TheVariants.{Fresh, ResponseStarted, Accepted, LifespanStarted, Ended}
use Rattle.asgi_protocol.specs.declared.judge.Judge.{Judge}
use Rattle.asgi_protocol.specs.declared.content_length.ContentLength.{ContentLength}
use Rattle.asgi_protocol.specs.declared.content_length.ContentLength.TheVariants.{Absent}
use Rattle.asgi_protocol.specs.ContentLengths.{content_length}
use Rattle.asgi_protocol.specs.BytesLeft.{is_above, is_below, left_after}
use Rattle.asgi_protocol.specs.Rules.{promised_length, has_bad_status, has_bad_header, has_bad_code, has_bad_reason, has_bad_subprotocol}
use Rattle.asgi_protocol.specs.Shapes.{is_of}
use Rattle.asgi_protocol.specs.Verdicts.{Lines}

-- what the content-length fields of a start give; any other event has none
abbrev pub length_in : Outgoing → ContentLength
length_in (ResponseStart status headers trailers) = content_length headers
length_in (DenialStart status headers) = content_length headers
length_in _ = Absent

-- the bytes that are left of the promised ones
abbrev pub bytes_left : Stage → Option ℕ
bytes_left Fresh = None
bytes_left (ResponseStarted left due) = left
bytes_left Accepted = None
bytes_left LifespanStarted = None
bytes_left Ended = None

abbrev pub takes_too_much : Stage → Outgoing → Bool
takes_too_much stage (ResponseBody body more_body) = is_above (length body) (bytes_left stage)
takes_too_much stage (DenialBody body more_body) = is_above (length body) (bytes_left stage)
takes_too_much stage _ = false

abbrev pub leaves_too_much : Stage → Outgoing → Bool
leaves_too_much stage (ResponseBody body more_body) = not more_body && is_below (length body) (bytes_left stage)
leaves_too_much stage (DenialBody body more_body) = not more_body && is_below (length body) (bytes_left stage)
leaves_too_much stage _ = false

abbrev pub is_fresh : Stage → Bool
is_fresh Fresh = true
is_fresh _ = false

-- bodies are due, or trailers
abbrev pub is_content_due : Stage → Bool
is_content_due (ResponseStarted left Content) = true
is_content_due (ResponseStarted left ContentAndTrailers) = true
is_content_due _ = false

abbrev pub are_trailers_due : Stage → Bool
are_trailers_due (ResponseStarted left TrailersAlone) = true
are_trailers_due _ = false

abbrev pub is_accepted : Stage → Bool
is_accepted Accepted = true
is_accepted _ = false

abbrev pub is_started : Stage → Bool
is_started LifespanStarted = true
is_started _ = false

abbrev pub is_ended : Stage → Bool
is_ended Ended = true
is_ended _ = false

-- whether the stage has a place for an event of its kind of scope
abbrev pub has_place : Stage → Outgoing → Bool
has_place stage (ResponseStart status headers trailers) = is_fresh stage
has_place stage (ResponseBody body more_body) = is_content_due stage
has_place stage (ResponseTrailers headers more_trailers) = are_trailers_due stage
has_place stage (WsAccept subprotocol headers) = is_fresh stage
has_place stage (WsSend payload) = is_accepted stage
has_place stage (WsClose code reason) = is_fresh stage || is_accepted stage
has_place stage (DenialStart status headers) = is_fresh stage
has_place stage (DenialBody body more_body) = is_content_due stage
has_place stage (StartupComplete state) = is_fresh stage
has_place stage (StartupFailed message) = is_fresh stage
has_place stage ShutdownComplete = is_started stage
has_place stage (ShutdownFailed message) = is_started stage

-- the table's lines, from what the judge keeps
abbrev pub lines_at : Judge → Facts → Outgoing → Lines
lines_at judge facts event = record {
  closed = is_ended judge.stage;
  disconnected = judge.disconnected;
  wrong_scope = not (is_of judge.kind event);
  out_of_order = not (has_place judge.stage event);
  bad_status = has_bad_status event;
  bad_header = has_bad_header event;
  bad_code = has_bad_code event;
  bad_reason = has_bad_reason event;
  bad_subprotocol = has_bad_subprotocol facts event;
  too_much_body = takes_too_much judge.stage event;
  too_little_body = leaves_too_much judge.stage event;
}

-- what is due after a start
abbrev pub due_after_start : Bool → Due
due_after_start trailers = if trailers then ContentAndTrailers else Content

-- the stage after a last body, of which this many bytes are left
abbrev pub after_content : Stage → Option ℕ → Stage
after_content (ResponseStarted left ContentAndTrailers) now = ResponseStarted now TrailersAlone
after_content _ now = Ended

-- the stage after a body with `more_body`
abbrev pub in_content : Stage → Option ℕ → Stage
in_content (ResponseStarted left due) now = ResponseStarted now due
in_content _ now = Ended

-- the stage after a body
abbrev pub after_body : Stage → List ℕ → Bool → Stage
after_body stage body more_body =
    if more_body then in_content stage (left_after (bytes_left stage) (length body)) else after_content stage (left_after (bytes_left stage) (length body))

-- the stage after an event that passed
abbrev pub stage_after : Facts → Stage → Outgoing → Stage
stage_after facts stage (ResponseStart status headers trailers) = ResponseStarted (promised_length facts (ResponseStart status headers trailers ∷ [])) (due_after_start trailers)
stage_after facts stage (ResponseBody body more_body) = after_body stage body more_body
stage_after facts stage (ResponseTrailers headers more_trailers) = if more_trailers then stage else Ended
stage_after facts stage (WsAccept subprotocol headers) = Accepted
stage_after facts stage (WsSend payload) = Accepted
stage_after facts stage (WsClose code reason) = Ended
stage_after facts stage (DenialStart status headers) = ResponseStarted (promised_length facts (DenialStart status headers ∷ [])) Content
stage_after facts stage (DenialBody body more_body) = after_body stage body more_body
stage_after facts stage (StartupComplete state) = LifespanStarted
stage_after facts stage (StartupFailed message) = Ended
stage_after facts stage ShutdownComplete = Ended
stage_after facts stage (ShutdownFailed message) = Ended
