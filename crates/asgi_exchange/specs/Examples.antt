-- Words of worked examples: requests, limits and schedules. No promise is stated by these words.
use Rattle.std.specs.Prelude.{◌≡◌, ℕ, ◌^◌, true, false, List, [], ◌∷◌, ◌++◌, Option, None, replicate, codes, refl}
use Rattle.std.proofs.lemmas.Bool.{leb-true}
use Rattle.asgi_types.specs.Fields.{HeaderField}
use Rattle.asgi_types.specs.declared.end_kind.EndKind.{EndKind}
use Rattle.asgi_types.specs.declared.end_kind.EndKind.TheVariants.{Returned, Faulted}
use Rattle.asgi_types.specs.declared.facts.Facts.{Facts}
use Rattle.asgi_types.specs.declared.facts.Framing.{Framing}
use Rattle.asgi_types.specs.declared.facts.Framing.TheVariants.{Upgrade}
use Rattle.asgi_types.specs.declared.incoming.Incoming.{Incoming}
use Rattle.asgi_types.specs.declared.incoming.Incoming.TheVariants.{HttpRequest}
use Rattle.asgi_types.specs.declared.incoming.Payload.TheVariants as payload
use Rattle.asgi_types.specs.declared.limits.Limits.{Limits}
use Rattle.asgi_types.specs.declared.outgoing.HttpVersion.TheVariants.{V11}
use Rattle.asgi_types.specs.declared.outgoing.Outgoing.{Outgoing}
use Rattle.asgi_types.specs.declared.outgoing.Outgoing.TheVariants.{ResponseStart, ResponseBody, WsAccept, WsSend, WsClose, DenialStart, DenialBody}
use Rattle.asgi_ws.specs.declared.messages.Msg.{Msg}
use Rattle.asgi_ws.specs.declared.messages.Msg.TheVariants.{Text, Ping, Pong, Close}
use Rattle.asgi_exchange.specs.Session.{Handshake}
use Rattle.asgi_exchange.specs.Schedules.{Step, Arrive, Offer, BreakOff, Take, Write, Hear, Say, End}
use Rattle.asgi_exchange.specs.Views.{ByInput, ByCut, World, said_of, taken_of}

-- ---- what is computed

-- the lists of the world
pub record Shows {A W : Type 0} (w : World A W) (heard : List Incoming) (said taken : List Outgoing) (written : List W) : Type 0 where
  pub heard_is : w.app.heard ≡ heard
  pub said_is : said_of w.app ≡ said
  pub taken_is : taken_of w.conn ≡ taken
  pub written_is : w.conn.written ≡ written

-- ---- limits and requests

-- the limits that a server has unless configured otherwise
abbrev pub usual_limits : Limits
usual_limits = record {
  max_head = 16384;
  max_headers = 64;
  max_body = 1048576;
  block = 16384;
  ring = 16;
  idle_turns = 30000;
  turns = 2 ^ 40;
  head_in_range = (leb-true 64 16384 refl, leb-true 16384 65535 refl);
  headers_in_range = (leb-true 1 64 refl, leb-true 64 128 refl);
  body_in_range = leb-true 1048576 (2 ^ 40) refl;
  block_in_range = (leb-true 1 16384 refl, leb-true 16384 65536 refl);
  ring_in_range = (leb-true 2 16 refl, leb-true 16 1024 refl);
  idle_in_range = leb-true 1 30000 refl;
  turns_in_range = (leb-true 1 (2 ^ 40) refl, leb-true (2 ^ 40) (2 ^ 48) refl);
}

-- the same, except for a body of at most 4 bytes
abbrev pub limits_of_4_bytes : Limits
limits_of_4_bytes = record usual_limits { max_body = 4; body_in_range = leb-true 4 (2 ^ 40) refl }

-- the same, except for events of at most 4 bytes
abbrev pub limits_of_blocks : Limits
limits_of_blocks = record usual_limits { block = 4; block_in_range = (leb-true 1 4 refl, leb-true 4 65536 refl) }

-- a request of HTTP/1.1 that asks for nothing else
abbrev pub facts_with : Framing → Facts
facts_with framing = record { version = V11; head_only = false; close = false; expect = false; trailers_ok = false; framing = framing; key = replicate 24 0; subprotocols = [] }

-- the opening handshake of RFC 6455, section 1.3, and its response
abbrev pub session_facts : Facts
session_facts = record (facts_with Upgrade) { key = codes "dGhlIHNhbXBsZSBub25jZQ==" }

abbrev pub session_answer : List ℕ
session_answer = codes "HTTP/1.1 101 Switching Protocols\r\nupgrade: websocket\r\nconnection: Upgrade\r\nsec-websocket-accept: s3pPLMBiTxaQ9kYGzzhZRbK+xOo=\r\n\r\n"

abbrev pub answer_handshake : Handshake
answer_handshake = λ subprotocol headers. session_answer

-- ---- events

abbrev pub content_type : List ℕ → List HeaderField
content_type value = record { name = codes "content-type"; value = value } ∷ []

-- a text with a single body
abbrev pub hello_start : Outgoing
hello_start = ResponseStart 200 (content_type (codes "text/plain")) false

abbrev pub hello_body : Outgoing
hello_body = ResponseBody (codes "hello\n") false

-- the start of a response with the bytes of the request
abbrev pub echo_start : Outgoing
echo_start = ResponseStart 200 (content_type (codes "application/octet-stream")) false

abbrev pub bare_start : Outgoing
bare_start = ResponseStart 200 [] false

abbrev pub accept : Outgoing
accept = WsAccept None []

-- ---- schedules of a request

-- the task ends, its end is taken, and all is written
abbrev pub at_last : {A : Type 0} → EndKind → List (Step A)
at_last kind = End kind ∷ Take ∷ Write 1000 ∷ []

-- four of ten bytes arrive, and the input ends
abbrev pub body_broken_off : List (Step ℕ)
body_broken_off = Say echo_start ∷ Take ∷ Arrive (codes "abcd") ∷ Offer ∷ BreakOff ByInput ∷ Hear ∷ at_last Returned

-- a chunk of five bytes, if four are allowed
abbrev pub chunk_too_large : List (Step ℕ)
chunk_too_large = Arrive (codes "5\r\nabcde\r\n0\r\n\r\n") ∷ Offer ∷ Say echo_start ∷ Take ∷ BreakOff ByInput ∷ Hear ∷ at_last Returned

-- chunks that are cut into blocks, and a trailer field, which is dropped
abbrev pub chunks_arrive : List (Step ℕ) → List (Step ℕ)
chunks_arrive arrival =
    arrival ++ Say echo_start ∷ Offer ∷ Hear ∷ Say (ResponseBody (codes "abcd") true) ∷ Offer ∷ Hear ∷ Say (ResponseBody (codes "efgh") true) ∷ Offer ∷ Hear
    ∷ Say (ResponseBody (codes "i") true) ∷ Offer ∷ Hear ∷ Say (ResponseBody [] false) ∷ Take ∷ Take ∷ Take ∷ Take ∷ Take ∷ at_last Returned

-- the result of that schedule
abbrev pub ShowsChunks : World ℕ ℕ → Type 0
ShowsChunks w =
    Shows w (HttpRequest (codes "abcd") true ∷ HttpRequest (codes "efgh") true ∷ HttpRequest (codes "i") true ∷ HttpRequest [] false ∷ [])
    (echo_start ∷ ResponseBody (codes "abcd") true ∷ ResponseBody (codes "efgh") true ∷ ResponseBody (codes "i") true ∷ ResponseBody [] false ∷ [])
    (echo_start ∷ ResponseBody (codes "abcd") true ∷ ResponseBody (codes "efgh") true ∷ ResponseBody (codes "i") true ∷ ResponseBody [] false ∷ [])
    (codes "HTTP/1.1 200 OK\r\ncontent-type: application/octet-stream\r\ntransfer-encoding: chunked\r\n\r\n4\r\nabcd\r\n4\r\nefgh\r\n1\r\ni\r\n0\r\n\r\n")

abbrev pub chunked_bytes : List ℕ
chunked_bytes = codes "4\r\nabcd\r\n5\r\nefghi\r\n0\r\nx: y\r\n\r\n"

-- the writer takes nine bytes, and then fails
abbrev pub answer_cut_off : List (Step ℕ)
answer_cut_off = Say hello_start ∷ Say hello_body ∷ Take ∷ Take ∷ Write 9 ∷ BreakOff ByCut ∷ Hear ∷ at_last Returned

-- the same after a body that is not the last
abbrev pub body_cut_off : List (Step ℕ)
body_cut_off = Say bare_start ∷ Say (ResponseBody (codes "x") true) ∷ Take ∷ Take ∷ Write 9 ∷ BreakOff ByCut ∷ Hear ∷ Say (ResponseBody (codes "y") false) ∷ at_last Returned

-- a fault in place of a response, and one after a first body
abbrev pub fault_at_once : List (Step ℕ)
fault_at_once = at_last Faulted

abbrev pub fault_inside : List (Step ℕ)
fault_inside = Say bare_start ∷ Say (ResponseBody (codes "x") true) ∷ Take ∷ Take ∷ Write 1000 ∷ at_last Faulted

-- ---- schedules of a session

-- the session is accepted, and the response written
abbrev pub opened : List (Step Msg)
opened = Offer ∷ Hear ∷ Say accept ∷ Take ∷ Write 1000 ∷ []

-- the client closes, with a code or with none: that is received again and again, but nothing that follows it, and nothing
-- more is sent
abbrev pub client_closes : Option (ℕ × List ℕ) → List (Step Msg)
client_closes close = opened ++ Arrive (Close close ∷ Text (codes "late") ∷ []) ∷ Offer ∷ BreakOff ByInput ∷ Hear ∷ Hear ∷ Say (WsSend (payload.Text (codes "late"))) ∷ at_last Returned

-- a message is sent back, and then the input ends
abbrev pub message_echoed : List (Step Msg)
message_echoed =
    opened ++ Arrive (Ping ∷ Text (codes "Hello") ∷ Pong ∷ []) ∷ Offer ∷ Hear ∷ Say (WsSend (payload.Text (codes "Hello"))) ∷ Take ∷ Write 1000 ∷ BreakOff ByInput ∷ Hear
    ∷ at_last Returned

-- the application closes, and receives once more
abbrev pub server_closes : List (Step Msg)
server_closes = opened ++ Say (WsClose 1000 (codes "bye")) ∷ Take ∷ Write 1000 ∷ Hear ∷ at_last Returned

-- the task ends in an open session
abbrev pub task_ends : EndKind → List (Step Msg)
task_ends kind = opened ++ at_last kind

-- the session is refused, by a close or by a response; and the task faults inside the response, or before its body
abbrev pub session_refused : List (Step Msg)
session_refused = Say (WsClose 1000 []) ∷ Take ∷ at_last Returned

abbrev pub session_denied : List (Step Msg)
session_denied = Say (DenialStart 401 []) ∷ Say (DenialBody (codes "no") false) ∷ Take ∷ Take ∷ at_last Returned

abbrev pub denial_faulted : List (Step Msg)
denial_faulted = Say (DenialStart 401 []) ∷ Say (DenialBody (codes "no") true) ∷ Take ∷ Take ∷ at_last Faulted

abbrev pub session_faulted : List (Step Msg)
session_faulted = Offer ∷ Hear ∷ Say (DenialStart 401 []) ∷ Take ∷ at_last Faulted
