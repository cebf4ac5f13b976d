-- A handshake and a message are a conversation: the client says "Hello" and goes away, and the application sends it back (RFC
-- 6455, section 1.2 has the handshake, and section 5.7 the message).
use Rattle.std.proofs.Common.{All, ap, map, ◌≡◌, ℕ, true, false, List, [], ◌∷◌, ◌++◌, inr, refl, codes, Some, None, arith}
use Rattle.std.specs.Prelude.{◌<◌, length}
use Rattle.std.specs.List.{list_all}
use Rattle.std.specs.Str.{IsUtf8}
use Rattle.std.proofs.lemmas.List.Elements.{All-nil, All-cons}
use Rattle.std.proofs.lemmas.List.Sums.{AllPass-from_list_all}
use Rattle.std.proofs.lemmas.Str.{IsUtf8-from_ascii}
use Rattle.std.proofs.lemmas.Str.Ascii.{IsAscii-from_all}
use Rattle.std.specs.Fmt.{digits}
use Rattle.base64.specs.Decode.{groups_error, scan_steps, groups_bytes}
use Rattle.base64.specs.GeneralPurpose.{decoded_of}
use Rattle.base64.specs.Rfc4648.{encode_symbols}
use Rattle.sha1.specs.Sha1.{first_words, schedule, rounds, compress, hash_after, digest_bytes, sha1}
use Rattle.httparse.specs.Ascii.{crlf_bytes}
use Rattle.httparse.specs.Grammar.{RequestHead, IsRequestHead, Field, IsField, crlf, print_request, is_token_byte, is_uri_byte, is_value_byte, trim_ows}
use Rattle.asgi_types.specs.declared.end_kind.EndKind.{EndKind}
use Rattle.asgi_types.specs.declared.end_kind.EndKind.TheVariants.{Returned, Faulted}
use Rattle.asgi_types.specs.declared.facts.Facts.{Facts}
use Rattle.asgi_types.specs.declared.facts.Framing.TheVariants.{Upgrade}
use Rattle.asgi_types.specs.declared.incoming.Incoming.TheVariants.{WsConnect, WsReceive, WsDisconnect}
use Rattle.asgi_types.specs.declared.incoming.Payload.TheVariants as payload
use Rattle.asgi_types.specs.declared.limits.Limits.{Limits}
use Rattle.asgi_types.specs.declared.outgoing.HttpVersion.TheVariants.{V11}
use Rattle.asgi_types.specs.declared.outgoing.Outgoing.TheVariants.{WsAccept, WsSend, WsClose, DenialStart, DenialBody}
use Rattle.asgi_types.specs.declared.scope.Kind.TheVariants.{WebSocket}
use Rattle.asgi_types.specs.declared.scope.Scope.{Scope}
use Rattle.asgi_protocol.specs.Lawful.{IsLawful}
use Rattle.asgi_protocol.proofs.PassingLemmas.{lawful_lists_are_decided}
use Rattle.asgi_request.specs.Fronts.{found, head_len}
use Rattle.asgi_request.specs.Head.{record_of}
use Rattle.asgi_request.specs.HeadText.{EndsAsHead}
use Rattle.asgi_request.specs.Key.{base64}
use Rattle.asgi_request.specs.Opened.{BeginsWithHandshake}
use Rattle.asgi_request.specs.Scopes.{scope_of}
use Rattle.asgi_request.specs.Texts.{IsFirstWithin}
use Rattle.asgi_request.proofs.HeadExamples.{example_limits}
use Rattle.asgi_request.proofs.TextLemmas.{tells, head_search_for}
use Rattle.asgi_ws.specs.declared.messages.Msg.TheVariants.{Text}
use Rattle.asgi_ws.specs.declared.messages.Msg.TheVariants as messages
use Rattle.asgi_ws.specs.declared.messages.SentMessage.TheVariants.{Payload, Close}
use Rattle.asgi_exchange.specs.Session.{Output, Byte, Message}
use Rattle.asgi_conversation.specs.declared.input.InputEnd.TheVariants.{Open}
use Rattle.asgi_conversation.specs.declared.report.Outcome.TheVariants.{Finished, Refused, InputBroke}
use Rattle.asgi_conversation.specs.declared.report.Report.{Report}
use Rattle.asgi_conversation.specs.ExchangeRecord.{ExchangeRecord}
use Rattle.asgi_conversation.specs.Sessions.{SessionTraffic, Accepted, ByClient, ServesHandshake, handshake_of, spoken, session_out, after_session}
use Rattle.asgi_conversation.specs.Kinds.{ConversesInSession}

-- room for five fields
pub limits : Limits
limits = record example_limits { max_headers = 8; headers_in_range = (omega arith, omega arith) }

-- ---- the handshake

pub key : List ℕ
key = codes "dGhlIHNhbXBsZSBub25jZQ=="

field : List ℕ → List ℕ → Field
field name raw = record { name = name; raw = raw; end = crlf }

version_field : List Field
version_field = field (codes "Sec-WebSocket-Version") (codes " 13") ∷ []

key_field : List Field
key_field = field (codes "Sec-WebSocket-Key") (codes " dGhlIHNhbXBsZSBub25jZQ==") ∷ version_field

connection_field : List Field
connection_field = field (codes "Connection") (codes " Upgrade") ∷ key_field

upgrade_field : List Field
upgrade_field = field (codes "Upgrade") (codes " websocket") ∷ connection_field

fields : List Field
fields = field (codes "Host") (codes " a") ∷ upgrade_field

pub asked : RequestHead
asked = record { blank = []; method = codes "GET"; target = codes "/c"; minor = 1; line_end = crlf; fields = fields; last = crlf }

pub asked_text : List ℕ
asked_text =
    codes "GET /c HTTP/1.1" ++ crlf_bytes ++ codes "Host: a" ++ crlf_bytes ++ codes "Upgrade: websocket" ++ crlf_bytes ++ codes "Connection: Upgrade" ++ crlf_bytes
    ++ codes "Sec-WebSocket-Key: dGhlIHNhbXBsZSBub25jZQ==" ++ crlf_bytes ++ codes "Sec-WebSocket-Version: 13" ++ crlf_bytes ++ crlf_bytes

asked_prints : asked_text ≡ print_request asked ++ []
unfolding asked asked_text fields upgrade_field connection_field key_field version_field field print_request
asked_prints = refl

asked_is_first : (rest : List ℕ) → IsFirstWithin EndsAsHead 256 (asked_text ++ rest) asked_text rest
unfolding asked_text
asked_is_first rest = tells EndsAsHead head_len head_search_for 256 (asked_text ++ rest) (found asked_text) refl rest refl

is_field : (name raw : List ℕ) → 0 < length name → list_all is_token_byte name ≡ true → list_all is_value_byte raw ≡ true → IsField (field name raw)
unfolding field
is_field name raw long token value = record { name = (long, AllPass-from_list_all is_token_byte name token); raw = AllPass-from_list_all is_value_byte raw value }

one_field : (name raw : List ℕ) (more : List Field) → 0 < length name → list_all is_token_byte name ≡ true → list_all is_value_byte raw ≡ true → All IsField more → All IsField (field name raw ∷ more)
one_field name raw more long token value h = All-cons IsField (field name raw) more (is_field name raw long token value) h

all_are_fields : All IsField fields
unfolding fields upgrade_field connection_field key_field version_field is_token_byte
all_are_fields =
    one_field (codes "Host") (codes " a") upgrade_field (omega arith) refl refl
    (one_field (codes "Upgrade") (codes " websocket") connection_field (omega arith) refl refl
    (one_field (codes "Connection") (codes " Upgrade") key_field (omega arith) refl refl
    (one_field (codes "Sec-WebSocket-Key") (codes " dGhlIHNhbXBsZSBub25jZQ==") version_field (omega arith) refl refl
    (one_field (codes "Sec-WebSocket-Version") (codes " 13") [] (omega arith) refl refl (All-nil IsField)))))

target_is_text : IsUtf8 (codes "/c")
target_is_text =
    IsUtf8-from_ascii (codes "/c")
    (IsAscii-from_all (codes "/c") (All-cons (λ b. b < 128) 47 (99 ∷ []) (omega arith) (All-cons (λ b. b < 128) 99 [] (omega arith) (All-nil (λ b. b < 128)))))

asked_is_a_head : IsRequestHead asked
unfolding asked is_token_byte
asked_is_a_head = record {
  method = (omega arith, AllPass-from_list_all is_token_byte (codes "GET") refl);
  target = (omega arith, AllPass-from_list_all is_uri_byte (codes "/c") refl);
  target_text = target_is_text;
  minor = omega arith;
  fields = all_are_fields;
}

unfoldable pub facts : Facts
facts = record { version = V11; head_only = false; close = false; expect = false; trailers_ok = false; framing = Upgrade; key = key; subprotocols = [] }

unfoldable pub scope : Scope
scope = scope_of (record_of asked) Upgrade

pub asked_begins : (frames : List ℕ) → BeginsWithHandshake limits (asked_text ++ frames) scope facts frames
unfolding asked facts scope limits example_limits fields upgrade_field connection_field key_field version_field field trim_ows key decoded_of groups_error scan_steps groups_bytes
asked_begins frames = record {
  head = asked;
  reads = record {
    text = asked_text;
    text_is = asked_is_first frames;
    head_is = record { reads = (asked_is_a_head, asked_prints); few = omega arith };
    framing_is = refl;
  };
  scope_is = refl;
  facts_are = refl;
}

-- ---- the session

unfoldable pub hello : List ℕ
hello = codes "Hello"

-- the application accepted it, sent the message back, and returned once it received that the client was gone
echoed : ExchangeRecord
echoed = record {
  scope = scope;
  facts = facts;
  heard = WsConnect ∷ WsReceive (payload.Text hello) ∷ WsDisconnect 1006 [] ∷ [];
  said = WsAccept None [] ∷ WsSend (payload.Text hello) ∷ [];
  ended = Some Returned;
  input_broke = true;
}

-- section 5.7: a masked text
pub frame : List ℕ
frame = 129 ∷ 133 ∷ 55 ∷ 250 ∷ 33 ∷ 61 ∷ 127 ∷ 159 ∷ 77 ∷ 81 ∷ 88 ∷ []

-- the line was given the frame, gave the message, and took it back
traffic : SessionTraffic
traffic = record { leftover = Some frame; received = Text hello ∷ []; is_over = true; handed = Payload (payload.Text hello) ∷ [] }

-- section 1.3
pub accepted_text : List ℕ
accepted_text =
    codes "HTTP/1.1 101 Switching Protocols" ++ crlf_bytes ++ codes "upgrade: websocket" ++ crlf_bytes ++ codes "connection: Upgrade" ++ crlf_bytes
    ++ codes "sec-websocket-accept: s3pPLMBiTxaQ9kYGzzhZRbK+xOo=" ++ crlf_bytes ++ crlf_bytes

reported : Report
reported = record { exchanges = 1; faults = 0; turns = 4; idle = 0; outcome = InputBroke }

pub said_is_lawful : IsLawful WebSocket facts (WsAccept None [] ∷ WsSend (payload.Text hello) ∷ [])
unfolding facts hello
said_is_lawful = (lawful_lists_are_decided WebSocket facts (WsAccept None [] ∷ WsSend (payload.Text hello) ∷ [])).0 refl

pub text_is : accepted_text ≡ handshake_of facts None []
unfolding facts key accepted_text digits base64 encode_symbols first_words schedule rounds compress hash_after digest_bytes sha1
text_is = refl

is_served : ServesHandshake limits false (asked_text ++ frame) echoed traffic accepted_text
unfolding echoed traffic hello
is_served = record {
  frames = frame;
  head = asked_begins frame;
  opens = Accepted None [] (WsSend (payload.Text hello) ∷ []) refl text_is refl;
  disconnect = WsDisconnect 1006 [];
  hears = record {
    first = WsConnect ∷ WsReceive (payload.Text hello) ∷ [];
    times = 1;
    in_order = refl;
    due = ([], refl);
    cause = inr (ByClient refl refl refl);
  };
  lawful = said_is_lawful;
  breaks = λ b. inr refl;
}

all_is_written : spoken accepted_text traffic ≡ session_out echoed
unfolding echoed traffic hello facts digits base64 encode_symbols sha1 digest_bytes
all_is_written = ap (λ text. map Byte text ++ Message (Payload (payload.Text hello)) ∷ []) text_is

a_message_is_sent_back : ConversesInSession limits Open (asked_text ++ frame) (echoed ∷ []) traffic accepted_text reported
unfolding reported echoed traffic hello
a_message_is_sent_back = record {
  answered = [];
  session = echoed;
  in_order = refl;
  after = asked_text ++ frame;
  each = refl;
  text = accepted_text;
  serves = is_served;
  ends = ((Returned, refl, refl, all_is_written), λ input_broke. refl);
  written_is = refl;
  counts = record { exchanges_are = refl; faults_are = refl };
}

-- ---- each way in which a session ends with its task (RFC 6455, section 7.4.1)

-- the same, if nobody has closed when the task ends
left_open : EndKind → ExchangeRecord
left_open kind = record echoed { heard = WsConnect ∷ WsReceive (payload.Text hello) ∷ []; ended = Some kind; input_broke = false }

handed_back : List Output
handed_back = map Byte accepted_text ++ Message (Payload (payload.Text hello)) ∷ []

returned_closes : (session_out (left_open Returned) ≡ handed_back ++ Message (Close 1000 []) ∷ []) × (after_session Returned echoed.said false traffic.received ≡ Finished)
unfolding left_open handed_back echoed traffic hello facts accepted_text key digits base64 encode_symbols first_words schedule rounds compress hash_after sha1 digest_bytes
returned_closes = (refl, refl)

faulted_closes : (session_out (left_open Faulted) ≡ handed_back ++ Message (Close 1011 []) ∷ []) × (after_session Faulted echoed.said false traffic.received ≡ Finished)
unfolding left_open handed_back echoed traffic hello facts accepted_text key digits base64 encode_symbols first_words schedule rounds compress hash_after sha1 digest_bytes
faulted_closes = (refl, refl)

-- the client's close, and the end of the input, end it as they are
client_closes : after_session Returned echoed.said true (messages.Close (Some (1000, [])) ∷ []) ≡ Finished
unfolding echoed
client_closes = refl

input_breaks : after_session Faulted echoed.said true traffic.received ≡ InputBroke
unfolding echoed traffic
input_breaks = refl

-- no answer, and a denial that only began
unanswered : (after_session Returned [] false [] ≡ Refused 500) × (after_session Faulted (DenialStart 404 [] ∷ []) true [] ≡ Refused 500)
unanswered = (refl, refl)

-- a refusal, and a denial with a body
turned_away : (after_session Returned (WsClose 1000 [] ∷ []) true [] ≡ Finished) × (after_session Returned (DenialStart 404 [] ∷ DenialBody [] true ∷ []) false [] ≡ Finished)
turned_away = (refl, refl)
