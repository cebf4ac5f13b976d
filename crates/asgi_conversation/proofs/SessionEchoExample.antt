-- The client says "Hello" and closes with 1000, and `WsEcho` keeps its promise (RFC 6455, sections 5.7 and 7.4.1).
use Rattle.std.proofs.Common.{ap, map, ◌≡◌, ℕ, true, false, List, [], ◌∷◌, ◌++◌, inl, inr, refl, Some, None}
use Rattle.std.proofs.lemmas.List.Elements.{All-nil, All-cons}
use Rattle.std.specs.Fmt.{digits}
use Rattle.asgi_types.specs.declared.end_kind.EndKind.TheVariants.{Returned}
use Rattle.asgi_types.specs.declared.incoming.Incoming.TheVariants.{WsConnect, WsReceive, WsDisconnect}
use Rattle.asgi_types.specs.declared.incoming.Payload.TheVariants as payload
use Rattle.asgi_types.specs.declared.outgoing.Outgoing.TheVariants.{WsAccept, WsSend}
use Rattle.asgi_request.specs.Key.{base64}
use Rattle.base64.specs.Rfc4648.{encode_symbols}
use Rattle.sha1.specs.Sha1.{digest_bytes, sha1}
use Rattle.asgi_ws.specs.declared.messages.SentMessage.TheVariants.{Payload}
use Rattle.asgi_ws.specs.declared.messages.Msg.{Msg}
use Rattle.asgi_ws.specs.declared.messages.Msg.TheVariants.{Text, Ping, Close}
use Rattle.asgi_exchange.specs.Session.{Byte, Message}
use Rattle.asgi_conversation.specs.declared.input.InputEnd.TheVariants.{Open}
use Rattle.asgi_conversation.specs.declared.report.Outcome.TheVariants.{Finished}
use Rattle.asgi_conversation.specs.declared.report.Report.{Report}
use Rattle.asgi_conversation.specs.ExchangeRecord.{ExchangeRecord}
use Rattle.asgi_conversation.specs.Promised.{IsPromised}
use Rattle.asgi_conversation.specs.PromisedWhole.{ConversesInSessionWith, ConversationWith, ws_echo_promise}
use Rattle.asgi_conversation.specs.SessionEcho.{payloads_in}
use Rattle.asgi_conversation.specs.Sessions.{SessionTraffic, Accepted, ByClient, ServesHandshake, spoken, session_out}
use Rattle.asgi_conversation.specs.Kinds.{ConversesInSession}
use Rattle.asgi_conversation.proofs.ConversationLemmas.{in_session}
use Rattle.asgi_conversation.proofs.SessionExample.{limits, asked_text, facts, scope, asked_begins, hello, frame, accepted_text, said_is_lawful, text_is}

messages : List Msg
messages = Text hello ∷ Close (Some (1000, [])) ∷ []

-- the one payload is to be handed over, and nothing after the close
one_is_due : payloads_in messages ≡ Payload (payload.Text hello) ∷ []
unfolding messages
one_is_due = refl

none_after_a_close : payloads_in (Ping ∷ Close None ∷ Text hello ∷ []) ≡ []
none_after_a_close = refl

-- section 7.1.6: the masked close after the masked text
frames : List ℕ
frames = frame ++ 136 ∷ 130 ∷ 55 ∷ 250 ∷ 33 ∷ 61 ∷ 52 ∷ 18 ∷ []

closed : ExchangeRecord
closed = record {
  scope = scope;
  facts = facts;
  heard = WsConnect ∷ WsReceive (payload.Text hello) ∷ WsDisconnect 1000 [] ∷ [];
  said = WsAccept None [] ∷ WsSend (payload.Text hello) ∷ [];
  ended = Some Returned;
  input_broke = true;
}

traffic : SessionTraffic
traffic = record { leftover = Some frames; received = messages; is_over = true; handed = Payload (payload.Text hello) ∷ [] }

reported : Report
reported = record { exchanges = 1; faults = 0; turns = 5; idle = 0; outcome = Finished }

is_served : ServesHandshake limits false (asked_text ++ frames) closed traffic accepted_text
unfolding closed traffic messages
is_served = record {
  frames = frames;
  head = asked_begins frames;
  opens = Accepted None [] (WsSend (payload.Text hello) ∷ []) refl text_is refl;
  disconnect = WsDisconnect 1000 [];
  hears = record {
    first = WsConnect ∷ WsReceive (payload.Text hello) ∷ [];
    times = 1;
    in_order = refl;
    due = ([], refl);
    cause = inr (ByClient refl refl refl);
  };
  lawful = said_is_lawful;
  breaks = λ b. inl refl;
}

all_is_written : spoken accepted_text traffic ≡ session_out closed
unfolding closed traffic hello facts digits base64 encode_symbols sha1 digest_bytes
all_is_written = ap (λ text. map Byte text ++ Message (Payload (payload.Text hello)) ∷ []) text_is

it_is_a_session : ConversesInSession limits Open (asked_text ++ frames) (closed ∷ []) traffic accepted_text reported
unfolding reported closed traffic messages
it_is_a_session = record {
  answered = [];
  session = closed;
  in_order = refl;
  after = asked_text ++ frames;
  each = refl;
  text = accepted_text;
  serves = is_served;
  ends = ((Returned, refl, refl, all_is_written), λ input_broke. absurd (cc (input_broke)));
  written_is = refl;
  counts = record { exchanges_are = refl; faults_are = refl };
}

is_promised : IsPromised ws_echo_promise None None [] closed
unfolding closed scope
is_promised = (
  refl,
  record { before = WsConnect ∷ WsReceive (payload.Text hello) ∷ []; last = WsDisconnect 1000 []; in_order = refl; ends = refl; first = refl },
)

-- the premises of the laws hold of it
a_message_is_sent_back : ConversesInSessionWith ws_echo_promise limits Open (asked_text ++ frames) (closed ∷ []) traffic accepted_text reported
unfolding reported
a_message_is_sent_back = record {
  converses = it_is_a_session;
  uncut = refl;
  no_faults = refl;
  client = None;
  server = None;
  state = [];
  promised = All-cons (IsPromised ws_echo_promise None None []) closed [] is_promised (All-nil (IsPromised ws_echo_promise None None []));
}

-- and so do those of the laws of any conversation
it_is_a_conversation : ConversationWith ws_echo_promise limits Open (asked_text ++ frames) (closed ∷ []) traffic accepted_text reported
it_is_a_conversation = record {
  converses = in_session limits Open (asked_text ++ frames) (closed ∷ []) traffic accepted_text reported it_is_a_session;
  uncut = a_message_is_sent_back.uncut;
  no_faults = a_message_is_sent_back.no_faults;
  client = None;
  server = None;
  state = [];
  promised = All-cons (IsPromised ws_echo_promise None None []) closed [] is_promised (All-nil (IsPromised ws_echo_promise None None []));
}
