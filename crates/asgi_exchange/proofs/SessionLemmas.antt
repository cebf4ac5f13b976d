-- The exchange of an opening handshake is steady.
use Rattle.std.proofs.Common.{◌≡◌, ℕ, Bool, true, false, List, [], ◌∷◌, ◌++◌, Option, Some, None, refl, ap, sym, ◌∙◌, map, append_assoc, append-nil, ◌&&◌}
use Rattle.std.specs.Prelude.{if◌then◌else◌}
use Rattle.std.specs.List.{flat_map, fold}
use Rattle.std.proofs.lemmas.List.Concat.{flat_map-append}
use Rattle.std.proofs.lemmas.List.Sums.{fold-append}
use mathlib.Core.List.{IsPrefix}
use Rattle.asgi_types.specs.declared.facts.Facts.{Facts}
use Rattle.asgi_types.specs.declared.incoming.Incoming.TheVariants.{WsConnect, WsReceive}
use Rattle.asgi_types.specs.declared.incoming.Payload.TheVariants as payload
use Rattle.asgi_types.specs.declared.outgoing.Outgoing.{Outgoing}
use Rattle.asgi_types.specs.declared.outgoing.Outgoing.TheVariants.{ResponseStart, ResponseBody, ResponseTrailers, WsAccept, WsSend, WsClose, DenialStart, DenialBody, StartupComplete, StartupFailed, ShutdownComplete, ShutdownFailed}
use Rattle.asgi_types.specs.declared.scope.Kind.TheVariants.{WebSocket}
use Rattle.asgi_protocol.specs.Verdicts.{is_disconnect}
use Rattle.asgi_protocol.specs.Passing.{passes, each_passes}
use Rattle.asgi_protocol.specs.Lawful.{IsLawful}
use Rattle.asgi_protocol.proofs.PassingLemmas.{test_of_lawful}
use Rattle.asgi_response.specs.Denial.{closing_facts, as_response, denial_text}
use Rattle.asgi_response.specs.Exchange.{refusal_text}
use Rattle.asgi_response.specs.Response.{message_text, event_text}
use Rattle.asgi_response.proofs.LawLemmas.{message_after}
use Rattle.asgi_pipes.specs.Disconnects.{first_disconnect}
use Rattle.asgi_exchange.specs.Exchange.{IsSteady}
use Rattle.asgi_ws.specs.declared.messages.Msg.{Msg}
use Rattle.asgi_ws.specs.declared.messages.Msg.TheVariants.{Text, Bytes, Ping, Pong, Close}
use Rattle.asgi_exchange.specs.Messages.{events_in, before_close, first_close, has_close, disconnect_of}
use Rattle.asgi_exchange.specs.Session as session
use Rattle.asgi_exchange.specs.Session.{Output, Byte, Handshake, with_session_event, accepted_session, message_of, output_of, event_output, session_output}
use Rattle.asgi_exchange.specs.WebSocket.{web_socket}
use Rattle.asgi_exchange.proofs.ListLemmas.{prefix_after}
use Rattle.asgi_pipes.proofs.PrefixLemmas.{prefix_self, prefix_same}

-- ---- what is due

heard_grow : (messages more : List Msg) → IsPrefix (flat_map events_in (before_close messages)) (flat_map events_in (before_close (messages ++ more)))
heard_grow [] more = (flat_map events_in (before_close more), refl)
heard_grow (Text text ∷ messages) more =
    prefix_after (WsReceive (payload.Text text) ∷ []) (flat_map events_in (before_close messages)) (flat_map events_in (before_close (messages ++ more))) (heard_grow messages more)
heard_grow (Bytes bytes ∷ messages) more =
    prefix_after (WsReceive (payload.Bytes bytes) ∷ []) (flat_map events_in (before_close messages)) (flat_map events_in (before_close (messages ++ more))) (heard_grow messages more)
heard_grow (Ping ∷ messages) more = heard_grow messages more
heard_grow (Pong ∷ messages) more = heard_grow messages more
heard_grow (Close close ∷ messages) more = ([], refl)

no_disconnect : (messages : List Msg) → first_disconnect (flat_map events_in (before_close messages)) ≡ None
no_disconnect [] = refl
no_disconnect (Text text ∷ messages) = no_disconnect messages
no_disconnect (Bytes bytes ∷ messages) = no_disconnect messages
no_disconnect (Ping ∷ messages) = no_disconnect messages
no_disconnect (Pong ∷ messages) = no_disconnect messages
no_disconnect (Close close ∷ messages) = refl

-- after a close nothing changes
before_stays : (messages more : List Msg) → has_close messages ≡ true → before_close (messages ++ more) ≡ before_close messages
before_stays [] more h = cc
before_stays (Text text ∷ messages) more h = ap (λ w. Text text ∷ w) (before_stays messages more h)
before_stays (Bytes bytes ∷ messages) more h = ap (λ w. Bytes bytes ∷ w) (before_stays messages more h)
before_stays (Ping ∷ messages) more h = ap (λ w. Ping ∷ w) (before_stays messages more h)
before_stays (Pong ∷ messages) more h = ap (λ w. Pong ∷ w) (before_stays messages more h)
before_stays (Close close ∷ messages) more h = refl

first_stays : (messages more : List Msg) → has_close messages ≡ true → first_close (messages ++ more) ≡ first_close messages
first_stays [] more h = cc
first_stays (Text text ∷ messages) more h = first_stays messages more h
first_stays (Bytes bytes ∷ messages) more h = first_stays messages more h
first_stays (Ping ∷ messages) more h = first_stays messages more h
first_stays (Pong ∷ messages) more h = first_stays messages more h
first_stays (Close close ∷ messages) more h = refl

is_one : (close : Option (Option (ℕ × List ℕ))) → is_disconnect (disconnect_of close) ≡ true
is_one None = refl
is_one (Some None) = refl
is_one (Some (Some (code, reason))) = refl

-- ---- the text

pub map_append : {A B : Type 0} (f : A → B) (xs ys : List A) → map f (xs ++ ys) ≡ map f xs ++ map f ys
map_append f [] ys = refl
map_append f (x ∷ xs) ys = ap (λ w. f x ∷ w) (map_append f xs ys)

denial_after : (facts : Facts) (said : List Outgoing) (event : Outgoing)
    → denial_text facts (said ++ event ∷ []) ≡ denial_text facts said ++ event_text (closing_facts facts) (map as_response said) (as_response event)
denial_after facts said event =
    ap (message_text (closing_facts facts)) (map_append as_response said (event ∷ []))
    ∙ message_after (closing_facts facts) (map as_response said) (as_response event)

-- one more event adds its part
output_after : (handshake : Handshake) (facts : Facts) (said : List Outgoing) (event : Outgoing)
    → output_of handshake facts (said ++ event ∷ []) ≡ output_of handshake facts said ++ event_output handshake facts said event
output_after handshake facts [] (WsAccept a b) = append-nil (map Byte (handshake a b))
output_after handshake facts [] (WsClose a b) = refl
output_after handshake facts [] (DenialStart a b) = refl
output_after handshake facts [] (ResponseStart a b c) = refl
output_after handshake facts [] (ResponseBody a b) = refl
output_after handshake facts [] (ResponseTrailers a b) = refl
output_after handshake facts [] (WsSend a) = refl
output_after handshake facts [] (DenialBody a b) = refl
output_after handshake facts [] (StartupComplete a) = refl
output_after handshake facts [] (StartupFailed a) = refl
output_after handshake facts [] ShutdownComplete = refl
output_after handshake facts [] (ShutdownFailed a) = refl
output_after handshake facts (WsAccept subprotocol headers ∷ said) event =
    ap (λ w. map Byte (handshake subprotocol headers) ++ w)
    (flat_map-append message_of said (event ∷ []) ∙ ap (λ w. flat_map message_of said ++ w) (append-nil (message_of event)))
    ∙ sym (append_assoc (map Byte (handshake subprotocol headers)) (flat_map message_of said) (message_of event))
output_after handshake facts (WsClose code reason ∷ said) event = sym (append-nil (map Byte (refusal_text 403)))
output_after handshake facts (DenialStart status headers ∷ said) event =
    let start : List Outgoing = DenialStart status headers ∷ said in
    ap (map Byte) (denial_after facts start event)
    ∙ map_append Byte (denial_text facts start) (event_text (closing_facts facts) (map as_response start) (as_response event))
output_after handshake facts (ResponseStart a b c ∷ said) event = refl
output_after handshake facts (ResponseBody a b ∷ said) event = refl
output_after handshake facts (ResponseTrailers a b ∷ said) event = refl
output_after handshake facts (WsSend a ∷ said) event = refl
output_after handshake facts (DenialBody a b ∷ said) event = refl
output_after handshake facts (StartupComplete a ∷ said) event = refl
output_after handshake facts (StartupFailed a ∷ said) event = refl
output_after handshake facts (ShutdownComplete ∷ said) event = refl
output_after handshake facts (ShutdownFailed a ∷ said) event = refl

-- the events that have a text, with one more
accepted_more : (facts : Facts) (events : List Outgoing) (event : Outgoing) (b : Bool) → passes WebSocket facts (accepted_session facts events) event ≡ b
    → accepted_session facts (events ++ event ∷ []) ≡ (if b then accepted_session facts events ++ event ∷ [] else accepted_session facts events)
accepted_more facts events event b h =
    fold-append (with_session_event facts) [] events (event ∷ [])
    ∙ ap (λ (pass : Bool). if pass then accepted_session facts events ++ event ∷ [] else accepted_session facts events) h

pub event_adds : (handshake : Handshake) (facts : Facts) (events : List Outgoing) (event : Outgoing) → passes WebSocket facts (accepted_session facts events) event ≡ true
    → session_output handshake facts (events ++ event ∷ []) ≡ session_output handshake facts events ++ event_output handshake facts (accepted_session facts events) event
event_adds handshake facts events event h =
    ap (output_of handshake facts) (accepted_more facts events event true h) ∙ output_after handshake facts (accepted_session facts events) event

pub other_adds_nothing : (handshake : Handshake) (facts : Facts) (events : List Outgoing) (event : Outgoing) → passes WebSocket facts (accepted_session facts events) event ≡ false
    → session_output handshake facts (events ++ event ∷ []) ≡ session_output handshake facts events
other_adds_nothing handshake facts events event h = ap (output_of handshake facts) (accepted_more facts events event false h)

session_grows : (handshake : Handshake) (facts : Facts) (events : List Outgoing) (event : Outgoing)
    → IsPrefix (session_output handshake facts events) (session_output handshake facts (events ++ event ∷ []))
session_grows handshake facts events event = by (passes WebSocket facts (accepted_session facts events) event) refl
  where
    by : (b : Bool) → passes WebSocket facts (accepted_session facts events) event ≡ b → IsPrefix (session_output handshake facts events) (session_output handshake facts (events ++ event ∷ []))
    by true h = (event_output handshake facts (accepted_session facts events) event, sym (event_adds handshake facts events event h))
    by false h = prefix_same (session_output handshake facts events) (session_output handshake facts (events ++ event ∷ [])) (sym (other_adds_nothing handshake facts events event h))

-- if each event passes after those sent, all are accepted
all_accepted : (facts : Facts) (said events : List Outgoing) → each_passes (passes WebSocket facts) said events ≡ true → fold (with_session_event facts) said events ≡ said ++ events
all_accepted facts said [] h = sym (append-nil said)
all_accepted facts said (e ∷ events) h =
    let q = both (passes WebSocket facts said e) (each_passes (passes WebSocket facts) (said ++ e ∷ []) events) h in
    ap (λ (pass : Bool). fold (with_session_event facts) (if pass then said ++ e ∷ [] else said) events) q.0
    ∙ all_accepted facts (said ++ e ∷ []) events q.1 ∙ append_assoc said (e ∷ []) events
  where
    both : (a b : Bool) → (a && b) ≡ true → (a ≡ true) × (b ≡ true)
    both true b h = (refl, h)
    both false b h = absurd (cc (h))

pub lawful_is_accepted : (facts : Facts) (events : List Outgoing) → IsLawful WebSocket facts events → accepted_session facts events ≡ events
lawful_is_accepted facts events lawful = all_accepted facts [] events (test_of_lawful WebSocket facts events lawful)

pub web_socket_is_steady : (handshake : Handshake) (facts : Facts) (ring : ℕ) → IsSteady (web_socket handshake facts ring)
web_socket_is_steady handshake facts ring = record {
  due_grows = λ messages more.
      prefix_after (WsConnect ∷ []) (flat_map events_in (before_close messages)) (flat_map events_in (before_close (messages ++ more))) (heard_grow messages more);
  due_is_no_disconnect = no_disconnect;
  over_due = λ messages more h. ap (λ w. WsConnect ∷ flat_map events_in w) (before_stays messages more h);
  over_disconnect = λ messages more h. ap disconnect_of (first_stays messages more h);
  input_disconnect_is_one = λ messages. is_one (first_close messages);
  text_grows = session_grows handshake facts;
  added_grows = λ said kind broken messages more. prefix_self (session.session_ending facts said kind broken);
}
