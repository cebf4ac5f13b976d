-- A session with `WsEcho` sends the payloads received, in order, and the client's own close ends it.
use Rattle.std.proofs.Common.{◌≡◌, ℕ, ◌<◌, Bool, true, false, List, [], ◌∷◌, ◌++◌, ◌⊎◌, inl, inr, length, take, drop, map, flat_map, refl, sym, ap, ◌∙◌, subst, append_assoc, append-nil, take-append-drop, Option, Some, None, zero, suc, arith, All}
use Rattle.std.specs.Prelude.{◌||◌, replicate, is_some, if◌then◌else◌}
use Rattle.std.proofs.lemmas.List.Elements.{All-head, All-tail}
use mathlib.Core.List.{IsPrefix}
use Rattle.asgi_types.specs.Fields.{HeaderField}
use Rattle.asgi_types.specs.Scopes.{scope_with}
use Rattle.asgi_types.specs.declared.end_kind.EndKind.{EndKind}
use Rattle.asgi_types.specs.declared.end_kind.EndKind.TheVariants as kind
use Rattle.asgi_types.specs.declared.facts.Facts.{Facts}
use Rattle.asgi_types.specs.declared.incoming.Incoming.{Incoming}
use Rattle.asgi_types.specs.declared.incoming.Incoming.TheVariants.{HttpRequest, HttpDisconnect, WsConnect, WsReceive, WsDisconnect, LifespanStartup, LifespanShutdown}
use Rattle.asgi_types.specs.declared.incoming.Payload as payloads
use Rattle.asgi_types.specs.declared.incoming.Payload.TheVariants as payload
use Rattle.asgi_types.specs.declared.limits.Limits.{Limits}
use Rattle.asgi_types.specs.declared.outgoing.Outgoing.{Outgoing}
use Rattle.asgi_types.specs.declared.outgoing.Outgoing.TheVariants.{WsAccept, WsSend}
use Rattle.asgi_types.specs.declared.scope.Kind.TheVariants.{WebSocket}
use Rattle.asgi_types.specs.declared.scope.Peer.{Peer}
use Rattle.asgi_types.specs.declared.scope.Scope.{Scope}
use Rattle.asgi_types.specs.declared.state.StateValue.{StateValue}
use Rattle.asgi_protocol.specs.Lawful.{IsLawful}
use Rattle.asgi_protocol.specs.Shapes.{is_closed, is_empty, is_row, is_message, is_close}
use Rattle.asgi_protocol.specs.Verdicts.{is_disconnect}
use Rattle.asgi_protocol.proofs.PassingLemmas.{fronts_are_lawful}
use Rattle.asgi_protocol.proofs.WordLemmas.{test_of_word}
use Rattle.asgi_pipes.specs.Disconnects.{code_of, disconnect_in, first_disconnect, has_disconnect, is_accepted, last_of, or_else}
use Rattle.asgi_response.specs.Exchange.{refusal_text}
use Rattle.asgi_ws.specs.declared.messages.SentMessage.{SentMessage}
use Rattle.asgi_ws.specs.declared.messages.SentMessage.TheVariants.{Payload, Close}
use Rattle.asgi_ws.specs.declared.messages.Msg.{Msg}
use Rattle.asgi_ws.specs.declared.messages.Msg.TheVariants as msg
use Rattle.asgi_exchange.specs.Messages.{events_in, before_close, first_close, has_close, session_events, disconnect_of, session_disconnect}
use Rattle.asgi_exchange.specs.Session.{Output, Byte, Message, message_of, output_of, session_output, ending_of, session_ending}
use Rattle.asgi_exchange.specs.ExchangeTexts.{ending_after}
use Rattle.asgi_exchange.proofs.ListLemmas.{prefix_after}
use Rattle.asgi_pipes.proofs.PrefixLemmas.{prefix_self, prefix_same, prefix_trans}
use Rattle.asgi_exchange.proofs.SessionLemmas.{lawful_is_accepted}
use Rattle.asgi_apps.specs.Answers.{Answers}
use Rattle.asgi_apps.specs.WsEcho.{accept_events, messages_of, session_echo, HeardDisconnect, SessionAnswers}
use Rattle.asgi_conversation.specs.declared.input.InputEnd.{InputEnd}
use Rattle.asgi_conversation.specs.declared.report.Outcome.{Outcome}
use Rattle.asgi_conversation.specs.declared.report.Outcome.TheVariants.{Finished, Refused, InputBroke, Idle}
use Rattle.asgi_conversation.proofs.OutcomeLemmas.{IsWhole, AsFinished, AsRefused, AsInputBroke, is_whole}
use Rattle.asgi_conversation.specs.declared.report.Report.{Report}
use Rattle.asgi_conversation.specs.OutcomeClasses.{OutcomeClass, Uncut, ByWrite, GivenUp, Lacking, Unbegun, class_of, is_cut, is_cut_class}
use Rattle.asgi_conversation.specs.ExchangeRecord.{ExchangeRecord}
use Rattle.asgi_conversation.specs.Promised.{IsPromised, ArePromised, task_end}
use Rattle.asgi_conversation.specs.PromisedWhole.{ws_echo_promise}
use Rattle.asgi_conversation.specs.SessionEcho.{payloads_in, IsEchoed, IsOpened, IsRefused, IsBegun, EchoesUntil, EchoesUncut, EchoesAs}
use Rattle.asgi_conversation.specs.Sessions.{SessionTraffic, no_traffic, spoken, IsLeft, ByApplication, ByClient, ByCut, ServesHandshake, Opens, Accepted, Silent, handshake_of, said_out, session_out, session_outcome, open_outcome, after_session, IsSessionDone, IsNextOutput, StopsSession, EndsInSession, EndsInSessionAs}
use Rattle.asgi_conversation.specs.ExchangeRecord.{Beginning, Saying, Ending}
use Rattle.asgi_conversation.specs.Kinds.{ConversesInSession}

-- ---- a text and the messages after it

abbrev outputs : List ℕ → List SentMessage → List Output
outputs text handed = map Byte text ++ map Message handed

same_messages : (a b : List SentMessage) → map Message a ≡ map Message b → a ≡ b
same_messages [] [] e = refl
same_messages [] (y ∷ b) e = absurd (cc (e))
same_messages (x ∷ a) [] e = absurd (cc (e))
same_messages (x ∷ a) (y ∷ b) e = let rest = same_messages a b (cc (e)) in cc (e, rest)

same_outputs : (text other : List ℕ) (a b : List SentMessage) → outputs text a ≡ outputs other b → (text ≡ other) × (a ≡ b)
same_outputs [] [] a b e = (refl, same_messages a b e)
same_outputs [] (d ∷ other) [] b e = absurd (cc (e))
same_outputs [] (d ∷ other) (x ∷ a) b e = absurd (cc (e))
same_outputs (c ∷ text) [] a [] e = absurd (cc (e))
same_outputs (c ∷ text) [] a (y ∷ b) e = absurd (cc (e))
same_outputs (c ∷ text) (d ∷ other) a b e = let rest = same_outputs text other a b (cc (e)) in (cc (e, rest.0), rest.1)

front_messages : (a b : List SentMessage) → IsPrefix (map Message a) (map Message b) → IsPrefix a b
front_messages [] b p = (b, refl)
front_messages (x ∷ a) [] p = absurd (cc (p.1))
front_messages (x ∷ a) (y ∷ b) p = let rest = front_messages a b (p.0, cc (p.1)) in (rest.0, cc (p.1, rest.1))

front_outputs : (text other : List ℕ) (a b : List SentMessage) → IsPrefix (outputs text a) (outputs other b) → IsPrefix a b
front_outputs [] [] a b p = front_messages a b p
front_outputs [] (d ∷ other) [] b p = (b, refl)
front_outputs [] (d ∷ other) (x ∷ a) b p = absurd (cc (p.1))
front_outputs (c ∷ text) [] a [] p = absurd (cc (p.1))
front_outputs (c ∷ text) [] a (y ∷ b) p = absurd (cc (p.1))
front_outputs (c ∷ text) (d ∷ other) a b p = front_outputs text other a b (p.0, cc (p.1))

front_text : (text other : List ℕ) (a b : List SentMessage) → IsPrefix (outputs text a) (outputs other b) → IsPrefix text other
front_text [] other a b p = (other, refl)
front_text (c ∷ text) [] a [] p = absurd (cc (p.1))
front_text (c ∷ text) [] a (y ∷ b) p = absurd (cc (p.1))
front_text (c ∷ text) (d ∷ other) a b p = let rest = front_text text other a b (p.0, cc (p.1)) in (rest.0, cc (p.1, rest.1))

one_more_message : (text : List ℕ) (a : List SentMessage) (last : SentMessage) → outputs text a ++ Message last ∷ [] ≡ outputs text (a ++ last ∷ [])
one_more_message [] [] last = refl
one_more_message [] (x ∷ a) last = ap (λ (l : List Output). Message x ∷ l) (one_more_message [] a last)
one_more_message (c ∷ text) a last = ap (λ (l : List Output). Byte c ∷ l) (one_more_message text a last)

-- ---- what is sent for the events of messages

abbrev events_of : List Msg → List Incoming
events_of received = flat_map events_in (before_close received)

-- all that is sent, as messages
sent_back : (received : List Msg) → flat_map message_of (messages_of (events_of received)) ≡ map Message (payloads_in received)
sent_back [] = refl
sent_back (msg.Text text ∷ received) = ap (λ (l : List Output). Message (Payload (payload.Text text)) ∷ l) (sent_back received)
sent_back (msg.Bytes bytes ∷ received) = ap (λ (l : List Output). Message (Payload (payload.Bytes bytes)) ∷ l) (sent_back received)
sent_back (msg.Ping ∷ received) = sent_back received
sent_back (msg.Pong ∷ received) = sent_back received
sent_back (msg.Close close ∷ received) = refl

-- these are sent as a prefix of the payloads
abbrev IsSentAs : List Outgoing → List SentMessage → Type 0
IsSentAs sends payloads = (sent : List SentMessage) × (flat_map message_of sends ≡ map Message sent) × IsPrefix sent payloads

one_more_sent : (p : payloads.Payload) (send : Outgoing) (sends : List Outgoing) (more : List SentMessage) → send ≡ WsSend p → IsSentAs sends more → IsSentAs (send ∷ sends) (Payload p ∷ more)
one_more_sent p send sends more same on = (
  Payload p ∷ on.0,
  ap (λ (o : Outgoing). message_of o ++ flat_map message_of sends) same ∙ ap (λ (l : List Output). Message (Payload p) ∷ l) on.1,
  (on.2.0, ap (λ (l : List SentMessage). Payload p ∷ l) on.2.1),
)

-- and a prefix of them
sent_front : (received : List Msg) (sends rest : List Outgoing) → sends ++ rest ≡ messages_of (events_of received) → IsSentAs sends (payloads_in received)
sent_front received [] rest e = ([], refl, (payloads_in received, refl))
sent_front [] (s ∷ sends) rest e = absurd (cc (e))
sent_front (msg.Text text ∷ received) (s ∷ sends) rest e = one_more_sent (payload.Text text) s sends (payloads_in received) (cc (e)) (sent_front received sends rest (cc (e)))
sent_front (msg.Bytes bytes ∷ received) (s ∷ sends) rest e = one_more_sent (payload.Bytes bytes) s sends (payloads_in received) (cc (e)) (sent_front received sends rest (cc (e)))
sent_front (msg.Ping ∷ received) (s ∷ sends) rest e = sent_front received (s ∷ sends) rest e
sent_front (msg.Pong ∷ received) (s ∷ sends) rest e = sent_front received (s ∷ sends) rest e
sent_front (msg.Close close ∷ received) (s ∷ sends) rest e = absurd (cc (e))

-- ---- more events, and disconnects

messages_grow : (first more : List Incoming) → IsPrefix (messages_of first) (messages_of (first ++ more))
messages_grow [] more = (messages_of more, refl)
messages_grow (HttpRequest b m ∷ first) more = messages_grow first more
messages_grow (HttpDisconnect ∷ first) more = ([], refl)
messages_grow (WsConnect ∷ first) more = messages_grow first more
messages_grow (WsReceive p ∷ first) more = let on = messages_grow first more in (on.0, ap (λ (l : List Outgoing). WsSend p ∷ l) on.1)
messages_grow (WsDisconnect c r ∷ first) more = ([], refl)
messages_grow (LifespanStartup ∷ first) more = messages_grow first more
messages_grow (LifespanShutdown ∷ first) more = messages_grow first more

echo_grows : (first more : List Incoming) → IsPrefix (session_echo first) (session_echo (first ++ more))
echo_grows [] more = (session_echo more, refl)
echo_grows (HttpRequest b m ∷ first) more = echo_grows first more
echo_grows (HttpDisconnect ∷ first) more = ([], refl)
echo_grows (WsConnect ∷ first) more = prefix_after accept_events (messages_of first) (messages_of (first ++ more)) (messages_grow first more)
echo_grows (WsReceive p ∷ first) more = echo_grows first more
echo_grows (WsDisconnect c r ∷ first) more = ([], refl)
echo_grows (LifespanStartup ∷ first) more = echo_grows first more
echo_grows (LifespanShutdown ∷ first) more = echo_grows first more

module _ (code : ℕ) (reason : List ℕ) where
  no_messages : (times : ℕ) → messages_of (replicate times (WsDisconnect code reason)) ≡ []
  no_messages zero = refl
  no_messages (suc times) = refl

  messages_after : (first : List Incoming) (times : ℕ) → messages_of (first ++ replicate times (WsDisconnect code reason)) ≡ messages_of first
  messages_after [] times = no_messages times
  messages_after (HttpRequest b m ∷ first) times = messages_after first times
  messages_after (HttpDisconnect ∷ first) times = refl
  messages_after (WsConnect ∷ first) times = messages_after first times
  messages_after (WsReceive p ∷ first) times = ap (λ (l : List Outgoing). WsSend p ∷ l) (messages_after first times)
  messages_after (WsDisconnect c r ∷ first) times = refl
  messages_after (LifespanStartup ∷ first) times = messages_after first times
  messages_after (LifespanShutdown ∷ first) times = messages_after first times

  no_echo : (times : ℕ) → session_echo (replicate times (WsDisconnect code reason)) ≡ []
  no_echo zero = refl
  no_echo (suc times) = refl

  echo_after : (first : List Incoming) (times : ℕ) → session_echo (first ++ replicate times (WsDisconnect code reason)) ≡ session_echo first
  echo_after [] times = no_echo times
  echo_after (HttpRequest b m ∷ first) times = echo_after first times
  echo_after (HttpDisconnect ∷ first) times = refl
  echo_after (WsConnect ∷ first) times = ap (λ (l : List Outgoing). accept_events ++ l) (messages_after first times)
  echo_after (WsReceive p ∷ first) times = echo_after first times
  echo_after (WsDisconnect c r ∷ first) times = refl
  echo_after (LifespanStartup ∷ first) times = echo_after first times
  echo_after (LifespanShutdown ∷ first) times = echo_after first times

  -- if there is none before the last event, it is heard once
  once : (first : List Incoming) (n : ℕ) (before : List Incoming) (last : Incoming) → first ++ replicate (suc n) (WsDisconnect code reason) ≡ before ++ last ∷ []
      → has_disconnect before ≡ false → n ≡ 0
  once [] zero before last e h = refl
  once [] (suc n) [] last e h = absurd (cc (e))
  once [] (suc n) (b ∷ before) last e h =
      let same : b ≡ WsDisconnect code reason = cc (e) in
      let none : has_disconnect (WsDisconnect code reason ∷ before) ≡ false = ap (λ (x : Incoming). has_disconnect (x ∷ before)) (sym same) ∙ h in absurd (cc (none))
  once (f ∷ []) n [] last e h = absurd (cc (e))
  once (f ∷ g ∷ first) n [] last e h = absurd (cc (e))
  once (f ∷ first) n (b ∷ before) last e h = once first n before last (cc (e)) (after (disconnect_in b) (first_disconnect before) h)
    where
      after : (one another : Option Incoming) → is_some (or_else one another) ≡ false → is_some another ≡ false
      after None another h = h
      after (Some x) another h = absurd (cc (h))

-- no event of a message is a disconnect
no_disconnect : (received : List Msg) (before rest : List Incoming) (last : Incoming) → before ++ last ∷ rest ≡ events_of received → is_disconnect last ≡ true → ⊥
no_disconnect [] [] rest last e h = cc
no_disconnect [] (b ∷ before) rest last e h = cc
no_disconnect (msg.Text text ∷ received) [] rest last e h =
    let same : last ≡ WsReceive (payload.Text text) = cc (e) in let is : is_disconnect (WsReceive (payload.Text text)) ≡ true = ap is_disconnect (sym same) ∙ h in cc (is)
no_disconnect (msg.Text text ∷ received) (b ∷ before) rest last e h = no_disconnect received before rest last (cc (e)) h
no_disconnect (msg.Bytes bytes ∷ received) [] rest last e h =
    let same : last ≡ WsReceive (payload.Bytes bytes) = cc (e) in let is : is_disconnect (WsReceive (payload.Bytes bytes)) ≡ true = ap is_disconnect (sym same) ∙ h in cc (is)
no_disconnect (msg.Bytes bytes ∷ received) (b ∷ before) rest last e h = no_disconnect received before rest last (cc (e)) h
no_disconnect (msg.Ping ∷ received) before rest last e h = no_disconnect received before rest last e h
no_disconnect (msg.Pong ∷ received) before rest last e h = no_disconnect received before rest last e h
no_disconnect (msg.Close close ∷ received) [] rest last e h = cc
no_disconnect (msg.Close close ∷ received) (b ∷ before) rest last e h = cc

not_due : (received : List Msg) (before rest : List Incoming) (last : Incoming) → before ++ last ∷ rest ≡ session_events received → is_disconnect last ≡ true → ⊥
not_due received [] rest last e h =
    let same : last ≡ WsConnect = cc (e) in let is : is_disconnect WsConnect ≡ true = ap is_disconnect (sym same) ∙ h in cc (is)
not_due received (b ∷ before) rest last e h = no_disconnect received before rest last (cc (e)) h

-- ---- it never closes

no_row : (heard : List Incoming) (front rest : List Outgoing) → front ++ rest ≡ messages_of heard → is_row is_message is_close is_empty front ≡ false
no_row heard [] rest e = refl
no_row [] (f ∷ front) rest e = absurd (cc (e))
no_row (WsReceive p ∷ heard) (f ∷ front) rest e =
    let same : f ≡ WsSend p = cc (e) in
    let on = no_row heard front rest (cc (e)) in
    ap (λ (o : Outgoing). is_row is_message is_close is_empty (o ∷ front)) same ∙ ap (λ (b : Bool). b || false) on
no_row (HttpRequest b m ∷ heard) (f ∷ front) rest e = no_row heard (f ∷ front) rest e
no_row (HttpDisconnect ∷ heard) (f ∷ front) rest e = absurd (cc (e))
no_row (WsConnect ∷ heard) (f ∷ front) rest e = no_row heard (f ∷ front) rest e
no_row (WsDisconnect c r ∷ heard) (f ∷ front) rest e = absurd (cc (e))
no_row (LifespanStartup ∷ heard) (f ∷ front) rest e = no_row heard (f ∷ front) rest e
no_row (LifespanShutdown ∷ heard) (f ∷ front) rest e = no_row heard (f ∷ front) rest e

stays_open : (heard : List Incoming) (said rest : List Outgoing) → said ++ rest ≡ session_echo heard → is_closed WebSocket said ≡ false
stays_open heard [] rest e = refl
stays_open [] (s ∷ said) rest e = absurd (cc (e))
stays_open (WsConnect ∷ heard) (s ∷ said) rest e =
    let same : s ≡ WsAccept None [] = cc (e) in ap (λ (o : Outgoing). is_closed WebSocket (o ∷ said)) same ∙ no_row heard said rest (cc (e))
stays_open (HttpRequest b m ∷ heard) (s ∷ said) rest e = stays_open heard (s ∷ said) rest e
stays_open (HttpDisconnect ∷ heard) (s ∷ said) rest e = absurd (cc (e))
stays_open (WsReceive p ∷ heard) (s ∷ said) rest e = stays_open heard (s ∷ said) rest e
stays_open (WsDisconnect c r ∷ heard) (s ∷ said) rest e = absurd (cc (e))
stays_open (LifespanStartup ∷ heard) (s ∷ said) rest e = stays_open heard (s ∷ said) rest e
stays_open (LifespanShutdown ∷ heard) (s ∷ said) rest e = stays_open heard (s ∷ said) rest e

-- what is sent for all messages
abbrev all_said : List Msg → List Outgoing
all_said received = WsAccept None [] ∷ messages_of (events_of received)

-- ---- what is written for a prefix of them

record FrontOut (facts : Facts) (received : List Msg) (said : List Outgoing) : Type 0 where
  pub text : List ℕ
  pub sent : List SentMessage
  pub out_is : session_output (handshake_of facts) facts said ≡ outputs text sent
  pub text_first : IsPrefix text (handshake_of facts None [])
  pub first : IsPrefix sent (payloads_in received)

front_out : (facts : Facts) (received : List Msg) (said rest : List Outgoing) → IsLawful WebSocket facts said → said ++ rest ≡ all_said received → FrontOut facts received said
front_out facts received [] rest lawful e = record { text = []; sent = []; out_is = refl; text_first = (handshake_of facts None [], refl); first = (payloads_in received, refl) }
front_out facts received (s ∷ said) rest lawful e =
    let same : s ≡ WsAccept None [] = cc (e) in
    let on = sent_front received said rest (cc (e)) in
    record {
      text = handshake_of facts None [];
      sent = on.0;
      out_is = ap (output_of (handshake_of facts) facts) (lawful_is_accepted facts (s ∷ said) lawful)
          ∙ ap (λ (o : Outgoing). output_of (handshake_of facts) facts (o ∷ said)) same
          ∙ ap (λ (l : List Output). map Byte (handshake_of facts None []) ++ l) on.1;
      text_first = prefix_self (handshake_of facts None []);
      first = on.2;
    }

-- ---- one session

-- the disconnect of a client
client_disconnect : (close : Option (Option (ℕ × List ℕ))) → (code : ℕ) × (reason : List ℕ) × (disconnect_of close ≡ WsDisconnect code reason)
client_disconnect None = (1006, [], refl)
client_disconnect (Some None) = (1005, [], refl)
client_disconnect (Some (Some (code, reason))) = (code, reason, refl)

left_disconnect : (cut : Bool) (x : ExchangeRecord) (received : List Msg) (first : List Incoming) (disconnect : Incoming) → IsLeft cut x received first disconnect
    → (code : ℕ) × (reason : List ℕ) × (disconnect ≡ WsDisconnect code reason)
left_disconnect cut x received first last (ByApplication closed is) = (code_of (is_accepted x.said) (last_of x.said), [], is)
left_disconnect cut x received first last (ByClient input_broke all is) = let d = client_disconnect (first_close received) in (d.0, d.1, is ∙ d.2)
left_disconnect cut x received first last (ByCut is_so is) = (1006, [], is)

said_first : (heard : List Incoming) (said : List Outgoing) (ended : Option EndKind) → Answers (Some (session_echo heard)) heard said ended → IsPrefix said (session_echo heard)
said_first heard said None p = p
said_first heard said (Some kind.Returned) e = prefix_same said (session_echo heard) e
said_first heard said (Some kind.Faulted) e = (session_echo heard, ap (λ (l : List Outgoing). l ++ session_echo heard) e.1)
said_first heard said (Some kind.Idle) p = p

either_way : (b : Bool) (more : List Output) → (if b then more else more) ≡ more
either_way true more = refl
either_way false more = refl

module _ (limits : Limits) (cut : Bool) (bytes : List ℕ) (x : ExchangeRecord) (traffic : SessionTraffic) (text : List ℕ) (s : ServesHandshake limits cut bytes x traffic text)
    (client server : Option Peer) (values : List (List ℕ × StateValue)) (p : IsPromised ws_echo_promise client server values x) where
  promise : SessionAnswers x.heard x.said (task_end x.ended)
  promise = subst (λ (scope : Scope). ws_echo_promise (scope_with scope client server values) x.heard x.said (task_end x.ended)) s.head.scope_is p

  promised_at : (k : EndKind) → x.ended ≡ Some k → SessionAnswers x.heard x.said (task_end (Some k))
  promised_at k e = subst (λ (ended : Option EndKind). SessionAnswers x.heard x.said (task_end ended)) e promise

  -- nothing is sent for disconnects
  echo_is : session_echo x.heard ≡ session_echo s.hears.first
  echo_is = by s.hears.cause
    where
      by : (s.hears.times ≡ 0) ⊎ IsLeft cut x traffic.received s.hears.first s.disconnect → session_echo x.heard ≡ session_echo s.hears.first
      by (inl none) =
          ap session_echo (s.hears.in_order ∙ ap (λ (n : ℕ). s.hears.first ++ replicate n s.disconnect) none ∙ append-nil s.hears.first)
      by (inr why) =
          let d = left_disconnect cut x traffic.received s.hears.first s.disconnect why in
          ap session_echo (s.hears.in_order ∙ ap (λ (e : Incoming). s.hears.first ++ replicate s.hears.times e) d.2) ∙ echo_after d.0 d.1 s.hears.first s.hears.times

  said_echo : IsPrefix x.said (session_echo x.heard)
  said_echo = said_first x.heard x.said (task_end x.ended) promise.0

  said_due : IsPrefix x.said (all_said traffic.received)
  said_due =
      let due = subst (λ (l : List Incoming). IsPrefix (session_echo s.hears.first) (session_echo l)) s.hears.due.1 (echo_grows s.hears.first s.hears.due.0) in
      prefix_trans x.said (session_echo s.hears.first) (all_said traffic.received)
      (subst (λ (l : List Outgoing). IsPrefix x.said l) echo_is said_echo) due

  said_out_is : FrontOut x.facts traffic.received x.said
  said_out_is = front_out x.facts traffic.received x.said said_due.0 s.lawful said_due.1

  messages_follow : (traffic ≡ no_traffic) ⊎ (text ≡ handshake_of x.facts None [])
  messages_follow = by s.opens
    where
      by : Opens s.frames x traffic text → (traffic ≡ no_traffic) ⊎ (text ≡ handshake_of x.facts None [])
      by (Silent quiet) = inl quiet
      by (Accepted subprotocol headers events said text_is left) =
          let all : (WsAccept subprotocol headers ∷ events) ++ said_due.0 ≡ all_said traffic.received = ap (λ (l : List Outgoing). l ++ said_due.0) (sym said) ∙ said_due.1 in
          let none : subprotocol ≡ None = cc (all) in
          let no_fields : headers ≡ [] = cc (all) in
          inr (text_is ∙ ap (λ (o : Option (List ℕ)). handshake_of x.facts o headers) none ∙ ap (λ (l : List HeaderField). handshake_of x.facts None l) no_fields)

  -- ---- what the end of the task adds

  abbrev EndAs : List Output → Type 0
  EndAs more = ((x.said ≡ []) × (more ≡ map Byte (refusal_text 500))) ⊎ ((more ≡ []) ⊎ (more ≡ Message (Close 1000 []) ∷ []))

  returned_adds : EndAs (session_ending x.facts x.said kind.Returned x.input_broke)
  returned_adds =
      subst EndAs (sym (ap (ending_of 1000 x.input_broke) (lawful_is_accepted x.facts x.said s.lawful))) (by x.said refl)
    where
      close : (closed input_broke : Bool) → ((if closed then [] else (if input_broke then [] else Message (Close 1000 []) ∷ [])) ≡ []) ⊎ ((if closed then [] else (if input_broke then [] else Message (Close 1000 []) ∷ [])) ≡ Message (Close 1000 []) ∷ [])
      close true input_broke = inl refl
      close false true = inl refl
      close false false = inr refl

      by : (said : List Outgoing) → x.said ≡ said → EndAs (ending_of 1000 x.input_broke said)
      by [] e = inl (e, refl)
      by (o ∷ said) e =
          let all : (o ∷ said) ++ said_due.0 ≡ all_said traffic.received = ap (λ (l : List Outgoing). l ++ said_due.0) (sym e) ∙ said_due.1 in
          let same : o ≡ WsAccept None [] = cc (all) in
          subst (λ (f : Outgoing). EndAs (ending_of 1000 x.input_broke (f ∷ said))) (sym same) (inr (close (is_closed WebSocket (WsAccept None [] ∷ said)) x.input_broke))

  end_adds : (k : EndKind) → x.ended ≡ Some k → EndAs (session_ending x.facts x.said k x.input_broke)
  end_adds kind.Returned e = returned_adds
  end_adds kind.Faulted e =
      let none : x.said ≡ [] = (promised_at kind.Faulted e).0.1 in
      inl (none, ap (λ (l : List Outgoing). session_ending x.facts l kind.Faulted x.input_broke) none)
  end_adds kind.Idle e = inr (inl refl)

  -- ---- a prefix of that

  abbrev TextIs : Type 0
  TextIs = IsPrefix text (handshake_of x.facts None []) ⊎ IsPrefix text (refusal_text 500)

  begun_of : (other : List ℕ) (sent : List SentMessage) → IsPrefix (spoken text traffic) (outputs other sent) → IsPrefix sent (payloads_in traffic.received) → IsBegun traffic
  begun_of other sent q first = prefix_trans traffic.handed sent (payloads_in traffic.received) (front_outputs text other traffic.handed sent q) first

  begun_in : (said : List Outgoing) → FrontOut x.facts traffic.received said → IsPrefix (spoken text traffic) (session_output (handshake_of x.facts) x.facts said) → TextIs × IsBegun traffic
  begun_in said out q =
      let w = subst (λ (l : List Output). IsPrefix (spoken text traffic) l) out.out_is q in
      (inl (prefix_trans text out.text (handshake_of x.facts None []) (front_text text out.text traffic.handed out.sent w) out.text_first), begun_of out.text out.sent w out.first)

  -- nothing was sent, and the server answered
  begun_refusal : (more : List Output) → (x.said ≡ []) × (more ≡ map Byte (refusal_text 500))
      → IsPrefix (spoken text traffic) (session_output (handshake_of x.facts) x.facts x.said ++ more) → TextIs × IsBegun traffic
  begun_refusal more r q =
      let all : session_output (handshake_of x.facts) x.facts x.said ++ more ≡ outputs (refusal_text 500) [] =
      ap (λ (l : List Outgoing). session_output (handshake_of x.facts) x.facts l ++ more) r.0 ∙ r.1 ∙ sym (append-nil (map Byte (refusal_text 500))) in
      let w = subst (λ (l : List Output). IsPrefix (spoken text traffic) l) all q in
      (inr (front_text text (refusal_text 500) traffic.handed [] w), begun_of (refusal_text 500) [] w (payloads_in traffic.received, refl))

  -- a write failed
  stops : (n : ℕ) → StopsSession n x (spoken text traffic) → TextIs × IsBegun traffic
  stops n t = by t.is_next
    where
      within : IsPrefix (spoken text traffic) (t.out ++ t.more)
      within =
          subst (λ (l : List Output). IsPrefix l (t.out ++ t.more)) (sym t.written_is) (prefix_after t.out (take n t.more) t.more (drop n t.more, take-append-drop n t.more))

      ending : (k : EndKind) → t.out ≡ session_output (handshake_of x.facts) x.facts x.said → EndAs t.more → TextIs × IsBegun traffic
      ending k out (inl r) =
          begun_refusal t.more r (subst (λ (l : List Output). IsPrefix (spoken text traffic) (l ++ t.more)) out within)
      ending k out (inr (inl none)) =
          begun_in x.said said_out_is
          (subst (λ (l : List Output). IsPrefix (spoken text traffic) l) (ap (λ (l : List Output). t.out ++ l) none ∙ append-nil t.out ∙ out) within)
      ending k out (inr (inr close)) =
          let short : n < length (Message (Close 1000 []) ∷ []) = subst (λ (l : List Output). n < length l) close t.within in
          let zero_is : n ≡ 0 = omega (arith, short) in
          begun_in x.said said_out_is
          (prefix_same (spoken text traffic) (session_output (handshake_of x.facts) x.facts x.said)
          (t.written_is ∙ ap (λ (k : ℕ). t.out ++ take k t.more) zero_is ∙ append-nil t.out ∙ out))

      by : IsNextOutput x t.out t.more → TextIs × IsBegun traffic
      by (Beginning none is) =
          let short : n < 0 = subst (λ (l : List Output). n < length l) is t.within in
          absurd (omega (arith, short))
      by (Saying before after event said out next) =
          let front : (before ++ event ∷ []) ++ after ≡ x.said = append_assoc before (event ∷ []) after ∙ sym said in
          let lawful = fronts_are_lawful WebSocket x.facts (before ++ event ∷ []) after (subst (λ (l : List Outgoing). IsLawful WebSocket x.facts l) (sym front) s.lawful) in
          let due = prefix_trans (before ++ event ∷ []) x.said (all_said traffic.received) (after, front) said_due in
          begun_in (before ++ event ∷ []) (front_out x.facts traffic.received (before ++ event ∷ []) due.0 lawful due.1)
          (subst (λ (l : List Output). IsPrefix (spoken text traffic) l) (sym next) within)
      by (Ending k ended out more) = ending k out (subst EndAs (sym more) (end_adds k ended))

  -- the connection was given up
  gives_up : IsPrefix (spoken text traffic) (said_out x) → TextIs × IsBegun traffic
  gives_up q = begun_in x.said said_out_is q

-- ---- one that nothing cut short

abbrev pub outcome_for : Bool → Outcome
outcome_for closed = if closed then Finished else InputBroke

-- all was sent back, or there was no task, or a limit stopped the task
abbrev DoneAs : (frames : List ℕ) → ExchangeRecord → SessionTraffic → List ℕ → Outcome → Type 0
DoneAs frames x traffic text o =
    (IsEchoed frames x traffic text × (outcome_for (has_close traffic.received) ≡ o)) ⊎ ((IsRefused 500 x traffic text × (Refused 500 ≡ o)) ⊎ (Idle ≡ o))

module _ (limits : Limits) (bytes : List ℕ) (x : ExchangeRecord) (traffic : SessionTraffic) (text : List ℕ) (s : ServesHandshake limits false bytes x traffic text)
    (client server : Option Peer) (values : List (List ℕ × StateValue)) (p : IsPromised ws_echo_promise client server values x) where
  -- the task returned
  module _ (r : x.ended ≡ Some kind.Returned) where
    echoed : (x.said ≡ session_echo x.heard) × HeardDisconnect x.heard
    echoed = promised_at limits false bytes x traffic text s client server values p kind.Returned r

    not_none : s.hears.times ≡ 0 → ⊥
    not_none none =
        let alone : x.heard ≡ s.hears.first = s.hears.in_order ∙ ap (λ (n : ℕ). s.hears.first ++ replicate n s.disconnect) none ∙ append-nil s.hears.first in
        let h = echoed.1 in
        not_due traffic.received h.before s.hears.due.0 h.last
        (sym (append_assoc h.before (h.last ∷ []) s.hears.due.0) ∙ ap (λ (l : List Incoming). l ++ s.hears.due.0) (sym h.in_order ∙ alone) ∙ s.hears.due.1) h.ends

    by_client : (x.input_broke ≡ true) × (s.hears.first ≡ session_events traffic.received) × (s.disconnect ≡ session_disconnect traffic.received)
    by_client = by s.hears.cause
      where
        left : IsLeft false x traffic.received s.hears.first s.disconnect
            → (x.input_broke ≡ true) × (s.hears.first ≡ session_events traffic.received) × (s.disconnect ≡ session_disconnect traffic.received)
        left (ByApplication closed is) =
            let front = said_echo limits false bytes x traffic text s client server values p in
            absurd (let open_still = stays_open x.heard x.said front.0 front.1 in cc (test_of_word WebSocket x.said closed, open_still))
        left (ByClient input_broke all is) = (input_broke, all, is)
        left (ByCut is_so is) = absurd (cc (is_so))

        by : (s.hears.times ≡ 0) ⊎ IsLeft false x traffic.received s.hears.first s.disconnect
            → (x.input_broke ≡ true) × (s.hears.first ≡ session_events traffic.received) × (s.disconnect ≡ session_disconnect traffic.received)
        by (inl none) = absurd (not_none none)
        by (inr why) = left why

    heard_all : x.heard ≡ session_events traffic.received ++ session_disconnect traffic.received ∷ []
    heard_all = by s.hears.times refl
      where
        by : (n : ℕ) → s.hears.times ≡ n → x.heard ≡ session_events traffic.received ++ session_disconnect traffic.received ∷ []
        by zero e = absurd (not_none e)
        by (suc n) e =
            let d = client_disconnect (first_close traffic.received) in
            let h = echoed.1 in
            let f = s.hears.first in
            let times : x.heard ≡ f ++ replicate (suc n) s.disconnect = s.hears.in_order ∙ ap (λ (k : ℕ). f ++ replicate k s.disconnect) e in
            let one : n ≡ 0 =
            once d.0 d.1 f n h.before h.last (ap (λ (i : Incoming). f ++ replicate (suc n) i) (sym (by_client.2 ∙ d.2)) ∙ sym times ∙ h.in_order) h.first in
            times ∙ ap (λ (k : ℕ). f ++ replicate (suc k) s.disconnect) one ∙ ap (λ (l : List Incoming). l ++ s.disconnect ∷ []) by_client.1
            ∙ ap (λ (i : Incoming). session_events traffic.received ++ i ∷ []) by_client.2

    said_all : x.said ≡ all_said traffic.received
    said_all = echoed.0 ∙ echo_is limits false bytes x traffic text s client server values p ∙ ap session_echo by_client.1

    stays : is_closed WebSocket (all_said traffic.received) ≡ false
    stays = stays_open (session_events traffic.received) (all_said traffic.received) [] (append-nil (all_said traffic.received))

    out_all : session_out x ≡ outputs (handshake_of x.facts None []) (payloads_in traffic.received)
    out_all =
        let hand = handshake_of x.facts in
        ap (λ (k : Option EndKind). session_output hand x.facts x.said ++ ending_after x.facts x.said k x.input_broke) r
        ∙ ap (λ (b : Bool). session_output hand x.facts x.said ++ session_ending x.facts x.said kind.Returned b) by_client.0
        ∙ ap (λ (l : List Outgoing). output_of hand x.facts l ++ ending_of 1000 true l) (lawful_is_accepted x.facts x.said s.lawful ∙ said_all)
        ∙ ap (λ (l : List Output). output_of hand x.facts (all_said traffic.received) ++ l) (either_way (is_closed WebSocket (all_said traffic.received)) [])
        ∙ append-nil (output_of hand x.facts (all_said traffic.received))
        ∙ ap (λ (l : List Output). map Byte (hand None []) ++ l) (sent_back traffic.received)

    begins : traffic.leftover ≡ Some s.frames
    begins = by s.opens
      where
        over : traffic ≡ no_traffic → (has_close traffic.received ≡ true) ⊎ (traffic.is_over ≡ true) → ⊥
        over quiet (inl closed) = let none : has_close [] ≡ true = ap (λ (t : SessionTraffic). has_close t.received) (sym quiet) ∙ closed in cc (none)
        over quiet (inr ended) = let none : false ≡ true = ap (λ (t : SessionTraffic). t.is_over) (sym quiet) ∙ ended in cc (none)

        by : Opens s.frames x traffic text → traffic.leftover ≡ Some s.frames
        by (Accepted subprotocol headers events said text_is left) = left
        by (Silent quiet) = absurd (over quiet (s.breaks by_client.0))

    outcome_is : session_outcome x.said x.input_broke traffic.received ≡ outcome_for (has_close traffic.received)
    outcome_is =
        ap (λ (l : List Outgoing). session_outcome l x.input_broke traffic.received) said_all ∙ ap (λ (b : Bool). session_outcome (all_said traffic.received) b traffic.received) by_client.0
        ∙ ap (λ (c : Bool). if c then Finished else open_outcome true traffic.received) stays

    returned_done : (o : Outcome) → session_outcome x.said x.input_broke traffic.received ≡ o → spoken text traffic ≡ session_out x → DoneAs s.frames x traffic text o
    returned_done o after out =
        let same = same_outputs text (handshake_of x.facts None []) traffic.handed (payloads_in traffic.received) (out ∙ out_all) in
        inl (record { accepted = same.0; begins = begins; heard = heard_all; handed = same.1 }, sym outcome_is ∙ after)

  -- the application faulted, at its call
  faulted_done : (o : Outcome) → x.ended ≡ Some kind.Faulted → session_outcome x.said x.input_broke traffic.received ≡ o → spoken text traffic ≡ session_out x → DoneAs s.frames x traffic text o
  faulted_done o e after out =
      inr (inl (record { failed = e; status_is = refl; text_is = same.0; quiet = quiet }, ap (λ (l : List Outgoing). session_outcome l x.input_broke traffic.received) (sym none) ∙ after))
    where
      none : x.said ≡ []
      none = (promised_at limits false bytes x traffic text s client server values p kind.Faulted e).0.1

      refused : session_out x ≡ outputs (refusal_text 500) []
      refused =
          let hand = handshake_of x.facts in
          ap (λ (k : Option EndKind). session_output hand x.facts x.said ++ ending_after x.facts x.said k x.input_broke) e
          ∙ ap (λ (l : List Outgoing). session_output hand x.facts l ++ session_ending x.facts l kind.Faulted x.input_broke) none
          ∙ sym (append-nil (map Byte (refusal_text 500)))

      same : (text ≡ refusal_text 500) × (traffic.handed ≡ [])
      same = same_outputs text (refusal_text 500) traffic.handed [] (out ∙ refused)

      quiet : traffic ≡ no_traffic
      quiet = by s.opens
        where
          by : Opens s.frames x traffic text → traffic ≡ no_traffic
          by (Accepted subprotocol headers events said text_is left) = absurd (cc (said, none))
          by (Silent q) = q

  done : (o : Outcome) → IsSessionDone o x traffic text → DoneAs s.frames x traffic text o
  done o d = by d.0 d.1 d.2
    where
      by : (k : EndKind) → x.ended ≡ Some k → after_session k x.said x.input_broke traffic.received ≡ o → DoneAs s.frames x traffic text o
      by kind.Returned e after = returned_done e o after d.3
      by kind.Faulted e after = faulted_done o e after d.3
      by kind.Idle e after = inr (inr after)

  finished : DoneAs s.frames x traffic text Finished → IsEchoed s.frames x traffic text × (has_close traffic.received ≡ true)
  finished (inl e) = (e.0, by (has_close traffic.received) e.1)
    where
      by : (b : Bool) → outcome_for b ≡ Finished → b ≡ true
      by true o = refl
      by false o = absurd (cc (o))
  finished (inr (inl e)) = let o = e.1 in absurd (cc (o))
  finished (inr (inr o)) = absurd (cc (o))

  input_broke : DoneAs s.frames x traffic text InputBroke → IsEchoed s.frames x traffic text × (has_close traffic.received ≡ false)
  input_broke (inl e) = (e.0, by (has_close traffic.received) e.1)
    where
      by : (b : Bool) → outcome_for b ≡ InputBroke → b ≡ false
      by true o = absurd (cc (o))
      by false o = refl
  input_broke (inr (inl e)) = let o = e.1 in absurd (cc (o))
  input_broke (inr (inr o)) = absurd (cc (o))

  refused_with : (status : ℕ) → DoneAs s.frames x traffic text (Refused status) → IsRefused status x traffic text
  refused_with status (inl e) = absurd (by (has_close traffic.received) e.1)
    where
      by : (b : Bool) → outcome_for b ≡ Refused status → ⊥
      by true o = cc (o)
      by false o = cc (o)
  refused_with status (inr (inl e)) =
      let o = e.1 in let same : 500 ≡ status = cc (o) in subst (λ (n : ℕ). IsRefused n x traffic text) same e.0
  refused_with status (inr (inr o)) = absurd (cc (o))

-- ---- by the outcome

last_of_all : (P : ExchangeRecord → Type 0) (xs : List ExchangeRecord) (x : ExchangeRecord) → All P (xs ++ x ∷ []) → P x
last_of_all P [] x h = All-head P x [] h
last_of_all P (y ∷ xs) x h = last_of_all P xs x (All-tail P y (xs ++ x ∷ []) h)

module _ (limits : Limits) (bytes : List ℕ) (x : ExchangeRecord) (traffic : SessionTraffic) (text : List ℕ)
    (client server : Option Peer) (values : List (List ℕ × StateValue)) (p : IsPromised ws_echo_promise client server values x) where
  -- nothing cut it short
  whole : (cut : Bool) (s : ServesHandshake limits cut bytes x traffic text) → cut ≡ false → (o : Outcome) → IsWhole o → IsSessionDone o x traffic text
      → (o ≡ InputBroke → traffic.is_over ≡ true) → EchoesUncut o s.frames x traffic text
  whole true s uncut o w d over = absurd (cc (uncut))
  whole false s uncut o w d over = by w
    where
      by : IsWhole o → EchoesUncut o s.frames x traffic text
      by (AsFinished is) =
          let e = subst (λ (q : Outcome). IsSessionDone q x traffic text) is d in
          subst (λ (q : Outcome). EchoesUncut q s.frames x traffic text) (sym is)
          (finished limits bytes x traffic text s client server values p (done limits bytes x traffic text s client server values p Finished e))
      by (AsRefused status is) =
          let e = subst (λ (q : Outcome). IsSessionDone q x traffic text) is d in
          subst (λ (q : Outcome). EchoesUncut q s.frames x traffic text) (sym is)
          (refused_with limits bytes x traffic text s client server values p status (done limits bytes x traffic text s client server values p (Refused status) e))
      by (AsInputBroke is) =
          let e = subst (λ (q : Outcome). IsSessionDone q x traffic text) is d in
          let all = input_broke limits bytes x traffic text s client server values p (done limits bytes x traffic text s client server values p InputBroke e) in
          subst (λ (q : Outcome). EchoesUncut q s.frames x traffic text) (sym is) (all.0, all.1, over is)

  short : (cut : Bool) (s : ServesHandshake limits cut bytes x traffic text) → (IsPrefix text (handshake_of x.facts None []) ⊎ IsPrefix text (refusal_text 500)) × IsBegun traffic
      → IsOpened x traffic text × IsBegun traffic
  short cut s b = (record { text_is = b.0; messages_follow = messages_follow limits cut bytes x traffic text s client server values p }, b.1)

  echoes : (o : Outcome) (s : ServesHandshake limits (is_cut o) bytes x traffic text) → EndsInSession o x traffic text → EchoesUntil o s.frames x traffic text
  echoes o s e = by (class_of o) refl e
    where
      by : (k : OutcomeClass) → class_of o ≡ k → EndsInSessionAs k o x traffic text → EchoesAs k o s.frames x traffic text
      by Uncut is e = let uncut : is_cut o ≡ false = ap is_cut_class is in whole (is_cut o) s uncut o (is_whole o uncut) e.0 e.1
      by (ByWrite n) is e = short (is_cut o) s (stops limits (is_cut o) bytes x traffic text s client server values p n e)
      by GivenUp is e = short (is_cut o) s (gives_up limits (is_cut o) bytes x traffic text s client server values p e)
      by Lacking is e = short (is_cut o) s (gives_up limits (is_cut o) bytes x traffic text s client server values p e)
      by Unbegun is e = e

pub session_echoes : (limits : Limits) (end : InputEnd) (read : List ℕ) (exchanges : List ExchangeRecord) (traffic : SessionTraffic) (written : List ℕ) (report : Report)
    (client server : Option Peer) (values : List (List ℕ × StateValue)) (c : ConversesInSession limits end read exchanges traffic written report)
    → ArePromised ws_echo_promise client server values exchanges → EchoesUntil report.outcome c.serves.frames c.session traffic c.text
session_echoes limits end read exchanges traffic written report client server values c p =
    let P : ExchangeRecord → Type 0 = λ x. IsPromised ws_echo_promise client server values x in
    let last = last_of_all P c.answered c.session (subst (λ (l : List ExchangeRecord). All P l) c.in_order p) in
    echoes limits c.after c.session traffic c.text client server values last report.outcome c.serves c.ends
