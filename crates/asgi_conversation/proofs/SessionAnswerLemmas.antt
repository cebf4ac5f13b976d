-- What comes before a session with `WsEcho`, and two such conversations side by side.
use Rattle.std.proofs.Common.{◌≡◌, ℕ, ◌+◌, false, List, [], ◌∷◌, ◌++◌, length, suc, None, refl, sym, ap, ◌∙◌, subst, length-append, Option, Some, arith, All}
use Rattle.std.proofs.lemmas.List.Elements.{All-nil, All-cons, All-head, All-tail}
use mathlib.Core.List.{IsPrefix}
use Rattle.asgi_types.specs.Scopes.{scope_with}
use Rattle.asgi_types.specs.declared.end_kind.EndKind.{EndKind}
use Rattle.asgi_types.specs.declared.end_kind.EndKind.TheVariants as kind
use Rattle.asgi_types.specs.declared.facts.Facts.{Facts}
use Rattle.asgi_types.specs.declared.incoming.Payload.TheVariants as payload
use Rattle.asgi_types.specs.declared.limits.Limits.{Limits}
use Rattle.asgi_types.specs.declared.outgoing.Outgoing.{Outgoing}
use Rattle.asgi_types.specs.declared.scope.Peer.{Peer}
use Rattle.asgi_types.specs.declared.scope.Scope.{Scope}
use Rattle.asgi_types.specs.declared.state.StateValue.{StateValue}
use Rattle.asgi_request.specs.ChunkedBody.{BodyState, complete}
use Rattle.asgi_request.specs.declared.next.Next.TheVariants.{Head}
use Rattle.asgi_request.specs.Opened.{BeginsWithHandshake}
use Rattle.asgi_request.proofs.OpenedLemmas.{http_scope}
use Rattle.asgi_request.proofs.OpeningLemmas.{one_first}
use Rattle.asgi_response.specs.Progress.{progress_of}
use Rattle.asgi_response.specs.declared.refusal.Input.TheVariants as input
use Rattle.asgi_ws.specs.declared.messages.SentMessage.{SentMessage}
use Rattle.asgi_ws.specs.declared.messages.SentMessage.TheVariants.{Payload}
use Rattle.asgi_ws.specs.declared.messages.Msg.{Msg}
use Rattle.asgi_ws.specs.declared.messages.Msg.TheVariants as msg
use Rattle.asgi_exchange.specs.Messages.{has_close}
use Rattle.asgi_apps.specs.Answers.{not_found_events}
use Rattle.asgi_conversation.specs.declared.following.NextStep.TheVariants.{NextRequest, ConnectionEnds}
use Rattle.asgi_conversation.specs.declared.input.InputEnd.{InputEnd}
use Rattle.asgi_conversation.specs.declared.report.Outcome.{Outcome}
use Rattle.asgi_conversation.specs.declared.report.Outcome.TheVariants.{Finished, Refused, InputBroke}
use Rattle.asgi_conversation.proofs.OutcomeLemmas.{IsWhole, AsFinished, AsRefused, AsInputBroke, is_whole}
use Rattle.asgi_conversation.specs.declared.report.Report.{Report}
use Rattle.asgi_conversation.specs.OutcomeClasses.{is_cut}
use Rattle.asgi_conversation.specs.TaskEnds.{after_task}
use Rattle.asgi_conversation.specs.Exchanges.{ServesFirst, IsFollowed, AreAnswered, answer_texts, out_text, fault_of, fault_count}
use Rattle.asgi_conversation.specs.ExchangeRecord.{ExchangeRecord}
use Rattle.asgi_conversation.specs.Promised.{IsPromised, ArePromised, task_end}
use Rattle.asgi_conversation.specs.PromisedWhole.{ConversesInSessionWith, ws_echo_promise}
use Rattle.asgi_conversation.specs.SessionEcho.{payloads_in, IsEchoed, EchoesUntil}
use Rattle.asgi_conversation.specs.Sessions.{SessionTraffic, handshake_of}
use Rattle.asgi_conversation.specs.Kinds.{ConversesInSession}
use Rattle.asgi_conversation.proofs.AnswerLemmas.{head_first, handshake_first, same_framing, rest_of}
use Rattle.asgi_conversation.proofs.ServedLemmas.{Served, served, same_served}
use Rattle.asgi_conversation.proofs.SessionEchoLemmas.{outcome_for, session_echoes}
use Rattle.asgi_conversation.proofs.ToldLemmas.{ws_echo_says}

-- ---- the requests before it

-- a request before a next one had a task that returned
returned_at : (limits : Limits) (end : InputEnd) (bytes : List ℕ) (x : ExchangeRecord) (rest : List ℕ) (client server : Option Peer) (values : List (List ℕ × StateValue))
    → ServesFirst limits end false bytes x (complete rest) → IsFollowed x (complete rest) NextRequest → IsPromised ws_echo_promise client server values x → x.ended ≡ Some kind.Returned
returned_at limits end bytes x rest client server values s f p = by f.0 f.1 f.2
  where
    by : (k : EndKind) → x.ended ≡ Some k → after_task k (progress_of x.facts x.said) (complete rest) x.input_broke ≡ NextRequest → x.ended ≡ Some kind.Returned
    by kind.Returned e g = e
    by kind.Faulted e g =
        let A : Scope → Type 0 = λ scope. ws_echo_promise (scope_with scope client server values) x.heard x.said (Some kind.Faulted) in
        let E : Option EndKind → Type 0 = λ k. ws_echo_promise (scope_with x.scope client server values) x.heard x.said (task_end k) in
        let none : (x.heard ≡ []) × (x.said ≡ []) = subst A (http_scope limits bytes x.scope x.facts s.arrived s.head) (subst E e p) in
        let ends : ConnectionEnds (Refused 500) ≡ NextRequest =
        ap (λ (l : List Outgoing). after_task kind.Faulted (progress_of x.facts l) (complete rest) x.input_broke) (sym none.1) ∙ g in
        absurd (cc (ends))
    by kind.Idle e g = absurd (cc (g))

pub answered_as : (limits : Limits) (end : InputEnd) (bytes : List ℕ) (x : ExchangeRecord) (rest : List ℕ) (client server : Option Peer) (values : List (List ℕ × StateValue))
    → ServesFirst limits end false bytes x (complete rest) → IsFollowed x (complete rest) NextRequest → IsPromised ws_echo_promise client server values x
    → Served (λ events. not_found_events) limits bytes x (complete rest)
answered_as limits end bytes x rest client server values s f p =
    served ws_echo_promise (λ events. not_found_events) ws_echo_says limits end bytes x (complete rest) client server values s
    (returned_at limits end bytes x rest client server values s f p) p

abbrev IsDenied : ExchangeRecord → Type 0
IsDenied x = x.said ≡ not_found_events

denied : (limits : Limits) (end : InputEnd) (client server : Option Peer) (values : List (List ℕ × StateValue)) (bytes after : List ℕ) (xs : List ExchangeRecord) (last : ExchangeRecord)
    → AreAnswered limits end bytes xs after → All (IsPromised ws_echo_promise client server values) (xs ++ last ∷ []) → All IsDenied xs
denied limits end client server values bytes after [] last a p = All-nil IsDenied
denied limits end client server values bytes after (x ∷ xs) last a p =
    let P : ExchangeRecord → Type 0 = λ y. IsPromised ws_echo_promise client server values y in
    let one = answered_as limits end bytes x a.0 client server values a.1 a.2 (All-head P x (xs ++ last ∷ []) p) in
    All-cons IsDenied x xs one.told.said_is (denied limits end client server values a.0 after xs last a.3 (All-tail P x (xs ++ last ∷ []) p))

pub requests_are_denied : (limits : Limits) (end : InputEnd) (read : List ℕ) (exchanges : List ExchangeRecord) (traffic : SessionTraffic) (written : List ℕ) (report : Report)
    (client server : Option Peer) (values : List (List ℕ × StateValue)) (c : ConversesInSession limits end read exchanges traffic written report)
    → ArePromised ws_echo_promise client server values exchanges → All IsDenied c.answered
requests_are_denied limits end read exchanges traffic written report client server values c p =
    denied limits end client server values read c.after c.answered c.session c.each
    (subst (λ (l : List ExchangeRecord). All (IsPromised ws_echo_promise client server values) l) c.in_order p)

-- ---- the same bytes

-- a handshake is the head of no request
pub apart : (limits : Limits) (bytes frames : List ℕ) (x y : ExchangeRecord) (state : BodyState) → BeginsWithHandshake limits bytes x.scope x.facts frames
    → Served (λ events. not_found_events) limits bytes y state → ⊥
apart limits bytes frames x y state h t =
    t.head.plain
    (same_framing limits bytes y.scope x.scope y.facts x.facts (head_first limits bytes y.scope y.facts t.arrived t.head) (handshake_first limits bytes x.scope x.facts frames h)
    ∙ ap (λ (f : Facts). f.framing) h.facts_are)

pub record SameFront (xs ys : List ExchangeRecord) (x y : ExchangeRecord) : Type 0 where
  pub texts : answer_texts xs ≡ answer_texts ys
  pub as_many : length xs ≡ length ys
  pub facts : x.facts ≡ y.facts

module _ (limits : Limits) (end late : InputEnd) (client1 server1 client2 server2 : Option Peer) (values1 values2 : List (List ℕ × StateValue)) where
  abbrev P : ExchangeRecord → Type 0
  P x = IsPromised ws_echo_promise client1 server1 values1 x

  abbrev Q : ExchangeRecord → Type 0
  Q y = IsPromised ws_echo_promise client2 server2 values2 y

  same_front : (bytes after ahead frames left : List ℕ) (xs ys : List ExchangeRecord) (x y : ExchangeRecord)
      → AreAnswered limits end bytes xs after → AreAnswered limits late bytes ys ahead
      → BeginsWithHandshake limits after x.scope x.facts frames → BeginsWithHandshake limits ahead y.scope y.facts left
      → All P (xs ++ x ∷ []) → All Q (ys ++ y ∷ []) → SameFront xs ys x y
  same_front bytes after ahead frames left [] [] x y a b h k p q =
      let one = handshake_first limits bytes x.scope x.facts frames (subst (λ (l : List ℕ). BeginsWithHandshake limits l x.scope x.facts frames) (sym a) h) in
      let other = handshake_first limits bytes y.scope y.facts left (subst (λ (l : List ℕ). BeginsWithHandshake limits l y.scope y.facts left) (sym b) k) in
      let same = one_first limits bytes (Head x.scope x.facts) (Head y.scope y.facts) [] [] one other in
      record { texts = refl; as_many = refl; facts = cc (same) }
  same_front bytes after ahead frames left [] (z ∷ ys) x y a b h k p q =
      absurd (apart limits bytes frames x z (complete b.0) (subst (λ (l : List ℕ). BeginsWithHandshake limits l x.scope x.facts frames) (sym a) h)
      (answered_as limits late bytes z b.0 client2 server2 values2 b.1 b.2 (All-head Q z (ys ++ y ∷ []) q)))
  same_front bytes after ahead frames left (z ∷ xs) [] x y a b h k p q =
      absurd (apart limits bytes left y z (complete a.0) (subst (λ (l : List ℕ). BeginsWithHandshake limits l y.scope y.facts left) (sym b) k)
      (answered_as limits end bytes z a.0 client1 server1 values1 a.1 a.2 (All-head P z (xs ++ x ∷ []) p)))
  same_front bytes after ahead frames left (z ∷ xs) (w ∷ ys) x y a b h k p q =
      let one = answered_as limits end bytes z a.0 client1 server1 values1 a.1 a.2 (All-head P z (xs ++ x ∷ []) p) in
      let other = answered_as limits late bytes w b.0 client2 server2 values2 b.1 b.2 (All-head Q w (ys ++ y ∷ []) q) in
      let same = same_served (λ events. not_found_events) limits bytes z w (complete a.0) (complete b.0) one other in
      let rests = rest_of a.0 b.0 same.states in
      let on = same_front a.0 after ahead frames left xs ys x y a.3 (subst (λ (l : List ℕ). AreAnswered limits late l ys ahead) (sym rests) b.3) h k
      (All-tail P z (xs ++ x ∷ []) p) (All-tail Q w (ys ++ y ∷ []) q) in
      record {
        texts = ap (λ (l : List ℕ). l ++ answer_texts xs) same.text ∙ ap (λ (l : List ℕ). out_text w input.Whole ++ l) on.texts;
        as_many = ap (λ (n : ℕ). suc n) on.as_many;
        facts = on.facts;
      }

-- ---- one that nothing cut short

last_fault : (xs : List ExchangeRecord) (x : ExchangeRecord) → fault_count (xs ++ x ∷ []) ≡ 0 → fault_of x.ended ≡ 0
last_fault [] x h = omega (arith, h)
last_fault (y ∷ xs) x h = last_fault xs x (omega (arith, h))

record AllEchoed (limits : Limits) (end : InputEnd) (read : List ℕ) (exchanges : List ExchangeRecord) (traffic : SessionTraffic) (written : List ℕ) (report : Report) (c : ConversesInSession limits end read exchanges traffic written report) : Type 0 where
  pub echoed : IsEchoed c.serves.frames c.session traffic c.text
  pub outcome_is : report.outcome ≡ outcome_for (has_close traffic.received)

all_echoed : (limits : Limits) (end : InputEnd) (read : List ℕ) (exchanges : List ExchangeRecord) (traffic : SessionTraffic) (written : List ℕ) (report : Report)
    → (w : ConversesInSessionWith ws_echo_promise limits end read exchanges traffic written report) → AllEchoed limits end read exchanges traffic written report w.converses
all_echoed limits end read exchanges traffic written report w =
    let all = by report.outcome w.uncut (session_echoes limits end read exchanges traffic written report w.client w.server w.state c w.promised) in
    record { echoed = all.0; outcome_is = all.1 }
  where
    c : ConversesInSession limits end read exchanges traffic written report
    c = w.converses

    no_fault : fault_of w.converses.session.ended ≡ 0
    no_fault =
        last_fault w.converses.answered w.converses.session (ap fault_count (sym w.converses.in_order) ∙ sym w.converses.counts.faults_are ∙ w.no_faults)

    by : (o : Outcome) → is_cut o ≡ false → EchoesUntil o w.converses.serves.frames w.converses.session traffic w.converses.text
        → IsEchoed w.converses.serves.frames w.converses.session traffic w.converses.text × (o ≡ outcome_for (has_close traffic.received))
    by o uncut e = as_whole (is_whole o uncut)
      where
        of_kind : (p : Outcome) → o ≡ p → EchoesUntil p w.converses.serves.frames w.converses.session traffic w.converses.text
        of_kind p is = subst (λ (q : Outcome). EchoesUntil q w.converses.serves.frames w.converses.session traffic w.converses.text) is e

        as_whole : IsWhole o → IsEchoed w.converses.serves.frames w.converses.session traffic w.converses.text × (o ≡ outcome_for (has_close traffic.received))
        as_whole (AsFinished is) = let f = of_kind Finished is in (f.0, is ∙ sym (ap outcome_for f.1))
        as_whole (AsRefused status is) =
            let f = of_kind (Refused status) is in
            let fault : fault_of (Some kind.Faulted) ≡ 0 = ap fault_of (sym f.failed) ∙ no_fault in absurd (omega (arith, fault))
        as_whole (AsInputBroke is) = let f = of_kind InputBroke is in (f.0, is ∙ sym (ap outcome_for f.1))

pub all_sent_back : (limits : Limits) (end : InputEnd) (read : List ℕ) (exchanges : List ExchangeRecord) (traffic : SessionTraffic) (written : List ℕ) (report : Report)
    → (w : ConversesInSessionWith ws_echo_promise limits end read exchanges traffic written report)
    → (written ≡ answer_texts w.converses.answered ++ handshake_of w.converses.session.facts None []) × (traffic.handed ≡ payloads_in traffic.received)
    × (report.outcome ≡ outcome_for (has_close traffic.received))
all_sent_back limits end read exchanges traffic written report w =
    let all = all_echoed limits end read exchanges traffic written report w in (
      w.converses.written_is ∙ ap (λ (l : List ℕ). answer_texts w.converses.answered ++ l) all.echoed.accepted,
      all.echoed.handed,
      all.outcome_is,
    )

-- ---- two of them

pub same_messages : (limits : Limits) (end late : InputEnd) (read bytes : List ℕ) (exchanges others : List ExchangeRecord) (traffic other : SessionTraffic) (written texts : List ℕ) (report another : Report)
    → ConversesInSessionWith ws_echo_promise limits end read exchanges traffic written report → ConversesInSessionWith ws_echo_promise limits late bytes others other texts another
    → traffic.received ≡ other.received → (traffic.handed ≡ other.handed) × (report.outcome ≡ another.outcome)
same_messages limits end late read bytes exchanges others traffic other written texts report another v w same =
    let a = all_echoed limits end read exchanges traffic written report v in
    let b = all_echoed limits late bytes others other texts another w in (
      a.echoed.handed ∙ ap payloads_in same ∙ sym b.echoed.handed,
      a.outcome_is ∙ ap (λ (l : List Msg). outcome_for (has_close l)) same ∙ sym b.outcome_is,
    )

payloads_grow : (received more : List Msg) → IsPrefix (payloads_in received) (payloads_in (received ++ more))
payloads_grow [] more = (payloads_in more, refl)
payloads_grow (msg.Text text ∷ received) more = let on = payloads_grow received more in (on.0, ap (λ (l : List SentMessage). Payload (payload.Text text) ∷ l) on.1)
payloads_grow (msg.Bytes bytes ∷ received) more = let on = payloads_grow received more in (on.0, ap (λ (l : List SentMessage). Payload (payload.Bytes bytes) ∷ l) on.1)
payloads_grow (msg.Ping ∷ received) more = payloads_grow received more
payloads_grow (msg.Pong ∷ received) more = payloads_grow received more
payloads_grow (msg.Close close ∷ received) more = ([], refl)

pub front_of_messages : (limits : Limits) (early late : InputEnd) (read bytes : List ℕ) (exchanges others : List ExchangeRecord) (traffic other : SessionTraffic) (written texts : List ℕ) (report another : Report)
    → ConversesInSessionWith ws_echo_promise limits early read exchanges traffic written report → ConversesInSessionWith ws_echo_promise limits late bytes others other texts another
    → IsPrefix traffic.received other.received → IsPrefix traffic.handed other.handed
front_of_messages limits early late read bytes exchanges others traffic other written texts report another v w first =
    let a = all_echoed limits early read exchanges traffic written report v in
    let b = all_echoed limits late bytes others other texts another w in
    let grown = subst (λ (l : List Msg). IsPrefix (payloads_in traffic.received) (payloads_in l)) first.1 (payloads_grow traffic.received first.0) in
    subst (λ (l : List SentMessage). IsPrefix l other.handed) (sym a.echoed.handed) (subst (λ (l : List SentMessage). IsPrefix (payloads_in traffic.received) l) (sym b.echoed.handed) grown)

pub same_session_bytes : (limits : Limits) (end late : InputEnd) (read : List ℕ) (exchanges others : List ExchangeRecord) (traffic other : SessionTraffic) (written texts : List ℕ) (report another : Report)
    → ConversesInSessionWith ws_echo_promise limits end read exchanges traffic written report → ConversesInSessionWith ws_echo_promise limits late read others other texts another
    → (written ≡ texts) × (report.exchanges ≡ another.exchanges)
same_session_bytes limits end late read exchanges others traffic other written texts report another v w =
    let c = v.converses in
    let d = w.converses in
    let a = all_echoed limits end read exchanges traffic written report v in
    let b = all_echoed limits late read others other texts another w in
    let one = subst (λ (l : List ExchangeRecord). All (IsPromised ws_echo_promise v.client v.server v.state) l) c.in_order v.promised in
    let two = subst (λ (l : List ExchangeRecord). All (IsPromised ws_echo_promise w.client w.server w.state) l) d.in_order w.promised in
    let same = same_front limits end late v.client v.server w.client w.server v.state w.state read c.after d.after c.serves.frames d.serves.frames c.answered d.answered c.session d.session
    c.each d.each c.serves.head d.serves.head one two in
    let text : c.text ≡ d.text = a.echoed.accepted ∙ ap (λ (f : Facts). handshake_of f None []) same.facts ∙ sym b.echoed.accepted in (
      c.written_is ∙ ap (λ (l : List ℕ). l ++ c.text) same.texts ∙ ap (λ (l : List ℕ). answer_texts d.answered ++ l) text ∙ sym d.written_is,
      c.counts.exchanges_are ∙ ap length c.in_order ∙ length-append c.answered (c.session ∷ []) ∙ ap (λ (n : ℕ). n + 1) same.as_many
          ∙ sym (length-append d.answered (d.session ∷ [])) ∙ sym (ap length d.in_order) ∙ sym d.counts.exchanges_are,
    )
