-- One list of bytes read has one kind of conversation with `WsEcho`: over HTTP alone, or to the end of a session.
use Rattle.std.proofs.Common.{◌≡◌, ℕ, false, List, [], ◌∷◌, ◌++◌, ◌⊎◌, inl, inr, sym, ap, ◌∙◌, subst, Option, Some, None, All}
use Rattle.std.proofs.lemmas.List.Elements.{All-head, All-tail}
use Rattle.asgi_types.specs.declared.incoming.Incoming.{Incoming}
use Rattle.asgi_types.specs.declared.limits.Limits.{Limits}
use Rattle.asgi_types.specs.declared.outgoing.Outgoing.{Outgoing}
use Rattle.asgi_types.specs.declared.scope.Peer.{Peer}
use Rattle.asgi_types.specs.declared.state.StateValue.{StateValue}
use Rattle.asgi_request.specs.ChunkedBody.{complete}
use Rattle.asgi_request.specs.Opened.{BeginsWithHandshake}
use Rattle.asgi_apps.specs.Answers.{not_found_events}
use Rattle.asgi_apps.specs.Promises.{Promise}
use Rattle.asgi_conversation.specs.declared.following.NextStep.TheVariants.{NextRequest, ConnectionEnds}
use Rattle.asgi_conversation.specs.declared.input.InputEnd.{InputEnd}
use Rattle.asgi_conversation.specs.declared.report.Outcome.{Outcome}
use Rattle.asgi_conversation.specs.declared.report.Report.{Report}
use Rattle.asgi_conversation.specs.OutcomeClasses.{is_cut}
use Rattle.asgi_conversation.specs.Exchanges.{AreAnswered}
use Rattle.asgi_conversation.specs.ExchangeRecord.{ExchangeRecord}
use Rattle.asgi_conversation.specs.Kinds.{Converses}
use Rattle.asgi_conversation.specs.Promised.{IsPromised}
use Rattle.asgi_conversation.specs.PromisedWhole.{ConversesWith, ConversesInSessionWith, ConversationWith, ws_echo_promise}
use Rattle.asgi_conversation.specs.Sessions.{SessionTraffic, no_traffic}
use Rattle.asgi_conversation.specs.Kinds.{ConversesInSession}
use Rattle.asgi_conversation.proofs.AnswerLemmas.{head_first, handshake_first, between_as, no_head, Plain, rest_of}
use Rattle.asgi_conversation.proofs.ConversationLemmas.{either}
use Rattle.asgi_conversation.proofs.PromisedLemmas.{plainly, alike}
use Rattle.asgi_conversation.proofs.ServedLemmas.{same_served}
use Rattle.asgi_conversation.proofs.SessionAnswerLemmas.{answered_as, apart, same_messages, same_session_bytes}
use Rattle.asgi_conversation.proofs.ToldLemmas.{ws_echo_says}

-- ---- the bytes of a conversation over HTTP alone hold no handshake

abbrev denies : List Incoming → List Outgoing
denies events = not_found_events

ends_here : (o : Outcome) → ConnectionEnds o ≡ NextRequest → ⊥
ends_here o e = cc

module _ (limits : Limits) (end late : InputEnd) (o : Outcome) (uncut : is_cut o ≡ false) (client server : Option Peer) (values : List (List ℕ × StateValue)) where
  abbrev P : ExchangeRecord → Type 0
  P x = IsPromised ws_echo_promise client server values x

  -- answered in a conversation over HTTP alone, and before the handshake of y
  no_handshake : (bytes after frames text : List ℕ) (xs ys : List ExchangeRecord) (last : Option ExchangeRecord) (y : ExchangeRecord)
      → Plain denies limits end o bytes xs last text → AreAnswered limits late bytes ys after → BeginsWithHandshake limits after y.scope y.facts frames → All P (ys ++ y ∷ []) → ⊥
  no_handshake bytes after frames text [] [] None y a b h p =
      no_head limits bytes text y.scope y.facts (between_as o limits end bytes text uncut a)
      (handshake_first limits bytes y.scope y.facts frames (subst (λ (l : List ℕ). BeginsWithHandshake limits l y.scope y.facts frames) (sym b) h))
  no_handshake bytes after frames text [] [] (Some x) y a b h p =
      apart limits bytes frames y x a.0 (subst (λ (l : List ℕ). BeginsWithHandshake limits l y.scope y.facts frames) (sym b) h) a.1.serves
  no_handshake bytes after frames text (x ∷ xs) [] last y a b h p =
      apart limits bytes frames y x (complete a.0) (subst (λ (l : List ℕ). BeginsWithHandshake limits l y.scope y.facts frames) (sym b) h) a.1.serves
  no_handshake bytes after frames text [] (z ∷ ys) None y a b h p =
      let s = answered_as limits late bytes z b.0 client server values b.1 b.2 (All-head P z (ys ++ y ∷ []) p) in
      no_head limits bytes text z.scope z.facts (between_as o limits end bytes text uncut a) (head_first limits bytes z.scope z.facts s.arrived s.head)
  no_handshake bytes after frames text [] (z ∷ ys) (Some x) y a b h p =
      let s = answered_as limits late bytes z b.0 client server values b.1 b.2 (All-head P z (ys ++ y ∷ []) p) in
      let same = same_served denies limits bytes x z a.0 (complete b.0) a.1.serves s in
      ends_here o (a.1.follows ∙ same.next ∙ sym (s.told.next NextRequest b.2))
  no_handshake bytes after frames text (x ∷ xs) (z ∷ ys) last y a b h p =
      let s = answered_as limits late bytes z b.0 client server values b.1 b.2 (All-head P z (ys ++ y ∷ []) p) in
      let same = same_served denies limits bytes x z (complete a.0) (complete b.0) a.1.serves s in
      let rests = rest_of a.0 b.0 same.states in
      no_handshake a.0 after frames a.2.0 xs ys last y a.2.2 (subst (λ (l : List ℕ). AreAnswered limits late l ys after) (sym rests) b.3) h (All-tail P z (ys ++ y ∷ []) p)

pub not_both : (limits : Limits) (end late : InputEnd) (read : List ℕ) (exchanges others : List ExchangeRecord) (traffic : SessionTraffic) (written other : List ℕ) (report another : Report)
    → ConversesWith ws_echo_promise limits end read exchanges written report → ConversesInSessionWith ws_echo_promise limits late read others traffic other another → ⊥
not_both limits end late read exchanges others traffic written other report another v w =
    let d = w.converses in
    no_handshake limits end late report.outcome v.uncut w.client w.server w.state read d.after d.serves.frames written v.converses.answered d.answered v.converses.last d.session
    (plainly ws_echo_promise denies ws_echo_says limits end read exchanges written report v) d.each d.serves.head
    (subst (λ (l : List ExchangeRecord). All (IsPromised ws_echo_promise w.client w.server w.state) l) d.in_order w.promised)

-- ---- two conversations, of either kind

either_with : (answers : Promise) (limits : Limits) (end : InputEnd) (read : List ℕ) (exchanges : List ExchangeRecord) (traffic : SessionTraffic) (written : List ℕ)
    (report : Report) → ConversationWith answers limits end read exchanges traffic written report
    → (ConversesWith answers limits end read exchanges written report × (traffic ≡ no_traffic)) ⊎ ConversesInSessionWith answers limits end read exchanges traffic written report
either_with answers limits end read exchanges traffic written report v = by (either limits end read exchanges traffic written report v.converses)
  where
    by : (Converses limits end read exchanges written report × (traffic ≡ no_traffic)) ⊎ ConversesInSession limits end read exchanges traffic written report
        → (ConversesWith answers limits end read exchanges written report × (traffic ≡ no_traffic)) ⊎ ConversesInSessionWith answers limits end read exchanges traffic written report
    by (inl c) = inl (
      record {
        converses = c.0;
        uncut = v.uncut;
        no_faults = v.no_faults;
        client = v.client;
        server = v.server;
        state = v.state;
        promised = v.promised;
      },
      c.1,
    )
    by (inr c) = inr (record {
      converses = c;
      uncut = v.uncut;
      no_faults = v.no_faults;
      client = v.client;
      server = v.server;
      state = v.state;
      promised = v.promised;
    })

module _ (limits : Limits) (end late : InputEnd) (read : List ℕ) (exchanges others : List ExchangeRecord) (traffic other_traffic : SessionTraffic) (written other : List ℕ) (report another : Report) where
  abbrev Http : Type 0
  Http = ConversesWith ws_echo_promise limits end read exchanges written report × ConversesWith ws_echo_promise limits late read others other another
      × (traffic ≡ no_traffic) × (other_traffic ≡ no_traffic)

  abbrev Session : Type 0
  Session = ConversesInSessionWith ws_echo_promise limits end read exchanges traffic written report × ConversesInSessionWith ws_echo_promise limits late read others other_traffic other another

  pub one_kind : ConversationWith ws_echo_promise limits end read exchanges traffic written report → ConversationWith ws_echo_promise limits late read others other_traffic other another
      → Http ⊎ Session
  one_kind v w = by (either_with ws_echo_promise limits end read exchanges traffic written report v) (either_with ws_echo_promise limits late read others other_traffic other another w)
    where
      by : (ConversesWith ws_echo_promise limits end read exchanges written report × (traffic ≡ no_traffic)) ⊎ ConversesInSessionWith ws_echo_promise limits end read exchanges traffic written report
          → (ConversesWith ws_echo_promise limits late read others other another × (other_traffic ≡ no_traffic)) ⊎ ConversesInSessionWith ws_echo_promise limits late read others other_traffic other another
          → Http ⊎ Session
      by (inl a) (inl b) = inl (a.0, b.0, a.1, b.1)
      by (inl a) (inr b) = absurd (not_both limits end late read exchanges others other_traffic written other report another a.0 b)
      by (inr a) (inl b) = absurd (not_both limits late end read others exchanges traffic other written another report b.0 a)
      by (inr a) (inr b) = inr (a, b)

  pub same_text : Http ⊎ Session → (written ≡ other) × (report.exchanges ≡ another.exchanges)
  same_text (inl k) = let same = alike ws_echo_promise denies ws_echo_says limits end late read exchanges others written other report another k.0 k.1 in (same.0, same.2)
  same_text (inr k) = same_session_bytes limits end late read exchanges others traffic other_traffic written other report another k.0 k.1

  pub same_handed : traffic.received ≡ other_traffic.received → Http ⊎ Session → traffic.handed ≡ other_traffic.handed
  same_handed same (inl k) = ap (λ (t : SessionTraffic). t.handed) (k.2 ∙ sym k.3)
  same_handed same (inr k) = (same_messages limits end late read read exchanges others traffic other_traffic written other report another k.0 k.1 same).0

  pub same_outcome : end ≡ late → traffic.received ≡ other_traffic.received → Http ⊎ Session → report.outcome ≡ another.outcome
  same_outcome ends same (inl k) = (alike ws_echo_promise denies ws_echo_says limits end late read exchanges others written other report another k.0 k.1).1 ends
  same_outcome ends same (inr k) = (same_messages limits end late read read exchanges others traffic other_traffic written other report another k.0 k.1 same).1

  -- to the end of a session it is one function of the messages
  pub session_outcome : traffic.received ≡ other_traffic.received → ConversesInSessionWith ws_echo_promise limits end read exchanges traffic written report
      → ConversationWith ws_echo_promise limits late read others other_traffic other another → report.outcome ≡ another.outcome
  session_outcome same v w = by (either_with ws_echo_promise limits late read others other_traffic other another w)
    where
      by : (ConversesWith ws_echo_promise limits late read others other another × (other_traffic ≡ no_traffic)) ⊎ ConversesInSessionWith ws_echo_promise limits late read others other_traffic other another
          → report.outcome ≡ another.outcome
      by (inl b) = absurd (not_both limits late end read others exchanges traffic other written another report b.0 v)
      by (inr b) = (same_messages limits end late read read exchanges others traffic other_traffic written other report another v b same).1
