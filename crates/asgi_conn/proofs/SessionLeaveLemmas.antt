-- How a session leaves its connection: at its end.
use Rattle.asgi_conn.proofs.ConnWords.{if◌then◌else◌, ◌≡◌, ◌≢◌, ℕ, Bool, true, false, List, [], ◌∷◌, ◌++◌, ◌⊎◌, inl, inr, refl, sym, ap, ◌∙◌, append_assoc, append-nil, subst, Option, Some, None}
use Rattle.asgi_conn.proofs.ConnWords.{EndKind, Facts, Incoming, Outgoing, WebSocket, end_of, IsSessionExchange, is_by_input, World, said_of, taken_of, LineState, ConnectionEnds, Outcome, Finished}
use Rattle.asgi_conn.proofs.ConnWords.{Refused, InputBroke, Idle, Report, ExchangeRecord, Beginning, Saying, Ending, CountsExchanges, handshake_of, class_of, requests_of, Over, WebSocketHalf}
use Rattle.asgi_conn.proofs.ConnWords.{SessionScene, IsCarried, session_of, talk_in, ReadsAhead, requests_join, EndsSo, more_requests}
use Rattle.asgi_halves.specs.WebSocketHalf.{answer_of, is_over_at, Invariant, IsCarrying, IsCutShort, IsCutShortAs, IsSilent, EndsByTask, known, output_in, said_in}
use Rattle.asgi_halves.specs.declared.session_half.Answered.{Answered}
use mathlib.Core.List.{IsPrefix}
use Rattle.asgi_types.specs.declared.outgoing.Outgoing.TheVariants.{WsAccept, DenialStart}
use Rattle.asgi_protocol.specs.Shapes.{is_closed}
use Rattle.asgi_protocol.proofs.PassingLemmas.{fronts_are_lawful}
use Rattle.asgi_exchange.specs.{Messages.has_close, Session.Output, Session.session_output, Session.session_ending, SessionExchange.HasSessionCause, ExchangeTexts.session_text, Views.ByCut}
use Rattle.asgi_pipes.proofs.PrefixLemmas.{prefix_same, prefix_self, prefix_trans}
use Rattle.asgi_exchange.proofs.SessionLemmas.{lawful_is_accepted, web_socket_is_steady}
use Rattle.asgi_ws.specs.declared.messages.Msg.{Msg}
use Rattle.asgi_conversation.specs.Sessions.{SessionTraffic, IsLeft, ByApplication, ByClient, ByCut as left_by_cut, IsSessionDone, IsNextOutput, Opens, Accepted, Silent, ServesHandshake}
use Rattle.asgi_conversation.specs.Sessions.{EndsInSession, EndsInSessionAs, after_session, session_outcome, open_outcome, said_out, spoken}
use Rattle.asgi_conversation.specs.{Kinds.ConversesInSession, OutcomeClasses.OutcomeClass, OutcomeClasses.Uncut, OutcomeClasses.ByWrite, OutcomeClasses.GivenUp, OutcomeClasses.Lacking}
use Rattle.asgi_conversation.specs.OutcomeClasses.{Unbegun, is_cut, is_cut_class}
use Rattle.asgi_conversation.proofs.ConversationLemmas.{in_session}
use Rattle.asgi_types.specs.declared.end_kind.EndKind.TheVariants as kind
use Rattle.asgi_halves.specs.declared.session_half.Answered.TheVariants as answered

-- ---- how an exchange may end that was not cut short

-- the ways in which a task that ended by itself ends the connection
record Way (input_broke : Bool) (received : List Msg) (outcome : Outcome) : Type 0 where
  pub uncut : class_of outcome ≡ Uncut
  pub broken : outcome ≡ InputBroke → (input_broke ≡ true) × (has_close received ≡ false)

finished : (input_broke : Bool) (received : List Msg) → Way input_broke received Finished
finished input_broke received = record { uncut = refl; broken = λ e. cc }

refused : (input_broke : Bool) (received : List Msg) → Way input_broke received (Refused 500)
refused input_broke received = record { uncut = refl; broken = λ e. cc }

open_way : (input_broke : Bool) (received : List Msg) → Way input_broke received (open_outcome input_broke received)
open_way false received = finished false received
open_way true received = by (has_close received) refl
  where
    by : (b : Bool) → has_close received ≡ b → Way true received (if b then Finished else InputBroke)
    by true h = finished true received
    by false h = record { uncut = refl; broken = λ e. (refl, h) }

session_way : (said : List Outgoing) (input_broke : Bool) (received : List Msg) → Way input_broke received (session_outcome said input_broke received)
session_way [] input_broke received = refused input_broke received
session_way (DenialStart status headers ∷ []) input_broke received = refused input_broke received
session_way (WsAccept subprotocol headers ∷ events) input_broke received = by (is_closed WebSocket (WsAccept subprotocol headers ∷ events))
  where
    by : (b : Bool) → Way input_broke received (if b then Finished else open_outcome input_broke received)
    by true = finished input_broke received
    by false = open_way input_broke received
session_way said input_broke received = finished input_broke received

-- the outcome of a task's end does not cut the connection short, unless a limit stopped the task; and then the end adds nothing
after_way : (facts : Facts) (ended : EndKind) (said all : List Outgoing) (input_broke : Bool) (received : List Msg) → Way input_broke received (after_session ended said input_broke received)
    ⊎ ((after_session ended said input_broke received ≡ Idle) × (session_ending facts all ended input_broke ≡ []))
after_way facts kind.Idle said all input_broke received = inr (refl, refl)
after_way facts _ said all input_broke received = inl (session_way said input_broke received)

-- ---- the text of more

grows : (text : List Outgoing → List Output) → ((said : List Outgoing) (event : Outgoing) → IsPrefix (text said) (text (said ++ event ∷ [])))
    → (said more : List Outgoing) → IsPrefix (text said) (text (said ++ more))
grows text one said [] = rw append-nil (prefix_self (text said))
grows text one said (event ∷ more) =
    let on = rw (append_assoc said (event ∷ []) more) at (grows text one (said ++ event ∷ []) more) in
    prefix_trans (text said) (text (said ++ event ∷ [])) (text (said ++ event ∷ more)) (one said event) on

module _ {scene : SessionScene} {now : LineState} {half : WebSocketHalf} {read : List ℕ} (w : World Msg Output) {outcome : Outcome} (s : Invariant scene now half read w.conn)
    (i : IsSessionExchange (handshake_of scene.facts) scene.facts w) (over : half.stage ≡ Over (ConnectionEnds outcome)) where
  abbrev pub one : ExchangeRecord
  one = session_of scene w

  abbrev pub traffic : SessionTraffic
  traffic = talk_in half w.conn s.leftover s.handed

  ends_so : EndsByTask scene w.conn outcome ⊎ IsCutShort scene w.conn outcome
  ends_so = rw over at s.stage

  all_lawful : said_in scene w.conn ≡ taken_of w.conn
  all_lawful = lawful_is_accepted scene.facts (taken_of w.conn) (fronts_are_lawful WebSocket scene.facts (taken_of w.conn) i.taken.0 (rw i.taken.1 i.lawful))

  -- ---- the exchange serves the handshake

  opens_accepted : IsCarrying scene w.conn s.text s.leftover → Opens scene.frames one traffic s.text
  opens_accepted c = Accepted c.subprotocol c.headers (c.events ++ i.taken.0) (sym i.taken.1 ∙ ap (λ (l : List Outgoing). l ++ i.taken.0) (sym all_lawful ∙ c.said)) c.text_is c.kept

  opens_silent : IsSilent half w.conn s.leftover s.handed → Opens scene.frames one traffic s.text
  opens_silent c = Silent (rw (c.kept, c.received, c.over, c.sent) refl)

  opens : (a : Answered) → IsCarried a scene half w.conn s.text s.leftover s.handed → Opens scene.frames one traffic s.text
  opens answered.Unanswered c = opens_silent c.0
  opens answered.Refused c = opens_silent c
  opens _ c = opens_accepted c

  cut_short : (k : OutcomeClass) → IsCutShortAs k scene w.conn → is_cut_class k ≡ true
  cut_short Uncut c = absurd c
  cut_short Unbegun c = absurd c
  cut_short _ c = refl

  is_cut_by : w.conn.broken ≡ Some ByCut → is_cut outcome ≡ true
  is_cut_by b = elim ends_so [ inl t ↦ cc (t.uncut, b) | inr c ↦ cut_short (class_of outcome) c ]

  cause : (times : ℕ) (events : List Incoming) (it : Incoming) → (times ≡ 0) ⊎ HasSessionCause w events it → (times ≡ 0) ⊎ IsLeft (is_cut outcome) one w.conn.arrived events it
  cause times events it (inl none) = inl none
  cause times events it (inr (inl c)) = inr (ByApplication c.0 c.1)
  cause times events it (inr (inr (inl c))) = inr (ByClient (ap is_by_input c.0) c.1 c.2)
  cause times events it (inr (inr (inr c))) = inr (left_by_cut (is_cut_by c.0) c.1)

  serves : ServesHandshake scene.limits (is_cut outcome) s.fixed.after one traffic s.text
  serves = record {
    frames = scene.frames;
    head = s.fixed.head;
    opens = opens (answer_of half.session) s.carried;
    disconnect = i.disconnect;
    hears = record { first = i.events; times = i.times; in_order = i.heard; due = i.due; cause = cause i.times i.events i.disconnect i.cause };
    lawful = i.lawful;
    breaks = s.breaks;
  }

  -- ---- the end

  ended_put : (ended : EndKind) → end_of w.conn.got ≡ Some ended → end_of w.app.put ≡ Some ended
  ended_put ended is = sym (i.end_is (λ none. cc (none, is))) ∙ is

  done : (t : EndsByTask scene w.conn outcome) → IsSessionDone outcome one traffic s.text
  done t =
      let taken : end_of w.conn.got ≢ None = λ none. cc (none, t.taken) in
      let all = i.ended taken in (t.kind, ended_put t.kind t.taken, rw (all_lawful, all) at t.follows, rw (s.written, all, i.end_is taken) at t.out)

  no_more : (is_by_input w.conn.broken ≡ true) × (has_close w.conn.arrived ≡ false) → is_over_at half.session ≡ true
  no_more why = elim (s.breaks why.0) [ inl closed ↦ cc (closed, why.1) | inr ends ↦ ends ]

  ends_by_task : (t : EndsByTask scene w.conn outcome) → IsSessionDone outcome one traffic s.text → EndsInSession outcome one traffic s.text
  ends_by_task t d = elim (after_way scene.facts t.kind (said_in scene w.conn) (said_of w.app) (is_by_input w.conn.broken) w.conn.arrived) [
    | inl way ↦
        let of : Uncut ≡ class_of outcome = sym way.uncut ∙ ap class_of t.follows in
        subst (λ (k : OutcomeClass). EndsInSessionAs k outcome one traffic s.text) of (d, λ is. no_more (way.broken (t.follows ∙ is)))
    | inr idle ↦
        let of : GivenUp ≡ class_of outcome = ap class_of (sym idle.0 ∙ t.follows) in subst (λ (k : OutcomeClass). EndsInSessionAs k outcome one traffic s.text) of
        (prefix_same (spoken s.text traffic) (said_out one)
        (d.3 ∙ ap (λ (o : Option EndKind). session_text (handshake_of scene.facts) scene.facts (said_of w.app) o (is_by_input w.conn.broken)) (ended_put t.kind t.taken)
        ∙ ap (λ (l : List Output). said_out one ++ l) idle.1 ∙ append-nil (said_out one)))
  ]

  -- what was next of what was taken is next of what was sent
  next : (out more : List Output) → IsNextOutput (known scene w.conn) out more → IsNextOutput one out more
  next out more (Beginning none is) = Beginning none is
  next out more (Saying before after event said is adds) =
      Saying before (after ++ i.taken.0) event (sym i.taken.1 ∙ ap (λ (l : List Outgoing). l ++ i.taken.0) said ∙ append_assoc before (event ∷ after) i.taken.0) is adds
  next out more (Ending ended put is adds) = let all = i.ended (λ none. cc (none, put)) in Ending ended (ended_put ended put) (rw all at is) (rw all at adds)

  front : IsPrefix w.conn.written (output_in scene w.conn) → IsPrefix (spoken s.text traffic) (said_out one)
  front p =
      let more = grows (session_output (handshake_of scene.facts) scene.facts) (web_socket_is_steady (handshake_of scene.facts) scene.facts scene.limits.ring).text_grows (taken_of w.conn) i.taken.0 in
      rw s.written at (prefix_trans w.conn.written (output_in scene w.conn) (said_out one) p (rw i.taken.1 at more))

  ends_cut : (k : OutcomeClass) → IsCutShortAs k scene w.conn → EndsInSessionAs k outcome one traffic s.text
  ends_cut (ByWrite n) c = record { out = c.out; more = c.more; is_next = next c.out c.more c.is_next; within = c.within; written_is = sym s.written ∙ c.written_is }
  ends_cut GivenUp c = front c
  ends_cut Lacking c = front c
  ends_cut _ c = absurd c

  ends : EndsInSession outcome one traffic s.text
  ends = elim ends_so [ inl t ↦ ends_by_task t (done t) | inr c ↦ ends_cut (class_of outcome) c ]

  converses : (report : Report) → report.outcome ≡ outcome → CountsExchanges report (scene.exchanges ++ one ∷ [])
      → ConversesInSession scene.limits half.wire.input read (scene.exchanges ++ one ∷ []) traffic (scene.before ++ s.text) report
  converses report o c =
      let f = s.fixed in
      let told = ap (λ (l : List ℕ). l ++ s.text) f.before_is in
      record { answered = scene.exchanges; session = one; in_order = refl; after = f.after; each = f.answered; text = s.text; serves = rw o serves; ends = rw o ends; written_is = told; counts = c }

  pub ends_after : ReadsAhead scene.limits scene.read (requests_of scene.exchanges) → EndsSo scene.limits scene.start now read (scene.exchanges ++ one ∷ []) (scene.before ++ s.text) outcome
  ends_after asked =
      let all = scene.exchanges ++ one ∷ [] in
      let line = rw over at s.line in
      let more = more_requests scene.limits read (requests_of scene.exchanges) ((scene.scope, scene.facts) ∷ []) (rw s.fixed.read_is asked) in
      let says = λ (report : Report) (o : report.outcome ≡ outcome) (c : CountsExchanges report all).
      in_session scene.limits half.wire.input read all traffic (scene.before ++ s.text) report (converses report o c) in
      record { end = half.wire.input; traffic = traffic; carried = line.carried; converses = says; ahead = rw (requests_join scene.exchanges (one ∷ [])) more }
