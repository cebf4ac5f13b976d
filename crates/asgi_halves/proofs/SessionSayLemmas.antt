-- An event is sent that the judge has passed: if the invariant of the half held, it holds again.
use Rattle.asgi_halves.proofs.SessionWords.{Answer, Answered, Application, Awaited, Bool, Byte, ConnKeeps, ConnView, Cut, DenialBody, DenialStart, Err, Event, Facts, Global, Grows, Handshake, HasPut}
use Rattle.asgi_halves.proofs.SessionWords.{HasSent, HasUpgraded, HeaderField, Incoming, Invariant, IsAccept, IsAt, IsCarrying, IsDenial, IsDue, Judge, JudgeStandsFor, LineState, List, Message, Msg}
use Rattle.asgi_halves.proofs.SessionWords.{NoMemory, None, Ok, OnOk, Open, Option, Outgoing, Output, Payload, Put, ResponseText, Result, Running, Saying, SentMessage, Session, SessionScene, Some}
use Rattle.asgi_halves.proofs.SessionWords.{Stage, StandsForSession, Talks, Unanswered, Vec, WebSocket, WebSocketHalf, Wire, WriteFailed, WsAccept, WsClose, WsSend, [], accept_text, accepted_session}
use Rattle.asgi_halves.proofs.SessionWords.{answer_of, answer_to, answered_with, ap, append-nil, append_cancel_left, as_text, denial_text, end_event, end_of, event_adds, event_output, events_append}
use Rattle.asgi_halves.proofs.SessionWords.{exchange_of, failures_at, false, handshake_of, inl, inr, is_by_input, is_err, length, map, map-append, output, output_in, output_of, passes, refl}
use Rattle.asgi_halves.proofs.SessionWords.{refusal_text, rest_at, said_in, session_output, spare_at, stage_of, subst, sym, take, taken_of, talk_in, talk_upgraded, true, ℕ, ◌++◌, ◌<◌, ◌∙◌, ◌∷◌, ◌≡◌}
use Rattle.asgi_halves.proofs.SessionWords.{◌≢◌, ◌⊎◌}
use Rattle.asgi_halves.proofs.SessionOfferLemmas.{Adds, Carries, IsSent, Passed, carried_at, carrying, fails_as, goes_out, message_out, runs, same_answer, stands_at, text_cut, text_out, text_passed}
use Rattle.asgi_halves.proofs.SessionPassLemmas.{IsAccepted, accepted_more, body_follows, close_follows, closed_after_close, goes, is_first, message_follows, not_closed, open_after_send}
use Rattle.asgi_halves.proofs.SessionPassLemmas.{open_is_accepted}

no_text : (text : List ℕ) (handed : List SentMessage) → map Byte text ++ map Message handed ≡ [] → text ≡ []
no_text [] handed e = refl
no_text (b ∷ text) handed e = absurd (cc)

-- ---- the handshake is answered

-- nothing else changes
same_besides : (reply : Answer) (state : Session) (offered : List Incoming) (arrived : List Msg) (broke : Bool) → IsDue state offered arrived broke
    → (rest_at state ≡ rest_at (answered_with reply state)) × IsDue (answered_with reply state) offered arrived broke
same_besides reply (Session.Begun before waits) offered arrived broke d = (refl, d)
same_besides reply _ offered arrived broke d = (refl, d)

answers_so : (reply : Answer) (state : Session) → answer_of state ≡ Unanswered → answer_of (answered_with reply state) ≡ answer_of (Session.Begun reply None)
answers_so reply (Session.Begun Awaited waits) is = same_answer reply waits None
answers_so reply (Session.Closed Application rest) is = absurd (cc)
answers_so reply _ is = absurd (cc)

-- ---- an event is sent

-- the judge has passed it, and now stands for it too
pub record Sending (scene : SessionScene) (was : LineState) (old : WebSocketHalf) (read : List ℕ) (view : ConnView Msg Output) (judge : Judge) (event : Outgoing) : Type 0 where
  pub held : Invariant scene was old read view
  pub running : old.stage ≡ Running
  pub pass : passes WebSocket scene.facts (said_in scene view) event ≡ true
  pub judged : JudgeStandsFor judge WebSocket scene.facts (said_in scene view ++ event ∷ []) false

pub passed_so : {scene : SessionScene} {was : LineState} {old : WebSocketHalf} {read : List ℕ} {view : ConnView Msg Output} {judge : Judge} (event : Outgoing)
    → Invariant scene was old read view → old.stage ≡ Running → passes WebSocket scene.facts (said_in scene view) event ≡ true
    → JudgeStandsFor judge WebSocket scene.facts (said_in scene view ++ event ∷ []) false → Sending scene was old read view judge event
passed_so event x running pass judged = record { held = x; running = running; pass = pass; judged = judged }

module _ {scene : SessionScene} {was : LineState} {old : WebSocketHalf} {read : List ℕ} {view : ConnView Msg Output} {judge : Judge} {event : Outgoing}
    (p : Sending scene was old read view judge event) where
  abbrev pub taken : ConnView Msg Output
  taken = record view { got = view.got ++ Event event ∷ [] }

  abbrev pub adds : List Output
  adds = event_output (handshake_of scene.facts) scene.facts (said_in scene view) event

  -- the half with its new judge, in this session and stage
  abbrev pub after : Session → Stage → WebSocketHalf
  after next s = record old { judge = judge; session = next; stage = s }

  -- the same, with another text of a denial in hand
  abbrev pub denial : ResponseText → Vec ℕ Global → Stage → WebSocketHalf
  denial text out s = record old { judge = judge; text = text; wire = record old.wire { out = out }; stage = s }

  -- the half's invariant holds after the event
  abbrev pub Holds : LineState → WebSocketHalf → Type 0
  Holds now later = (written : List Output) × Invariant scene now later read (record view { got = view.got ++ Event event ∷ []; written = written })

  pub before : Talks scene old view × (end_of view.got ≡ None)
  before = runs p.held p.running

  still_open : end_of (view.got ++ Event event ∷ []) ≡ None
  still_open = end_event view.got event ∙ before.1

  more_taken : taken_of taken ≡ taken_of view ++ event ∷ []
  more_taken = events_append view.got (Event event ∷ [])

  said_on : said_in scene taken ≡ said_in scene view ++ event ∷ []
  said_on = ap (accepted_session scene.facts) more_taken ∙ accepted_more scene.facts (taken_of view) event true p.pass

  pub text_after : session_output (handshake_of scene.facts) scene.facts (taken_of view ++ event ∷ []) ≡ view.written ++ adds
  text_after = event_adds (handshake_of scene.facts) scene.facts (taken_of view) event p.pass ∙ ap (λ (l : List Output). l ++ adds) (sym before.0.written)

  output_later : output_in scene taken ≡ view.written ++ adds
  output_later = ap (session_output (handshake_of scene.facts) scene.facts) more_taken ∙ text_after

  adding : Adds scene view (view.got ++ Event event ∷ []) adds
  adding =
      let all : output (exchange_of scene) taken ≡ view.written ++ adds = rw (still_open, append-nil (output_in scene taken)) output_later in
      record { said = (event ∷ [], sym said_on); all = all; next = Saying (taken_of view) [] event more_taken before.0.written text_after; short = (adds, sym output_later) }

  -- all of it went out
  talks_still : (leftover : Vec ℕ Global) (text : ResponseText) (out : Vec ℕ Global) (next : Session) (written : List Output) → out.items ≡ []
      → answer_to (said_in scene view ++ event ∷ []) ≡ answer_of next
      → (answer_of next ≡ Unanswered → StandsForSession text scene.facts (said_in scene view ++ event ∷ [])) → IsDue next view.offered view.arrived (is_by_input view.broken)
      → written ≡ view.written ++ adds → IsAt Running scene (record (denial text out Running) { leftover = leftover; session = next }) (record taken { written = written })
  talks_still leftover text out next written empty becomes stands is_due is =
      let written = is ∙ sym output_later in
      (record { uncut = before.0.uncut; due = is_due; judged = rw said_on p.judged; answered = rw said_on (sym becomes); text = λ e. rw said_on (stands e); written = written; empty = empty }, still_open)

  -- after an accept the session is open, as long as something passes
  pub is_open : IsAccepted (said_in scene view) → answer_of old.session ≡ Open
  is_open s = let not_yet = rw s.3 at (not_closed scene.facts (said_in scene view) event p.pass) in before.0.answered ∙ rw (s.3, not_yet) refl

  -- a message
  pub handed_over : answer_of old.session ≡ Open → (now : LineState) (message : SentMessage) → adds ≡ Message message ∷ [] → (answer : Put) → HasSent was now message answer → (next : Session)
      → Carries (answer_of next) → rest_at old.session ≡ rest_at next → answer_to (said_in scene view ++ event ∷ []) ≡ answer_of next → IsDue next view.offered view.arrived (is_by_input view.broken)
      → (s : Stage) → s ≡ stage_of answer → Holds now (after next s)
  handed_over opened now message adds_it answer sent next carries same becomes is_due s is =
      rw is (message_out p.held (ap failures_at p.running) adding now opened message adds_it answer sent (after next (stage_of answer)) same carries (fails_as answer).0 (by answer))
    where
      by : (put : Put) (written : List Output) → IsSent put scene (record taken { written = written }) (view.written ++ adds)
          → IsAt (stage_of put) scene (after next (stage_of put)) (record taken { written = written })
      by Put.Done written out =
          talks_still old.leftover old.text old.wire.out next written before.0.empty becomes (λ e. elim carries [ inl is ↦ absurd (cc (sym is ∙ e)) | inr is ↦ absurd (cc (sym is ∙ e)) ]) is_due out
      by Put.Failed written cut = (cut, still_open)
      by Put.NoMemory written cut = (cut, still_open)

  -- ---- a text, before any answer or as part of a denial

  module _ (unanswered : answer_of old.session ≡ Unanswered) where
    -- there is no memory for it
    pub text_short : (text : ResponseText) (out : Vec ℕ Global) → Holds was (denial text out (Cut NoMemory))
    text_short text out =
        let keeps : ConnKeeps (exchange_of scene) taken = record { offered = p.held.keeps.offered; written = (adds, sym adding.all) } in
        (view.written, stands_at p.held (denial text out (Cut NoMemory)) taken refl refl refl (ap failures_at p.running) adding.said keeps p.held.breaks (adding.short, still_open))

    module _ (more : List ℕ) (adds_it : adds ≡ map Byte more) (now : LineState) (text : ResponseText) (out : Vec ℕ Global) (next : Session) (same : rest_at old.session ≡ rest_at next) where
      -- its first n bytes went out
      pub cut_off : (answer_of next ≡ Unanswered) ⊎ (answer_of next ≡ Answered.Refused) → (n : ℕ) → n < length more → HasPut was now (take n more) 1
          → Holds now (record (denial text out (Cut (WriteFailed n))) { session = next })
      cut_off answered n less put =
          text_cut p.held (ap failures_at p.running) adding now unanswered (record (denial text out (Cut (WriteFailed n))) { session = next }) more adds_it refl same answered refl n less put
          (λ seen is short. (short, ap end_of is ∙ still_open))

      -- all of it did
      pub all_out : (answer_of next ≡ Unanswered) ⊎ (answer_of next ≡ Answered.Refused) → out.items ≡ [] → answer_to (said_in scene view ++ event ∷ []) ≡ answer_of next
          → (answer_of next ≡ Unanswered → StandsForSession text scene.facts (said_in scene view ++ event ∷ [])) → IsDue next view.offered view.arrived (is_by_input view.broken)
          → HasPut was now more 0 → Holds now (record (denial text out old.stage) { session = next })
      all_out answered empty becomes stands is_due put =
          subst (λ (s : Stage). Holds now (record (denial text out s) { session = next })) (sym p.running)
          (text_out p.held (ap failures_at p.running) adding now unanswered (record (denial text out Running) { session = next }) more [] refl same answered put
          (append-nil (map Byte more) ∙ sym adds_it)
          (λ written is. talks_still old.leftover text out next written empty becomes stands is_due (is ∙ ap (λ (l : List Output). view.written ++ l) (sym adds_it))))

-- ---- a payload, and a close

module _ {scene : SessionScene} {was : LineState} {old : WebSocketHalf} {read : List ℕ} {view : ConnView Msg Output} {judge : Judge} {payload : Payload}
    (p : Sending scene was old read view judge (WsSend payload)) where
  pub payload_sent : (now : LineState) (answer : Put) → HasSent was now (SentMessage.Payload payload) answer → (s : Stage) → s ≡ stage_of answer → Holds p now (after p old.session s)
  payload_sent now answer sent =
      let s = message_follows (said_in scene view) payload (goes scene.facts (said_in scene view) (WsSend payload) p.pass) in
      let opened = is_open p s in
      handed_over p opened now (SentMessage.Payload payload) (rw s.3 refl) answer sent old.session (inl opened) refl
      (open_after_send scene.facts (said_in scene view) payload p.pass ∙ sym opened) (before p).0.due

module _ {scene : SessionScene} {was : LineState} {old : WebSocketHalf} {read : List ℕ} {view : ConnView Msg Output} {judge : Judge} {code : ℕ} {reason : List ℕ}
    (p : Sending scene was old read view judge (WsClose code reason)) where
  pub close_sent : answer_of old.session ≡ Open → (now : LineState) (answer : Put) (copy : List ℕ) → copy ≡ reason → HasSent was now (SentMessage.Close code copy) answer
      → (rest : Option ℕ) → rest ≡ rest_at old.session → (s : Stage) → s ≡ stage_of answer → Holds p now (after p (Session.Closed Application rest) s)
  close_sent opened now answer copy copied sent rest same =
      let s = open_is_accepted (said_in scene view) (sym (before p).0.answered ∙ opened) in
      handed_over p opened now (SentMessage.Close code reason) (rw s.3 refl) answer (rw copied at sent) (Session.Closed Application rest) (inr refl) (sym same)
      (closed_after_close scene.facts (said_in scene view) code reason s p.pass) tt

  -- a close in place of an accept
  module _ (shut : answer_of old.session ≢ Open) (text : List ℕ) (text_is : text ≡ refusal_text 403) (now : LineState) (new : WebSocketHalf)
      (same : new ≡ after p (answered_with Answer.Refused old.session) old.stage) where
    unsaid : said_in scene view ≡ []
    unsaid = elim (close_follows (said_in scene view) code reason (goes scene.facts (said_in scene view) (WsClose code reason) p.pass)) [ inl none ↦ none | inr s ↦ absurd (shut (is_open p s)) ]

    unanswered_yet : answer_of old.session ≡ Unanswered
    unanswered_yet = (before p).0.answered ∙ ap answer_to unsaid

    besides : (rest_at old.session ≡ rest_at (answered_with Answer.Refused old.session)) × IsDue (answered_with Answer.Refused old.session) view.offered view.arrived (is_by_input view.broken)
    besides = same_besides Answer.Refused old.session view.offered view.arrived (is_by_input view.broken) (before p).0.due

    refused : answer_of (answered_with Answer.Refused old.session) ≡ Answered.Refused
    refused = answers_so Answer.Refused old.session unanswered_yet

    pub refused_whole : HasPut was now text 0 → Holds p now new
    refused_whole put =
        rw same (all_out p unanswered_yet text (rw (unsaid, text_is) refl) now old.text old.wire.out (answered_with Answer.Refused old.session) besides.0 (inr refused) (before p).0.empty
        (rw (unsaid, refused) refl) (λ e. absurd (cc (sym refused ∙ e))) besides.1 put)

    pub refused_part : (n : ℕ) → n < length text → HasPut was now (take n text) 1 → Holds p now (record new { stage = Cut (WriteFailed n) })
    refused_part n less put =
        rw same (cut_off p unanswered_yet text (rw (unsaid, text_is) refl) now old.text old.wire.out (answered_with Answer.Refused old.session) besides.0 (inr refused) n less put)

-- ---- an accept

accept_of : (event : Outgoing) → IsAccept event → (subprotocol : Option (List ℕ)) × (headers : List HeaderField) × (event ≡ WsAccept subprotocol headers)
accept_of (WsAccept subprotocol headers) h = (subprotocol, headers, refl)
accept_of _ h = absurd h

module _ {scene : SessionScene} {was : LineState} {old : WebSocketHalf} {read : List ℕ} {view : ConnView Msg Output} {judge : Judge} {event : Outgoing}
    (p : Sending scene was old read view judge event) (accepts : IsAccept event) where
  a : (subprotocol : Option (List ℕ)) × (headers : List HeaderField) × (event ≡ WsAccept subprotocol headers)
  a = accept_of event accepts

  none_before : said_in scene view ≡ []
  none_before = is_first (said_in scene view) (WsAccept a.0 a.1) refl refl refl refl (rw a.2 at (goes scene.facts (said_in scene view) event p.pass))

  not_answered : answer_of old.session ≡ Unanswered
  not_answered = (before p).0.answered ∙ ap answer_to none_before

  -- there is no memory for its text
  pub accept_short : Holds p was (after p old.session (Cut NoMemory))
  accept_short = text_short p not_answered old.text old.wire.out

  module _ (text : List ℕ) (text_is : text ≡ accept_text old.facts event) (now : LineState) where
    adds_handshake : adds p ≡ map Byte text
    adds_handshake = rw (none_before, text_is, p.held.fixed.facts_are, a.2) refl

    pub accept_part : (n : ℕ) → n < length text → HasPut was now (take n text) 1 → Holds p now (after p old.session (Cut (WriteFailed n)))
    accept_part = cut_off p not_answered text adds_handshake now old.text old.wire.out old.session refl (inl not_answered)

    -- the line carries messages from here on
    pub accepted : HasPut was now text 0 → (switched : LineState) (leftover : Vec ℕ Global) (bytes : List ℕ) → bytes ≡ old.leftover.items → HasUpgraded now switched bytes
        → (new : WebSocketHalf) → new ≡ record (after p (answered_with Answer.Accepted old.session) old.stage) { leftover = leftover } → Holds p switched new
    accepted put switched leftover bytes bytes_are upgraded new new_is =
        let x = p.held in
        let whole : List ℕ = x.text ++ text in
        let next : Session = answered_with Answer.Accepted old.session in
        let later : WebSocketHalf = record (after p next Running) { leftover = leftover } in
        let seen : ConnView Msg Output = record view { got = view.got ++ Event event ∷ []; written = map Byte whole ++ map Message x.handed } in
        let u = rw bytes_are at upgraded in
        let by : answer_of next ≡ Open = answers_so Answer.Accepted old.session not_answered in
        let silent = carried_at x Unanswered not_answered in
        let besides = same_besides Answer.Accepted old.session view.offered view.arrived (is_by_input view.broken) (before p).0.due in
        let none : x.text ≡ [] = no_text x.text x.handed (sym x.written ∙ ((before p).0.written ∙ ap (output_of (handshake_of scene.facts) scene.facts) none_before)) in
        let out : seen.written ≡ view.written ++ adds p = as_text x.text text x.handed view.written silent.0.sent x.written ∙ ap (λ (l : List Output). view.written ++ l) (sym adds_handshake) in
        let passed : Passed x switched whole 0 (Some scene.frames) x.handed =
        talk_upgraded scene.start now switched old.wire.input read (scene.before ++ whole) 0 refl (talk_in old view x.leftover x.handed) (talk_in old view (Some scene.frames) x.handed)
        (spare_at old.session) (text_passed x (ap failures_at p.running) (adding p) now not_answered text 0 put) u.text old.leftover.items silent.0.kept u.keeps u.count u.calls u.coming
        (ap (λ (l : List ℕ). Some l) (sym silent.1)) refl refl refl in
        let said = said_on p ∙ (ap (λ (l : List Outgoing). l ++ event ∷ []) none_before ∙ ap (λ (e : Outgoing). e ∷ []) a.2) in
        let handshake = ap (λ (l : List ℕ). l ++ text) none ∙ (text_is ∙ (ap (λ (f : Facts). accept_text f event) x.fixed.facts_are ∙ ap (λ (e : Outgoing). accept_text scene.facts e) a.2)) in
        let carried : IsCarrying scene seen whole (Some scene.frames) = record { kept = refl; subprotocol = a.0; headers = a.1; events = []; said = said; text_is = handshake } in
        let stage = talks_still p leftover old.text old.wire.out next seen.written (before p).0.empty (rw (none_before, a.2, by) refl) (λ e. absurd (cc (sym by ∙ e))) besides.1 out in
        rw new_is (subst (λ (s : Stage). Holds p switched (record later { stage = s })) (sym p.running)
        (goes_out x (ap failures_at p.running) (adding p) switched later whole (Some scene.frames) x.handed (adds p) [] besides.0 passed out (append-nil (adds p))
        ((carrying scene later seen whole (Some scene.frames) x.handed (answer_of next) (inl by)).1 carried) stage))

-- ---- a denial

-- what a call promises that was not refused
pub from_ok : {T E P : Type 0} (r : Result T E) → false ≡ is_err r → OnOk r P → P
from_ok (Ok value) h p = p
from_ok (Err error) h p = absurd (cc)

-- no answer is complete, and what is written is the text of the denial
record IsDenied (handshake : Handshake) (facts : Facts) (said : List Outgoing) : Type 0 where
  answer : answer_to said ≡ Unanswered
  text : output_of handshake facts said ≡ map Byte (denial_text facts said)

goes_on_denying : (handshake : Handshake) (facts : Facts) (said : List Outgoing) (event : Outgoing) → IsDenial event → passes WebSocket facts said event ≡ true
    → IsDenied handshake facts said × IsDenied handshake facts (said ++ event ∷ [])
goes_on_denying handshake facts said (DenialStart status headers) d pass =
    rw (is_first said (DenialStart status headers) refl refl refl refl (goes facts said (DenialStart status headers) pass))
    (record { answer = refl; text = refl }, record { answer = refl; text = refl })
goes_on_denying handshake facts said (DenialBody body more_body) d pass =
    let s = body_follows said body more_body (goes facts said (DenialBody body more_body) pass) in
    rw s.3 (record { answer = refl; text = refl }, record { answer = refl; text = refl })
goes_on_denying handshake facts said _ d pass = absurd d

module _ {scene : SessionScene} {was : LineState} {old : WebSocketHalf} {read : List ℕ} {view : ConnView Msg Output} {judge : Judge} {event : Outgoing}
    (p : Sending scene was old read view judge event) (denies : IsDenial event) where
  denying : IsDenied (handshake_of scene.facts) scene.facts (said_in scene view) × IsDenied (handshake_of scene.facts) scene.facts (said_in scene view ++ event ∷ [])
  denying = goes_on_denying (handshake_of scene.facts) scene.facts (said_in scene view) event denies p.pass

  unanswered : answer_of old.session ≡ Unanswered
  unanswered = (before p).0.answered ∙ denying.0.answer

  -- the text in hand rests on those before
  pub text_before : StandsForSession old.text scene.facts (said_in scene view)
  text_before = (before p).0.text unanswered

  module _ (text : ResponseText) (wire : Wire) (wire_is : wire ≡ record old.wire { out = wire.out }) where
    -- there is no memory for it
    pub denied_short : Holds p was (record old { judge = judge; text = text; wire = wire; stage = Cut NoMemory })
    denied_short = rw wire_is (text_short p unanswered text wire.out)

    -- ---- the text in hand is written

    module _ (now : LineState) (hand : List ℕ) (stands : StandsForSession text scene.facts (said_in scene view ++ event ∷ []))
        (grows : Grows (denial_text scene.facts (said_in scene view)) (denial_text scene.facts (said_in scene view ++ event ∷ [])) old.wire.out.items hand) where
      adds_hand : adds p ≡ map Byte hand
      adds_hand =
          let in_hand : hand ≡ grows.added = grows.output ∙ ap (λ (l : List ℕ). l ++ grows.added) (before p).0.empty in
          let joined = map-append Byte (denial_text scene.facts (said_in scene view)) grows.added in
          let text_in_hand : session_output (handshake_of scene.facts) scene.facts (taken_of view ++ event ∷ []) ≡ view.written ++ map Byte hand =
          rw (accepted_more scene.facts (taken_of view) event true p.pass, denying.1.text, grows.text, joined, (before p).0.written, denying.0.text, in_hand) refl in
          append_cancel_left view.written (adds p) (map Byte hand) (sym (text_after p) ∙ text_in_hand)

      -- all of it went out
      pub denied_whole : wire.out.items ≡ [] → HasPut was now hand 0 → Holds p now (record old { judge = judge; text = text; wire = wire })
      denied_whole empty put =
          rw wire_is (all_out p unanswered hand adds_hand now text wire.out old.session refl (inl unanswered) empty (denying.1.answer ∙ sym unanswered) (λ e. stands) (before p).0.due put)

      -- its first n bytes did
      pub denied_part : (n : ℕ) → n < length hand → HasPut was now (take n hand) 1 → Holds p now (record old { judge = judge; text = text; wire = wire; stage = Cut (WriteFailed n) })
      denied_part n less put = rw wire_is (cut_off p unanswered hand adds_hand now text wire.out old.session refl (inl unanswered) n less put)
