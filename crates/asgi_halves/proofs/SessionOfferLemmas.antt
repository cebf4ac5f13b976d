-- What the steps of a session's half keep, and those at its own end of the pair: it offers what is due, and the disconnect of a cut.
use Rattle.asgi_halves.proofs.SessionWords.{Answer, Answered, Bool, Break, ByCut, ByInput, ByWrite, Byte, CarriesOn, Client, Closed, ConnGhosts, ConnKeeps, ConnView, ConnectionEnds, Cut, EndKind}
use Rattle.asgi_halves.proofs.SessionWords.{Ended, Event, Facts, HasPut, HasSent, Incoming, Invariant, IsAt, IsCarried, IsCarrying, IsCutOff, IsCutShort, IsCutShortAs, IsDue, IsNextOutput, IsOf}
use Rattle.asgi_halves.proofs.SessionWords.{IsOffered, IsOpen, IsPrefix, IsSilent, IsTrue, IsViewOf, LineState, List, Message, Msg, NoMemory, None, Open, Option, OutItem, Outcome, OutcomeClass}
use Rattle.asgi_halves.proofs.SessionWords.{Outgoing, Output, Over, Put, Running, SentMessage, Session, SessionScene, Some, Stage, StopsSession, Talks, Unanswered, Unbegun, Uncut, WebSocket}
use Rattle.asgi_halves.proofs.SessionWords.{WebSocketHalf, WriteFailed, WsDisconnect, [], accepted_session, added_by, answer_of, ap, append-nil, append_assoc, arith, as_messages, as_text, class_of}
use Rattle.asgi_halves.proofs.SessionWords.{drop, drop_limit, end_event, end_of, events_append, events_of, exchange_of, failures_at, failures_by, failures_of, false, fold-append, handshake_of}
use Rattle.asgi_halves.proofs.SessionWords.{has_close, if◌then◌else◌, inl, inr, is_by_cut, is_by_input, is_over_at, is_over_with, is_some, known, length, length-map, map, next_on, none_is_heard, not}
use Rattle.asgi_halves.proofs.SessionWords.{outcome_of, output, output_in, passes, prefix_self, prefix_trans, refl, rest_at, said_in, session_disconnect, session_ending, session_events}
use Rattle.asgi_halves.proofs.SessionWords.{session_output, spare_at, stage_of, subst, sym, take, take-append-drop, take-map, taken_by, taken_of, talk_in, talk_sent, talk_written, true, unbroken}
use Rattle.asgi_halves.proofs.SessionWords.{web_socket_is_steady, with_session_event, ℕ, ◌++◌, ◌<◌, ◌↔◌, ◌∙◌, ◌∷◌, ◌≡◌, ◌⊎◌}

-- ---- what was taken grows

-- what a judge passes of a list begins what it passes of a longer one
accepted_grows : (facts : Facts) (events : List Outgoing) (event : Outgoing) → IsPrefix (accepted_session facts events) (accepted_session facts (events ++ event ∷ []))
accepted_grows facts events event =
    let said : List Outgoing = accepted_session facts events in
    let r = elim (passes WebSocket facts said event) as (λ b. IsPrefix said (if b then said ++ event ∷ [] else said)) [ true ↦ (event ∷ [], refl) | false ↦ prefix_self said ] in
    (r.0, r.1 ∙ sym (fold-append (with_session_event facts) [] events (event ∷ [])))

-- so does what is made of the items of a queue, of which some are no events
grows_with : {A : Type 0} (f : List Outgoing → List A) → ((events : List Outgoing) (event : Outgoing) → IsPrefix (f events) (f (events ++ event ∷ []))) → (got : List OutItem) (item : OutItem)
    → IsPrefix (f (events_of got)) (f (events_of (got ++ item ∷ [])))
grows_with f grows got (Event event) = rw (events_append got (Event event ∷ [])) (grows (events_of got) event)
grows_with f grows got (Ended kind) = rw (events_append got (Ended kind ∷ []) ∙ append-nil (events_of got)) (prefix_self (f (events_of got)))

-- ---- what any step keeps

-- a half of the same exchange
abbrev pub among : WebSocketHalf → WebSocketHalf → WebSocketHalf
among half later = record later { facts = half.facts; wire = record half.wire { out = later.wire.out } }

-- the answer is that to the handshake, whatever waits
pub same_answer : (reply : Answer) (one other : Option Incoming) → answer_of (Session.Begun reply one) ≡ answer_of (Session.Begun reply other)
same_answer Answer.Awaited one other = refl
same_answer Answer.Accepted one other = refl
same_answer Answer.Refused one other = refl

-- the line carries messages
abbrev pub Carries : Answered → Type 0
Carries state = (state ≡ Open) ⊎ (state ≡ Closed)

pub carrying : (scene : SessionScene) (half : WebSocketHalf) (view : ConnView Msg Output) (text : List ℕ) (leftover : Option (List ℕ)) (handed : List SentMessage) (state : Answered) → Carries state
    → IsCarried state scene half view text leftover handed ↔ IsCarrying scene view text leftover
carrying scene half view text leftover handed state (inl is) = rw is ((λ c. c), (λ c. c))
carrying scene half view text leftover handed state (inr is) = rw is ((λ c. c), (λ c. c))

pub carrying_on : {scene : SessionScene} {view : ConnView Msg Output} {text : List ℕ} {leftover : Option (List ℕ)} → IsCarrying scene view text leftover → (seen : ConnView Msg Output)
    → IsPrefix (said_in scene view) (said_in scene seen) → IsCarrying scene seen text leftover
carrying_on c seen more =
    record { kept = c.kept; subprotocol = c.subprotocol; headers = c.headers; events = c.events ++ more.0; said = sym more.1 ∙ ap (λ (l : List Outgoing). l ++ more.0) c.said; text_is = c.text_is }

module _ {scene : SessionScene} {half : WebSocketHalf} {view : ConnView Msg Output} (t : Talks scene half view) where
  -- what is due in this session
  pub due_of : (state : Session) → half.session ≡ state → IsDue state view.offered view.arrived (is_by_input view.broken)
  due_of state is = subst (λ (s : Session). IsDue s view.offered view.arrived (is_by_input view.broken)) is t.due

  -- nothing more is sent
  pub talks_on : (next : Session) (s : Stage) (seen : ConnView Msg Output) → said_in scene seen ≡ said_in scene view → answer_of half.session ≡ answer_of next → is_by_cut seen.broken ≡ false
      → IsDue next seen.offered seen.arrived (is_by_input seen.broken) → Talks scene (record half { session = next; stage = s }) (record seen { written = view.written })
  talks_on next s seen same answered uncut is_due =
      let answers = sym answered ∙ t.answered in
      record { uncut = uncut; due = is_due; judged = rw same t.judged; answered = rw same answers; text = λ e. rw same (t.text (answered ∙ e)); written = rw same t.written; empty = t.empty }

-- what is to be written next, once these items were taken
pub record Adds (scene : SessionScene) (view : ConnView Msg Output) (got : List OutItem) (adds : List Output) : Type 0 where
  pub said : IsPrefix (said_in scene view) (said_in scene (record view { got = got }))
  pub all : output (exchange_of scene) (record view { got = got }) ≡ view.written ++ adds
  pub next : IsNextOutput (known scene (record view { got = got })) view.written adds
  pub short : IsPrefix view.written (output_in scene (record view { got = got }))

-- what is out once a message was handed over: all, or less, and the connection is cut short
abbrev pub IsSent : Put → SessionScene → ConnView Msg Output → List Output → Type 0
IsSent Put.Done scene seen all = seen.written ≡ all
IsSent Put.Failed scene seen all = IsCutShort scene seen (WriteFailed 0)
IsSent Put.NoMemory scene seen all = IsCutShort scene seen NoMemory

pub fails_as : (put : Put) → (failures_by put ≡ failures_at (stage_of put)) × (failures_by put ≡ failures_of (outcome_of put))
fails_as Put.Done = (refl, refl)
fails_as _ = (refl, refl)

module _ {scene : SessionScene} {was : LineState} {half : WebSocketHalf} {read : List ℕ} {view : ConnView Msg Output} (x : Invariant scene was half read view) where
  pub at_stage : (s : Stage) → half.stage ≡ s → IsAt s scene half view
  at_stage s is = subst (λ (s : Stage). IsAt s scene half view) is x.stage

  pub runs : half.stage ≡ Running → Talks scene half view × (end_of view.got ≡ None)
  runs is = at_stage Running is

  pub carried_at : (a : Answered) → answer_of half.session ≡ a → IsCarried a scene half view x.text x.leftover x.handed
  carried_at a is = subst (λ (a : Answered). IsCarried a scene half view x.text x.leftover x.handed) is x.carried

  -- this text and these messages passed over the line, and so many calls failed
  abbrev pub Passed : LineState → List ℕ → ℕ → Option (List ℕ) → List SentMessage → Type 0
  Passed now text failures kept handed = CarriesOn scene.start now half.wire.input read (scene.before ++ text) failures (talk_in half view kept handed) (spare_at half.session)

  line_at : (failures : ℕ) → failures_at half.stage ≡ failures → Passed was x.text failures x.leftover x.handed
  line_at failures is = subst (λ (n : ℕ). Passed was x.text n x.leftover x.handed) is x.line

  -- the half's invariant holds again, if nothing more arrived
  again : (now : LineState) (later : WebSocketHalf) (seen : ConnView Msg Output) (text : List ℕ) (kept : Option (List ℕ)) (handed : List SentMessage) → rest_at half.session ≡ rest_at later.session
      → Passed now text (failures_at later.stage) kept handed → seen.written ≡ map Byte text ++ map Message handed
      → IsCarried (answer_of later.session) scene (among half later) (record seen { arrived = view.arrived }) text kept handed → ConnKeeps (exchange_of scene) (record seen { arrived = view.arrived })
      → (is_by_input seen.broken ≡ true → (has_close view.arrived ≡ true) ⊎ (is_over_at later.session ≡ true)) → IsAt later.stage scene (among half later) (record seen { arrived = view.arrived })
      → Invariant scene now (among half later) read (record seen { arrived = view.arrived })
  again now later seen text kept handed same passed written carried keeps breaks stage =
      let f = x.fixed in
      let fixed : IsOf scene half.facts (record half.wire { out = later.wire.out }) read =
      record { facts_are = f.facts_are; limits_are = f.limits_are; after = f.after; answered = f.answered; head = f.head; before_is = f.before_is; read_is = f.read_is } in
      let line = rw same at passed in
      record { fixed = fixed; text = text; leftover = kept; handed = handed; line = line; written = written; carried = carried; keeps = keeps; breaks = breaks; stage = stage }

  -- what the line carries is the same, or more is sent
  carried_on : (later : WebSocketHalf) (seen : ConnView Msg Output) (text : List ℕ) → later.leftover ≡ half.leftover → rest_at half.session ≡ rest_at later.session
      → IsPrefix (said_in scene view) (said_in scene seen) → (a : Answered) → IsCarried a scene half view text x.leftover x.handed
      → IsCarried a scene later (record seen { arrived = view.arrived }) text x.leftover x.handed
  carried_on later seen text kept rest more Unanswered c =
      (record { kept = c.0.kept; received = c.0.received; over = ap is_over_with (sym rest) ∙ c.0.over; sent = c.0.sent }, ap (λ v. v.items) kept ∙ c.1)
  carried_on later seen text kept rest more Answered.Refused c = record { kept = c.kept; received = c.received; over = ap is_over_with (sym rest) ∙ c.over; sent = c.sent }
  carried_on later seen text kept rest more Open c = carrying_on c (record seen { arrived = view.arrived }) more
  carried_on later seen text kept rest more Closed c = carrying_on c (record seen { arrived = view.arrived }) more

  -- the line is the same
  pub stands_at : (later : WebSocketHalf) (seen : ConnView Msg Output) → later.leftover ≡ half.leftover → answer_of half.session ≡ answer_of later.session
      → rest_at half.session ≡ rest_at later.session → failures_at half.stage ≡ failures_at later.stage → IsPrefix (said_in scene view) (said_in scene seen)
      → ConnKeeps (exchange_of scene) (record seen { arrived = view.arrived; written = view.written })
      → (is_by_input seen.broken ≡ true → (has_close view.arrived ≡ true) ⊎ (is_over_at later.session ≡ true))
      → IsAt later.stage scene (among half later) (record seen { arrived = view.arrived; written = view.written })
      → Invariant scene was (among half later) read (record seen { arrived = view.arrived; written = view.written })
  stands_at later seen kept answered rest failures more keeps breaks stage =
      let new : WebSocketHalf = among half later in
      let after : ConnView Msg Output = record seen { arrived = view.arrived; written = view.written } in
      let carried = subst (λ (a : Answered). IsCarried a scene new after x.text x.leftover x.handed) answered (carried_on new after x.text kept rest more (answer_of half.session) x.carried) in
      again was later after x.text x.leftover x.handed rest (line_at (failures_at later.stage) failures) x.written carried keeps breaks stage

  -- ---- more is written

  module _ (unfailed : failures_at half.stage ≡ 0) {got : List OutItem} {adds : List Output} (a : Adds scene view got adds) (now : LineState) where
    -- this much of it went out, as text or as messages
    pub goes_out : (later : WebSocketHalf) (text : List ℕ) (kept : Option (List ℕ)) (handed : List SentMessage) (front rest : List Output) → rest_at half.session ≡ rest_at later.session
        → Passed now text (failures_at later.stage) kept handed → map Byte text ++ map Message handed ≡ view.written ++ front → front ++ rest ≡ adds
        → IsCarried (answer_of later.session) scene (among half later) (record view { got = got; written = map Byte text ++ map Message handed }) text kept handed
        → IsAt later.stage scene (among half later) (record view { got = got; written = map Byte text ++ map Message handed })
        → (written : List Output) × Invariant scene now (among half later) read (record view { got = got; written = written })
    goes_out later text kept handed front rest same passed out is carried stage =
        let written : List Output = map Byte text ++ map Message handed in
        let all : written ++ rest ≡ output (exchange_of scene) (record view { got = got }) = rw (out, append_assoc view.written front rest, is) (sym a.all) in
        let breaks = λ (e : is_by_input view.broken ≡ true). subst (λ (r : Option ℕ). (has_close view.arrived ≡ true) ⊎ (is_over_with r ≡ true)) same (x.breaks e) in
        (written, again now later (record view { got = got; written = written }) text kept handed same passed refl carried (record { offered = x.keeps.offered; written = (rest, all) }) breaks stage)

    -- a text, if no answer was given
    module _ (unanswered : answer_of half.session ≡ Unanswered) where
      silent : IsSilent half view x.leftover x.handed × (half.leftover.items ≡ scene.frames)
      silent = carried_at Unanswered unanswered

      quiet : (state : Answered) → (state ≡ Unanswered) ⊎ (state ≡ Answered.Refused) → (text : List ℕ) → IsCarried state scene half view text x.leftover x.handed
      quiet state (inl is) text = rw is silent
      quiet state (inr is) text = rw is silent.0

      pub text_passed : (part : List ℕ) (failures : ℕ) → HasPut was now part failures → Passed now (x.text ++ part) failures x.leftover x.handed
      text_passed part failures p =
          talk_written scene.start was now half.wire.input read scene.before x.text part failures (talk_in half view x.leftover x.handed) (spare_at half.session) (line_at 0 unfailed)
          silent.0.kept p.beside.0 p.beside.1 p.session p.appends p.rose p.tries

      pub text_out : (later : WebSocketHalf) (part : List ℕ) (rest : List Output) → later.leftover ≡ half.leftover → rest_at half.session ≡ rest_at later.session
          → (answer_of later.session ≡ Unanswered) ⊎ (answer_of later.session ≡ Answered.Refused) → HasPut was now part (failures_at later.stage) → map Byte part ++ rest ≡ adds
          → ((written : List Output) → written ≡ view.written ++ map Byte part → IsAt later.stage scene (among half later) (record view { got = got; written = written }))
          → (written : List Output) × Invariant scene now (among half later) read (record view { got = got; written = written })
      text_out later part rest kept same answered put is stage =
          let text : List ℕ = x.text ++ part in
          let seen : ConnView Msg Output = record view { got = got; written = map Byte text ++ map Message x.handed } in
          let out = as_text x.text part x.handed view.written silent.0.sent x.written in
          let carried = carried_on (among half later) seen text kept same a.said (answer_of later.session) (quiet (answer_of later.session) answered text) in
          goes_out later text x.leftover x.handed (map Byte part) rest same (text_passed part (failures_at later.stage) put) out is carried (stage seen.written out)

      -- its first n bytes
      pub text_cut : (later : WebSocketHalf) (more : List ℕ) → adds ≡ map Byte more → later.leftover ≡ half.leftover → rest_at half.session ≡ rest_at later.session
          → (answer_of later.session ≡ Unanswered) ⊎ (answer_of later.session ≡ Answered.Refused) → failures_at later.stage ≡ 1 → (n : ℕ) → n < length more → HasPut was now (take n more) 1
          → ((seen : ConnView Msg Output) → seen.got ≡ got → IsCutShort scene seen (WriteFailed n) → IsAt later.stage scene (among half later) seen)
          → (written : List Output) × Invariant scene now (among half later) read (record view { got = got; written = written })
      text_cut later more adds_it kept same answered one n less put stage =
          let part : map Byte (take n more) ≡ take n adds = sym (take-map Byte n more) ∙ ap (λ (l : List Output). take n l) (sym adds_it) in
          let within : n < length adds = rw (adds_it, length-map more Byte) less in
          text_out later (take n more) (drop n adds) kept same answered (rw one put) (ap (λ (l : List Output). l ++ drop n adds) part ∙ take-append-drop n adds)
          (λ written out. stage (record view { got = got; written = written }) refl
          (record { out = view.written; more = adds; is_next = a.next; within = within; written_is = out ∙ ap (λ (l : List Output). view.written ++ l) part }))

    -- a message, which is all of it
    module _ (opened : answer_of half.session ≡ Open) (message : SentMessage) (adds_it : adds ≡ Message message ∷ []) where
      sent_so : (put : Put) (written : List Output) → written ≡ view.written ++ map Message (taken_by message put)
          → (rest : List Output) × (map Message (taken_by message put) ++ rest ≡ adds) × IsSent put scene (record view { got = got; written = written }) (view.written ++ adds)
      sent_so Put.Done written out = ([], sym adds_it, out ∙ ap (λ (l : List Output). view.written ++ l) (sym adds_it))
      sent_so Put.Failed written out = (adds, refl, record { out = view.written; more = adds; is_next = a.next; within = rw adds_it (omega arith); written_is = out })
      sent_so Put.NoMemory written out = (adds, refl, (a.short.0, ap (λ (l : List Output). l ++ a.short.0) (out ∙ append-nil view.written) ∙ a.short.1))

      pub message_out : (answer : Put) → HasSent was now message answer → (later : WebSocketHalf) → rest_at half.session ≡ rest_at later.session → Carries (answer_of later.session)
          → failures_by answer ≡ failures_at later.stage → ((written : List Output) → IsSent answer scene (record view { got = got; written = written }) (view.written ++ adds)
          → IsAt later.stage scene (among half later) (record view { got = got; written = written }))
          → (written : List Output) × Invariant scene now (among half later) read (record view { got = got; written = written })
      message_out answer sent later same carries fails stage =
          let c : IsCarrying scene view x.text x.leftover = carried_at Open opened in
          let handed : List SentMessage = x.handed ++ taken_by message answer in
          let seen : ConnView Msg Output = record view { got = got; written = map Byte x.text ++ map Message handed } in
          let out = as_messages x.text x.handed (taken_by message answer) view.written x.written in
          let s = sent_so answer seen.written out in
          let passed = rw fails at (talk_sent scene.start was now half.wire.input read (scene.before ++ x.text) 0 refl (talk_in half view x.leftover x.handed) (talk_in half view x.leftover handed)
          (spare_at half.session) (line_at 0 unfailed) sent.text message answer sent.told sent.count sent.coming sent.kept refl refl refl refl scene.frames c.kept) in
          let carried = (carrying scene (among half later) seen x.text x.leftover handed (answer_of later.session) carries).1 (carrying_on c seen a.said) in
          goes_out later x.text x.leftover handed (map Message (taken_by message answer)) s.0 same passed out s.1 carried (stage seen.written s.2)

  -- ---- what is due is offered

  module _ (is : half.stage ≡ Running) where
    -- all that was taken is out, whatever is offered
    runs_on : (next : Session) (offered : List Incoming) (broken : Option Break) → answer_of half.session ≡ answer_of next → rest_at half.session ≡ rest_at next
        → IsOffered (exchange_of scene) view.arrived offered broken → is_by_cut broken ≡ false → (is_by_input broken ≡ true → (has_close view.arrived ≡ true) ⊎ (is_over_at next ≡ true))
        → IsDue next offered view.arrived (is_by_input broken) → Invariant scene was (record half { session = next }) read (record view { offered = offered; broken = broken })
    runs_on next offered broken answered rest offers uncut breaks is_due =
        let seen : ConnView Msg Output = record view { offered = offered; broken = broken } in
        stands_at (record half { session = next }) seen refl answered rest refl (prefix_self (said_in scene view)) (record { offered = offers; written = x.keeps.written }) breaks
        (subst (λ (s : Stage). IsAt s scene (record half { session = next }) seen) (sym is) (talks_on (runs is).0 next half.stage seen refl answered uncut is_due, (runs is).1))

    -- by the clauses of the end's calls: the session was taken out of the half before
    module _ {E : Type 0} (C : ConnGhosts E) (old new : E) (taken : Session) (value : taken ≡ half.session) (v : IsViewOf C old view) where
      -- the event that waits is offered
      pub offered_view : (reply : Answer) (event : Incoming) → taken ≡ Session.Begun reply (Some event) → C.offered new ≡ C.offered old ++ event ∷ [] → C.is_broken new ≡ C.is_broken old
          → C.got new ≡ C.got old → (later : ConnView Msg Output) × Invariant scene was (record half { session = Session.Begun reply None }) read later × IsViewOf C new later
      offered_view reply event taken_is offered broken got =
          let waits : half.session ≡ Session.Begun reply (Some event) = sym value ∙ taken_is in
          let t = (runs is).0 in
          let w = due_of t (Session.Begun reply (Some event)) waits in
          let none : view.broken ≡ None = unbroken view.broken t.uncut w.0 in
          let all : (view.offered ++ event ∷ []) ++ [] ≡ session_events view.arrived = append-nil (view.offered ++ event ∷ []) ∙ w.1 in
          let on = runs_on (Session.Begun reply None) (view.offered ++ event ∷ []) view.broken (ap answer_of waits ∙ same_answer reply (Some event) None) (ap rest_at waits)
          (subst (λ (b : Option Break). IsOffered (exchange_of scene) view.arrived (view.offered ++ event ∷ []) b) (sym none) ([], all)) t.uncut (λ e. cc (w.0, e)) (w.0, all, w.2) in
          (record view { offered = view.offered ++ event ∷ [] }, on, (ap (λ (l : List Incoming). l ++ event ∷ []) v.0 ∙ sym offered, v.1 ∙ sym broken, v.2 ∙ sym got))

      -- nothing is due, or no place is free
      pub none_view : (next : Session) → taken ≡ next → C.offered new ≡ C.offered old → C.is_broken new ≡ C.is_broken old → C.got new ≡ C.got old
          → (later : ConnView Msg Output) × Invariant scene was (record half { session = next }) read later × IsViewOf C new later
      none_view next none offered broken got = (view, rw (sym none ∙ value) x, (v.0 ∙ sym offered, v.1 ∙ sym broken, v.2 ∙ sym got))

      module _ (first : Bool) (event : Incoming) (is_first : first ≡ not (C.is_broken old)) (on_first : IsTrue first → C.offered new ≡ C.offered old ++ event ∷ []) (broken : C.is_broken new ≡ true)
          (got : C.got new ≡ C.got old) where
        -- the disconnect is
        left_on : (next : Session) → answer_of half.session ≡ answer_of next → rest_at half.session ≡ rest_at next → is_by_input view.broken ≡ false → view.offered ≡ session_events view.arrived
            → event ≡ session_disconnect view.arrived → (has_close view.arrived ≡ true) ⊎ (is_over_at next ≡ true) → IsDue next (view.offered ++ event ∷ []) view.arrived true
            → (later : ConnView Msg Output) × Invariant scene was (record half { session = next }) read later × IsViewOf C new later
        left_on next answered rest unbroke all is_it why is_due =
            let none : view.broken ≡ None = unbroken view.broken (runs is).0.uncut unbroke in
            let open_yet : C.is_broken old ≡ false = sym v.1 ∙ ap is_some none in
            let offered = ap (λ (l : List Incoming). l ++ event ∷ []) all ∙ ap (λ (e : Incoming). session_events view.arrived ++ e ∷ []) is_it in
            let on = runs_on next (view.offered ++ event ∷ []) (Some ByInput) answered rest offered refl (λ e. why) is_due in
            let seen = ap (λ (l : List Incoming). l ++ event ∷ []) v.0 ∙ sym (on_first (is_first ∙ ap not open_yet)) in
            (record view { offered = view.offered ++ event ∷ []; broken = Some ByInput }, on, (seen, sym broken, v.2 ∙ sym got))

        -- the client has closed
        pub left_view : taken ≡ Session.Leaves event
            → (later : ConnView Msg Output) × Invariant scene was (record half { session = Session.Closed Client (Some drop_limit) }) read later × IsViewOf C new later
        left_view leaves =
            let is_left : half.session ≡ Session.Leaves event = sym value ∙ leaves in
            let w = due_of (runs is).0 (Session.Leaves event) is_left in
            left_on (Session.Closed Client (Some drop_limit)) (ap answer_of is_left) (ap rest_at is_left) w.0 w.1 w.3 (inl w.2) (refl, w.2)

        -- no message follows
        pub broken_view : taken ≡ Session.Breaks → event ≡ WsDisconnect 1006 [] → (next : Session) → next ≡ Session.Broken
            → (later : ConnView Msg Output) × Invariant scene was (record half { session = next }) read later × IsViewOf C new later
        broken_view breaks is_it next after =
            let is_left : half.session ≡ Session.Breaks = sym value ∙ breaks in
            let w = due_of (runs is).0 Session.Breaks is_left in
            rw after (left_on Session.Broken (ap answer_of is_left) (ap rest_at is_left) w.0 w.1 (is_it ∙ sym (none_is_heard view.arrived w.2)) (inr refl) (refl, w.2))

-- ---- the connection is cut short

-- it is in a later view too, if what is out still begins what is to be written, or stops in what comes next
cut_on : (scene : SessionScene) (view seen : ConnView Msg Output) → ((n : ℕ) → StopsSession n (known scene view) view.written → StopsSession n (known scene seen) seen.written)
    → (IsPrefix view.written (output_in scene view) → IsPrefix seen.written (output_in scene seen)) → (k : OutcomeClass) → IsCutShortAs k scene view → IsCutShortAs k scene seen
cut_on scene view seen stops front Uncut short = absurd short
cut_on scene view seen stops front (ByWrite n) short = stops n short
cut_on scene view seen stops front Unbegun short = absurd short
cut_on scene view seen stops front _ short = front short

module _ {scene : SessionScene} {was : LineState} {half : WebSocketHalf} {read : List ℕ} {view : ConnView Msg Output} (x : Invariant scene was half read view) where
  -- Cut short in another stage, the half's invariant holds again.
  stands_cut : (out : Outcome) (s : Stage) → failures_at half.stage ≡ failures_at s → IsCutShort scene view out
      → ((v : ConnView Msg Output) → IsCutShort scene v out → v.got ≡ view.got → IsAt s scene (record half { stage = s }) v)
      → (later : ConnView Msg Output) → IsCutOff (WsDisconnect 1006 []) view later → Invariant scene was (record half { stage = s }) read later
  stands_cut out s failures short at later (inl e) =
      rw e (stands_at x (record half { stage = s }) view refl refl refl failures (prefix_self (said_in scene view)) x.keeps x.breaks (at view short refl))
  stands_cut out s failures short at later (inr (none, e)) =
      let cut : ConnView Msg Output = record view { offered = view.offered ++ WsDisconnect 1006 [] ∷ []; broken = Some ByCut } in
      let keeps : ConnKeeps (exchange_of scene) cut =
      record { offered = (view.offered, subst (λ (b : Option Break). IsOffered (exchange_of scene) view.arrived view.offered b) none x.keeps.offered, refl); written = x.keeps.written } in
      let still = cut_on scene view cut (λ n. subst (λ (b : Bool). StopsSession n (record (known scene view) { input_broke = b }) view.written) (ap is_by_input none)) (λ p. p) (class_of out) short in
      rw e (stands_at x (record half { stage = s }) cut refl refl refl failures (prefix_self (said_in scene view)) keeps (λ b. cc) (at cut still refl))

  -- the exchange is given up when all that was taken is written
  pub stops : (out : Outcome) → out ≡ Outcome.Idle → (later : ConnView Msg Output) → IsOpen half.stage → IsCutOff (WsDisconnect 1006 []) view later
      → Invariant scene was (record half { stage = Over (ConnectionEnds out) }) read later
  stops out idle later goes_on off =
      let t = by half.stage refl goes_on in
      rw idle (stands_cut Outcome.Idle (Over (ConnectionEnds Outcome.Idle)) t.1 ([], append-nil view.written ∙ t.0.written) (λ v s e. inr s) later off)
    where
      by : (s : Stage) → half.stage ≡ s → IsOpen s → Talks scene half view × (failures_at half.stage ≡ 0)
      by Running is goes_on = ((at_stage x Running is).0, ap failures_at is)
      by (Stage.Ending kind) is goes_on = ((at_stage x (Stage.Ending kind) is).0, ap failures_at is)
      by _ is goes_on = absurd goes_on

  module _ (out : Outcome) (is : half.stage ≡ Cut out) where
    unended : IsCutShort scene view out × (end_of view.got ≡ None)
    unended = at_stage x (Cut out) is

    pub cut_stops : (later : ConnView Msg Output) → IsCutOff (WsDisconnect 1006 []) view later → Invariant scene was (record half { stage = Over (ConnectionEnds out) }) read later
    cut_stops = stands_cut out (Over (ConnectionEnds out)) (ap failures_at is) unended.0 (λ v s e. inr s)

    -- the disconnect is offered, and the end of the task is awaited
    pub cut_waits : (later : ConnView Msg Output) → IsCutOff (WsDisconnect 1006 []) view later → Invariant scene was half read later
    cut_waits = stands_cut out half.stage refl unended.0 (λ v s e. subst (λ (t : Stage). IsAt t scene half v) (sym is) (s, ap end_of e ∙ unended.1))

    -- ---- what is taken is dropped

    stops_after : (item : OutItem) (n : ℕ) → StopsSession n (known scene view) view.written → StopsSession n (known scene (record view { got = view.got ++ item ∷ [] })) view.written
    stops_after item n short =
        let last = end_of (view.got ++ item ∷ []) in
        let next = next_on (session_output (handshake_of scene.facts) scene.facts) (λ (k : EndKind). session_ending scene.facts (events_of view.got) k (is_by_input view.broken))
        (λ (k : EndKind). session_ending scene.facts (events_of view.got ++ events_of (item ∷ [])) k (is_by_input view.broken))
        (known scene view) (events_of view.got) (events_of (item ∷ [])) last short.out short.more (rw unended.1 at short.is_next) in
        rw (events_append view.got (item ∷ [])) (record { out = short.out; more = short.more; is_next = next; within = short.within; written_is = short.written_is })

    took : (item : OutItem) (s : Stage) → failures_at half.stage ≡ failures_at s
        → (IsCutShort scene (record view { got = view.got ++ item ∷ [] }) out → IsAt s scene (record half { stage = s }) (record view { got = view.got ++ item ∷ [] }))
        → Invariant scene was (record half { stage = s }) read (record view { got = view.got ++ item ∷ [] })
    took item s failures at =
        let later : ConnView Msg Output = record view { got = view.got ++ item ∷ [] } in
        let p = x.keeps.written in
        let whole = rw (unended.1, append-nil (output_in scene view)) at p.1 in
        let grows = grows_with (session_output (handshake_of scene.facts) scene.facts) (web_socket_is_steady (handshake_of scene.facts) scene.facts scene.limits.ring).text_grows view.got item in
        let front = λ (q : IsPrefix view.written (output_in scene view)). prefix_trans view.written (output_in scene view) (output_in scene later) q grows in
        let written = prefix_trans view.written (output_in scene later) (output (exchange_of scene) later) (front (p.0, whole))
        (added_by (exchange_of scene) (taken_of later) (end_of later.got) later.broken_first later.arrived, refl) in
        stands_at x (record half { stage = s }) later refl refl refl failures (grows_with (accepted_session scene.facts) (accepted_grows scene.facts) view.got item)
        (record { offered = x.keeps.offered; written = written }) x.breaks (at (cut_on scene view later (stops_after item) front (class_of out) unended.0))

    pub took_event : (event : Outgoing) → Invariant scene was half read (record view { got = view.got ++ Event event ∷ [] })
    took_event event =
        took (Event event) half.stage refl
        (λ short. subst (λ (s : Stage). IsAt s scene half (record view { got = view.got ++ Event event ∷ [] })) (sym is) (short, end_event view.got event ∙ unended.1))

    pub took_end : (kind : EndKind) → Invariant scene was (record half { stage = Over (ConnectionEnds out) }) read (record view { got = view.got ++ Ended kind ∷ [] })
    took_end kind = took (Ended kind) (Over (ConnectionEnds out)) (ap failures_at is) (λ short. inr short)
