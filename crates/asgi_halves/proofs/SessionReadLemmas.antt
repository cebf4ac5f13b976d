-- The reads of a session: a message arrives and is heard, or it is dropped after a close.
use Rattle.asgi_halves.proofs.SessionWords.{Accepted, Application, Bool, Break, ByCut, ByInput, Client, ConnKeeps, ConnView, ConnectionEnds, Cut, DenialStart, EndKind, EndsByTask, Finished, Got}
use Rattle.asgi_halves.proofs.SessionWords.{HasRead, Incoming, Invariant, IsAt, IsDue, IsOffered, IsPrefix, IsSteady, LineState, List, MayDrop, Message, Msg, NoMemory, None, Open, Option, Outgoing}
use Rattle.asgi_halves.proofs.SessionWords.{Output, Over, Payload, PreservesByLine, Read, Running, SentMessage, Session, SessionScene, Side, Some, Stage, WebSocket, WebSocketHalf, WsAccept, WsReceive}
use Rattle.asgi_halves.proofs.SessionWords.{[], added_by, after_session, answer_of, ap, append-nil, arith, close_is_heard, closes, disconnect_of, drop_limit, end_of, events_grow, events_in}
use Rattle.asgi_halves.proofs.SessionWords.{exchange_of, failures_at, false, given_by, handshake_of, has_close, heard_by, inl, inr, is_by_input, is_end, is_over_at, is_over_with, lost_by, map}
use Rattle.asgi_halves.proofs.SessionWords.{none_after, noted_by, open_closes, output_in, prefix_same, prefix_self, prefix_trans, read_after, reads_after_close, refl, rest_after, said_in}
use Rattle.asgi_halves.proofs.SessionWords.{session_disconnect, session_events, session_outcome, spare_at, spare_with, subst, sym, taken_of, talk_in, talk_read, test_of_beginning, true, waiting}
use Rattle.asgi_halves.proofs.SessionWords.{web_socket_is_steady, ℕ, ◌++◌, ◌+◌, ◌<◌, ◌∙◌, ◌∷◌, ◌≡◌, ◌≤◌, ◌⊎◌}
use Rattle.asgi_halves.proofs.SessionOfferLemmas.{Carries, at_stage, carrying, carrying_on, due_of, runs, talks_on}
use Rattle.asgi_halves.proofs.{CallLemmas.closes_after}

-- ---- more messages

-- after messages with no close
close_later : (messages more : List Msg) → has_close messages ≡ false → has_close (messages ++ more) ≡ has_close more
close_later [] more h = refl
close_later (Msg.Close close ∷ messages) more h = absurd (cc (h))
close_later (_ ∷ messages) more h = close_later messages more h

close_stays : (messages more : List Msg) → has_close messages ≡ true → has_close (messages ++ more) ≡ true
close_stays [] more h = absurd (cc (h))
close_stays (Msg.Close close ∷ messages) more h = refl
close_stays (_ ∷ messages) more h = close_stays messages more h

-- ---- what was offered

steady : (scene : SessionScene) → IsSteady (exchange_of scene)
steady scene = web_socket_is_steady (handshake_of scene.facts) scene.facts scene.limits.ring

offered_still : (scene : SessionScene) (arrived more : List Msg) (offered : List Incoming) (broken : Option Break) → (is_by_input broken ≡ true → has_close arrived ≡ true)
    → IsOffered (exchange_of scene) arrived offered broken → IsOffered (exchange_of scene) (arrived ++ more) offered broken
offered_still scene arrived more offered None closed front = prefix_trans offered (session_events arrived) (session_events (arrived ++ more)) front ((steady scene).due_grows arrived more)
offered_still scene arrived more offered (Some ByInput) closed all =
    all ∙ ap (λ (l : List Incoming). l ++ session_disconnect arrived ∷ []) (sym ((steady scene).over_due arrived more (closed refl)))
    ∙ ap (λ (e : Incoming). session_events (arrived ++ more) ++ e ∷ []) (sym ((steady scene).over_disconnect arrived more (closed refl)))
offered_still scene arrived more offered (Some ByCut) closed cut =
    (cut.0, prefix_trans cut.0 (session_events arrived) (session_events (arrived ++ more)) cut.1 ((steady scene).due_grows arrived more), cut.2)

-- ---- how the connection ends

-- the messages matter only after a break by the input
outcome_still : (said : List Outgoing) (input_broke : Bool) (arrived more : List Msg) → (input_broke ≡ true → has_close arrived ≡ true)
    → session_outcome said input_broke (arrived ++ more) ≡ session_outcome said input_broke arrived
outcome_still (WsAccept subprotocol headers ∷ events) true arrived more closed = rw (closed refl, close_stays arrived more (closed refl)) refl
outcome_still (DenialStart status headers ∷ []) input_broke arrived more closed = refl
outcome_still _ input_broke arrived more closed = refl

follows_still : (ended : EndKind) (said : List Outgoing) (input_broke : Bool) (arrived more : List Msg) → (input_broke ≡ true → has_close arrived ≡ true)
    → after_session ended said input_broke (arrived ++ more) ≡ after_session ended said input_broke arrived
follows_still EndKind.Idle said input_broke arrived more closed = refl
follows_still _ said input_broke arrived more closed = outcome_still said input_broke arrived more closed

-- ---- a message arrives

module _ {scene : SessionScene} {was : LineState} {half : WebSocketHalf} {read : List ℕ} {view : ConnView Msg Output} (x : Invariant scene was half read view) (now : LineState)
    (unfailed : failures_at half.stage ≡ 0) (follows : is_over_at half.session ≡ false) (carries : Carries (answer_of half.session))
    (closed : is_by_input view.broken ≡ true → has_close view.arrived ≡ true) (answer : Got) (call : HasRead was now answer) where
  -- The messages of the outcome arrived, and all else stays: the half's invariant holds again if that of the later stage does.
  arrives : (next : Session) (stage : Stage) → failures_at stage ≡ 0 → answer_of half.session ≡ answer_of next → is_over_at next ≡ is_end answer
      → reads_after_close (x.line.carried.calls ++ Read answer ∷ []) + spare_at next ≤ drop_limit
      → IsAt stage scene (record half { session = next; stage = stage }) (record view { arrived = view.arrived ++ given_by answer })
      → Invariant scene now (record half { session = next; stage = stage }) read (record view { arrived = view.arrived ++ given_by answer })
  arrives next stage none answered over few stands =
      let later : WebSocketHalf = record half { session = next; stage = stage } in
      let seen : ConnView Msg Output = record view { arrived = view.arrived ++ given_by answer } in
      let c = (carrying scene half view x.text x.leftover x.handed (answer_of half.session) carries).0 x.carried in
      let line = talk_read scene.start was now half.wire.input read (scene.before ++ x.text) (failures_at half.stage) unfailed (talk_in half view x.leftover x.handed)
      (talk_in later seen x.leftover x.handed) (spare_at half.session) x.line call.text answer follows call.told call.loses call.count call.kept refl (rw follows over) refl refl
      (spare_at next) few scene.frames c.kept in
      let carried = (carrying scene later seen x.text x.leftover x.handed (answer_of next) (subst Carries answered carries)).1 (carrying_on c seen (prefix_self (said_in scene view))) in
      let written = (elim (end_of view.got) as (λ o. IsPrefix view.written (output_in scene view ++ added_by (exchange_of scene) (taken_of view) o view.broken_first view.arrived)
      → IsPrefix view.written (output_in scene view ++ added_by (exchange_of scene) (taken_of view) o view.broken_first seen.arrived)) [ None ↦ (λ p. p) | Some kind ↦ (λ p. p) ]) x.keeps.written in
      let keeps : ConnKeeps (exchange_of scene) seen = record { offered = offered_still scene view.arrived (given_by answer) view.offered view.broken closed x.keeps.offered; written = written } in
      let breaks : is_by_input view.broken ≡ true → (has_close seen.arrived ≡ true) ⊎ (is_over_at next ≡ true) = λ e. inl (close_stays view.arrived (given_by answer) (closed e)) in
      record { fixed = x.fixed; text = x.text; leftover = x.leftover; handed = x.handed; line = rw none line; written = x.written; carried = carried; keeps = keeps; breaks = breaks; stage = stands }

-- ---- it is heard

module _ {scene : SessionScene} {was : LineState} {half : WebSocketHalf} {read : List ℕ} {view : ConnView Msg Output} (x : Invariant scene was half read view) (now : LineState)
    (is : half.stage ≡ Running) (open_still : half.session ≡ Session.Begun Accepted None) where
  due_here : (is_by_input view.broken ≡ false) × (view.offered ++ [] ≡ session_events view.arrived) × (has_close view.arrived ≡ false)
  due_here = due_of (runs x is).0 (Session.Begun Accepted None) open_still

  all_offered : view.offered ≡ session_events view.arrived
  all_offered = sym (append-nil view.offered) ∙ due_here.1

  abbrev seen : Got → ConnView Msg Output
  seen answer = record view { arrived = view.arrived ++ given_by answer }

  as_before : (later : ConnView Msg Output) → Invariant scene now (record half { session = Session.Begun Accepted None }) read later → Invariant scene now half read later
  as_before later = subst (λ (s : Session). Invariant scene now (record half { session = s }) read later) (sym open_still)

  module _ (answer : Got) (call : HasRead was now answer) where
    -- no close was read, and none went out
    few : reads_after_close (x.line.carried.calls ++ Read answer ∷ []) ≡ 0
    few =
        let t = (runs x is).0 in
        let out : closes (map Message x.handed) ≡ false =
        sym (closes_after x.text (map Message x.handed)) ∙ ap closes (sym x.written ∙ t.written)
        ∙ open_closes (handshake_of scene.facts) scene.facts (said_in scene view) (test_of_beginning WebSocket (said_in scene view) t.judged.lawful.begins)
        (sym t.answered ∙ ap answer_of open_still) in
        none_after x.line.carried.calls (sym (ap has_close x.line.carried.received) ∙ due_here.2) (sym (ap (λ (l : List SentMessage). closes (map Message l)) x.line.carried.handed) ∙ out) answer

    -- the half's invariant holds again in a later stage, and if this is due of the message
    goes_so : (next : Session) (stage : Stage) → failures_at stage ≡ 0 → Open ≡ answer_of next → is_over_at next ≡ is_end answer → spare_at next ≤ drop_limit
        → IsAt stage scene (record half { session = next; stage = stage }) (seen answer) → Invariant scene now (record half { session = next; stage = stage }) read (seen answer)
    goes_so next stage none answered over within =
        arrives x now (ap failures_at is) (ap is_over_at open_still) (inl (ap answer_of open_still)) (λ e. cc (due_here.0, e)) answer call next stage none (ap answer_of open_still ∙ answered) over
        (omega (arith, few, within))

    goes_on : (next : Session) → Open ≡ answer_of next → is_over_at next ≡ is_end answer → spare_at next ≤ drop_limit
        → IsDue next view.offered (view.arrived ++ given_by answer) (is_by_input view.broken) → Invariant scene now (record half { session = next }) read (seen answer)
    goes_on next answered over within is_due =
        let t = (runs x is).0 in
        goes_so next half.stage (ap failures_at is) answered over within (subst (λ (s : Stage). IsAt s scene (record half { session = next }) (seen answer)) (sym is)
        (talks_on t next half.stage (seen answer) refl (ap answer_of open_still ∙ answered) t.uncut is_due, (runs x is).1))

    -- no message follows
    lost : given_by answer ≡ [] → is_end answer ≡ true → Invariant scene now (lost_by half) read (seen answer)
    lost none ends =
        let same : view.arrived ≡ view.arrived ++ given_by answer = sym (append-nil view.arrived) ∙ ap (λ (l : List Msg). view.arrived ++ l) (sym none) in
        goes_on Session.Breaks refl (sym ends) (omega arith) (due_here.0, all_offered ∙ ap session_events same, ap has_close (sym same) ∙ due_here.2)

  module _ (message : Msg) (call : HasRead was now (Got.Message message)) where
    grown : view.offered ++ events_in message ≡ session_events (view.arrived ++ message ∷ [])
    grown = ap (λ (l : List Incoming). l ++ events_in message) all_offered ∙ sym (events_grow view.arrived message due_here.2)

    -- its event waits, if it has one
    waits : (event : Option Incoming) → events_in message ≡ waiting event → has_close (message ∷ []) ≡ false
        → Invariant scene now (record half { session = Session.Begun Accepted event }) read (seen (Got.Message message))
    waits event gives unclosed =
        goes_on (Got.Message message) call (Session.Begun Accepted event) refl refl (omega arith)
        (due_here.0, ap (λ (l : List Incoming). view.offered ++ l) (sym gives) ∙ grown, close_later view.arrived (message ∷ []) due_here.2 ∙ unclosed)

  heard : (message : Msg) → HasRead was now (Got.Message message) → Invariant scene now (heard_by half message) read (seen (Got.Message message))
  heard (Msg.Text text) call = waits (Msg.Text text) call (Some (WsReceive (Payload.Text text))) refl refl
  heard (Msg.Bytes bytes) call = waits (Msg.Bytes bytes) call (Some (WsReceive (Payload.Bytes bytes))) refl refl
  heard Msg.Ping call = as_before (seen (Got.Message Msg.Ping)) (waits Msg.Ping call None refl refl)
  heard Msg.Pong call = as_before (seen (Got.Message Msg.Pong)) (waits Msg.Pong call None refl refl)
  heard (Msg.Close close) call =
      let message : Msg = Msg.Close close in
      goes_on (Got.Message message) call (Session.Leaves (disconnect_of (Some close))) refl refl (omega arith)
      (due_here.0, sym (append-nil view.offered) ∙ grown message call, close_later view.arrived (message ∷ []) due_here.2, sym (close_is_heard view.arrived close due_here.2))

  pub noted : (answer : Got) → HasRead was now answer → Invariant scene now (noted_by half answer) read (seen answer)
  noted (Got.Message message) call = heard message call
  noted Got.Idle call =
      let same : view.arrived ++ [] ≡ view.arrived = append-nil view.arrived in
      as_before (seen Got.Idle) (goes_on Got.Idle call (Session.Begun Accepted None) refl refl (omega arith) (due_here.0, due_here.1 ∙ ap session_events (sym same), ap has_close same ∙ due_here.2))
  noted Got.Ended call = lost Got.Ended call refl refl
  noted Got.Failed call = lost Got.Failed call refl refl
  noted Got.NoMemory call =
      subst (λ (s : Session). Invariant scene now (record half { session = s; stage = Cut NoMemory }) read (seen Got.NoMemory)) (sym open_still)
      (goes_so Got.NoMemory call (Session.Begun Accepted None) (Cut NoMemory) refl refl refl (omega arith) (prefix_same view.written (output_in scene view) (runs x is).0.written, (runs x is).1))

-- ---- it is dropped

-- exactly one read less is left, or none
one_less : (spare : ℕ) (answer : Got) → 0 < spare → (is_over_with (rest_after spare answer) ≡ is_end answer) × (spare_with (rest_after spare answer) + 1 ≤ spare)
one_less spare (Got.Message message) some = (refl, omega arith)
one_less spare _ some = (refl, omega arith)

of_side : (side : Side) (rest later : Option ℕ) → Carries (answer_of (Session.Closed side rest)) × (answer_of (Session.Closed side rest) ≡ answer_of (Session.Closed side later))
    × ((offered : List Incoming) (arrived more : List Msg) (broke : Bool) → IsDue (Session.Closed side rest) offered arrived broke → IsDue (Session.Closed side later) offered (arrived ++ more) broke)
of_side Application rest later = (inr refl, refl, λ offered arrived more broke d. tt)
of_side Client rest later = (inl refl, refl, λ offered arrived more broke d. (d.0, close_stays arrived more d.1))

module _ {scene : SessionScene} {was : LineState} {half : WebSocketHalf} {read : List ℕ} {view : ConnView Msg Output} (x : Invariant scene was half read view) (now : LineState)
    (may : MayDrop half.stage) (side : Side) (spare : ℕ) (is : half.session ≡ Session.Closed side (Some spare)) (some : 0 < spare) (answer : Got) (call : HasRead was now answer) where
  abbrev next : Session
  next = Session.Closed side (rest_after spare answer)

  abbrev later_view : ConnView Msg Output
  later_view = record view { arrived = view.arrived ++ given_by answer }

  same : answer_of half.session ≡ answer_of next
  same = ap answer_of is ∙ (of_side side (Some spare) (rest_after spare answer)).1

  -- more messages may follow, so that a break by the input was by a close
  closed_before : is_by_input view.broken ≡ true → has_close view.arrived ≡ true
  closed_before e = elim (x.breaks e) [ inl closed ↦ closed | inr over ↦ absurd (cc (sym (ap is_over_at is) ∙ over)) ]

  over_on : EndsByTask scene view Finished → EndsByTask scene later_view Finished
  over_on ends =
      let follows = follows_still ends.kind (said_in scene view) (is_by_input view.broken) view.arrived (given_by answer) closed_before ∙ ends.follows in
      record { kind = ends.kind; taken = ends.taken; uncut = ends.uncut; follows = follows; out = ends.out }

  -- while the application goes on, or once the exchange is over
  stage_on : MayDrop half.stage → (failures_at half.stage ≡ 0) × IsAt half.stage scene (record half { session = next }) later_view
  stage_on (inl running) =
      let r = runs x running in
      let is_due = (of_side side (Some spare) (rest_after spare answer)).2 view.offered view.arrived (given_by answer) (is_by_input view.broken) (due_of r.0 (Session.Closed side (Some spare)) is) in
      let at = subst (λ (s : Stage). IsAt s scene (record half { session = next }) later_view) (sym running) (talks_on r.0 next half.stage later_view refl same r.0.uncut is_due, r.1) in
      (ap failures_at running, at)
  stage_on (inr over) =
      let at = subst (λ (s : Stage). IsAt s scene (record half { session = next }) later_view) (sym over)
      (elim (at_stage x (Over (ConnectionEnds Finished)) over) [ inl ends ↦ inl (over_on ends) | inr cut ↦ absurd cut ]) in
      (ap failures_at over, at)

  pub dropped : Invariant scene now (record half { session = next }) read later_view
  dropped =
      let s = stage_on may in
      let less = one_less spare answer some in
      arrives x now s.0 (ap is_over_at is) (rw is (of_side side (Some spare) None).0) closed_before answer call next half.stage s.0 same
      less.0 (omega (arith, read_after x.line.carried.calls answer, rw is at x.line.within, less.1)) s.1

-- ---- one step after the other

pub out_none : (line : LineState) (half : WebSocketHalf) → PreservesByLine line half line half
out_none line half scene read view x = (view.arrived, view.written, x)

pub out_then : (was mid now : LineState) (old half new : WebSocketHalf) → PreservesByLine was old mid half → PreservesByLine mid half now new → PreservesByLine was old now new
out_then was mid now old half new first second scene read view x =
    let a = first scene read view x in
    let b = second scene read (record view { arrived = a.0; written = a.1 }) a.2 in
    (b.0, b.1, b.2)
