-- What the half of a session takes: nothing, the end of the task, or an event, which adds nothing if the judge does not pass it.
use Rattle.asgi_halves.proofs.SessionWords.{Bool, ConnKeeps, ConnView, DenialBody, DenialStart, EndKind, Ended, Event, Facts, HeaderField, Invariant, IsAt, Judge, JudgeStandsFor, LineState, List, Msg}
use Rattle.asgi_halves.proofs.SessionWords.{Option, OutItem, Outgoing, Output, Running, SessionScene, Stage, Talks, Verdict, WebSocket, WebSocketHalf, WsAccept, WsClose, [], accepted_session}
use Rattle.asgi_halves.proofs.SessionWords.{added_by, ap, append-nil, end_ended, end_event, end_of, events_append, events_of, exchange_of, failures_at, false, is_by_input, is_message, is_of, is_pass}
use Rattle.asgi_halves.proofs.SessionWords.{passes, refl, said_in, subst, sym, taken_of, true, verdict_on, ℕ, ◌++◌, ◌∙◌, ◌∷◌, ◌≡◌, ◌≢◌}
use Rattle.asgi_halves.proofs.{SessionOfferLemmas.runs, SessionOfferLemmas.stands_at, SessionOfferLemmas.talks_on, SessionPassLemmas.accepted_more}

no_pass : (v : Verdict) → (v ≡ Verdict.Pass → ⊥) → is_pass v ≡ false
no_pass Verdict.Pass h = absurd (h refl)
no_pass _ h = refl

-- an event of a session is a message, an accept, a close or one of a denial
pub none_left : {A : Type 0} (event : Outgoing) → is_message event ≡ false → ((subprotocol : Option (List ℕ)) (headers : List HeaderField) → event ≡ WsAccept subprotocol headers → ⊥)
    → ((code : ℕ) (reason : List ℕ) → event ≡ WsClose code reason → ⊥) → ((status : ℕ) (headers : List HeaderField) → event ≡ DenialStart status headers → ⊥)
    → ((body : List ℕ) (more_body : Bool) → event ≡ DenialBody body more_body → ⊥) → is_of WebSocket event ≡ true → A
none_left (WsAccept subprotocol headers) message accept close start body of = absurd (accept subprotocol headers refl)
none_left (WsClose code reason) message accept close start body of = absurd (close code reason refl)
none_left (DenialStart status headers) message accept close start body of = absurd (start status headers refl)
none_left (DenialBody bytes more_body) message accept close start body of = absurd (body bytes more_body refl)
none_left _ message accept close start body of = absurd (cc)

-- ---- more is taken, and nothing more is sent

module _ {scene : SessionScene} {now : LineState} {half : WebSocketHalf} {read : List ℕ} {view : ConnView Msg Output} (x : Invariant scene now half read view) (is : half.stage ≡ Running) where
  taken_so : (stage : Stage) (got : List OutItem) (first : Bool) → failures_at stage ≡ 0 → accepted_session scene.facts (events_of got) ≡ said_in scene view
      → (Talks scene (record half { stage = stage }) (record view { got = got; broken_first = first })
      → IsAt stage scene (record half { stage = stage }) (record view { got = got; broken_first = first }))
      → Invariant scene now (record half { stage = stage }) read (record view { got = got; broken_first = first })
  taken_so stage got first none same stands =
      let t = (runs x is).0 in
      let later : ConnView Msg Output = record view { got = got; broken_first = first } in
      let talks = talks_on t half.session stage later same refl t.uncut t.due in
      let added : List Output = added_by (exchange_of scene) (events_of got) (end_of got) first view.arrived in
      let keeps : ConnKeeps (exchange_of scene) later = record { offered = x.keeps.offered; written = (added, ap (λ (l : List Output). l ++ added) talks.written) } in
      stands_at x (record half { stage = stage }) later refl refl refl (ap failures_at is ∙ sym none) ([], append-nil (said_in scene view) ∙ sym same) keeps x.breaks (stands talks)

  -- the end of the task
  pub ended_taken : (kind : EndKind) → Invariant scene now (record half { stage = Stage.Ending kind }) read (record view { got = view.got ++ Ended kind ∷ []; broken_first = is_by_input view.broken })
  ended_taken kind =
      taken_so (Stage.Ending kind) (view.got ++ Ended kind ∷ []) (is_by_input view.broken) refl
      (rw (events_append view.got (Ended kind ∷ []), append-nil (taken_of view)) refl) (λ talks. (talks, end_ended view.got kind (runs x is).1, refl))

  -- the judge knows the facts of the half, which are those of the scene
  judged_here : JudgeStandsFor half.judge WebSocket half.facts (said_in scene view) false
  judged_here = subst (λ (f : Facts). JudgeStandsFor half.judge WebSocket f (said_in scene view) false) (sym x.fixed.facts_are) (runs x is).0.judged

  module _ (event : Outgoing) (answer : Verdict)
      (judged : (said : List Outgoing) → JudgeStandsFor half.judge WebSocket half.facts said false → answer ≡ verdict_on WebSocket half.facts said false event) where
    -- the verdict is that on what was sent
    verdict_is : answer ≡ verdict_on WebSocket scene.facts (said_in scene view) false event
    verdict_is = subst (λ (f : Facts). answer ≡ verdict_on WebSocket f (said_in scene view) false event) x.fixed.facts_are (judged (said_in scene view) judged_here)

    -- nothing is sent
    pub not_passed : (after : Judge) → (answer ≡ Verdict.Pass → ⊥) → (answer ≢ Verdict.Pass → after ≡ half.judge)
        → (written : List Output) × Invariant scene now (record half { judge = after }) read (record view { got = view.got ++ Event event ∷ []; written = written })
    not_passed after fails kept =
        let none = accepted_more scene.facts (taken_of view) event false (ap is_pass (sym verdict_is) ∙ no_pass answer fails) in
        let later = taken_so Running (view.got ++ Event event ∷ []) view.broken_first refl (rw (events_append view.got (Event event ∷ [])) none)
        (λ talks. (talks, end_event view.got event ∙ (runs x is).1)) in
        rw (kept fails) (view.written, subst (λ (s : Stage). Invariant scene now (record half { stage = s }) read (record view { got = view.got ++ Event event ∷ [] })) (sym is) later)

    pub passed : answer ≡ Verdict.Pass → passes WebSocket scene.facts (said_in scene view) event ≡ true
    passed pass = ap is_pass (sym verdict_is ∙ pass)

  -- after the event the judge stands for that too
  pub judged_after : (event : Outgoing) (after : Judge)
      → ((said : List Outgoing) → JudgeStandsFor half.judge WebSocket half.facts said false → JudgeStandsFor after WebSocket half.facts (said ++ event ∷ []) false)
      → JudgeStandsFor after WebSocket scene.facts (said_in scene view ++ event ∷ []) false
  judged_after event after keeps = subst (λ (f : Facts). JudgeStandsFor after WebSocket f (said_in scene view ++ event ∷ []) false) x.fixed.facts_are (keeps (said_in scene view) judged_here)
