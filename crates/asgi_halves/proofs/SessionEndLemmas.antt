-- A session ends with its task: what the end adds is written, and the connection ends as that end requires.
use Rattle.asgi_halves.proofs.SessionWords.{Answered, Application, Bool, Byte, Client, Closed, ConnView, ConnectionEnds, DenialStart, EndKind, Ending, EndsByTask, Facts, HasPut, HasSent, Http}
use Rattle.asgi_halves.proofs.SessionWords.{Invariant, IsAt, IsLawful, IsUnended, LineState, List, Message, Msg, Open, Option, Outcome, Outgoing, Output, Over, Progress, Put, SentMessage, Session}
use Rattle.asgi_halves.proofs.SessionWords.{SessionScene, Side, Some, Stage, StandsForSession, Talks, Unanswered, WebSocket, WebSocketHalf, WriteFailed, WsAccept, WsClose, [], accepted_session}
use Rattle.asgi_halves.proofs.SessionWords.{after_session, answer_of, answer_to, ap, append-nil, as_response, closing_facts, denial_progress, end_of, ending_of, failures_at, failures_of, false}
use Rattle.asgi_halves.proofs.SessionWords.{has_close, if◌then◌else◌, inl, inr, is_by_input, is_closed, is_lawful_response, lawful_is_accepted, length, map, open_outcome, outcome_of, output_in}
use Rattle.asgi_halves.proofs.SessionWords.{prefix_same, prefix_self, progress_in, refl, refusal_text, rest_at, said_in, session_ending, session_outcome, subst, sym, take, taken_of, test_of_beginning}
use Rattle.asgi_halves.proofs.SessionWords.{true, ℕ, ◌++◌, ◌<◌, ◌∙◌, ◌∷◌, ◌≡◌, ◌⊎◌}
use Rattle.asgi_halves.proofs.SessionOfferLemmas.{Adds, IsSent, at_stage, due_of, fails_as, message_out, stands_at, text_cut, text_out}
use Rattle.asgi_response.specs.{Progress.closes_after}

-- ---- what the end adds, by what was sent

record Ends (said : List Outgoing) (out : ℕ → Bool → List Output) (so : Bool → List Msg → Outcome) : Type 0 where
  adds : (code : ℕ) (broken : Bool) → ending_of code broken said ≡ out code broken
  follows : (input_broke : Bool) (received : List Msg) → session_outcome said input_broke received ≡ so input_broke received

-- nothing
abbrev EndsWell : List Outgoing → Type 0
EndsWell said = Ends said (λ code broken. []) (λ input_broke received. Outcome.Finished)

-- 500
abbrev EndsRefused : List Outgoing → Type 0
EndsRefused said = Ends said (λ code broken. map Byte (refusal_text 500)) (λ input_broke received. Outcome.Refused 500)

-- a close, if the client did not close and the input did not end before
abbrev EndsOpen : List Outgoing → Type 0
EndsOpen said = Ends said (λ code broken. if broken then [] else Message (SentMessage.Close code []) ∷ []) open_outcome

-- an accepted session is closed or open
closed_if : (b : Bool) (a : Answered) → (if b then Closed else Open) ≡ a → ((a ≡ Closed) × (b ≡ true)) ⊎ ((a ≡ Open) × (b ≡ false))
closed_if true a h = inl (sym h, refl)
closed_if false a h = inr (sym h, refl)

left_open : (said : List Outgoing) → answer_to said ≡ Open → EndsOpen said
left_open (WsAccept a b ∷ events) h =
    elim (closed_if (is_closed WebSocket (WsAccept a b ∷ events)) Open h)
    [ inl e ↦ absurd (cc e.0) | inr e ↦ record { adds = λ code broken. rw e.1 refl; follows = λ input_broke received. rw e.1 refl } ]
left_open _ h = cc

was_closed : (said : List Outgoing) → answer_to said ≡ Closed → EndsWell said
was_closed (WsAccept a b ∷ events) h =
    elim (closed_if (is_closed WebSocket (WsAccept a b ∷ events)) Closed h)
    [ inl e ↦ record { adds = λ code broken. rw e.1 refl; follows = λ input_broke received. rw e.1 refl } | inr e ↦ absurd (cc e.0) ]
was_closed _ h = cc

was_refused : (said : List Outgoing) → answer_to said ≡ Answered.Refused → EndsWell said
was_refused (WsAccept a b ∷ events) h = elim (closed_if (is_closed WebSocket (WsAccept a b ∷ events)) Answered.Refused h) [ inl e ↦ absurd (cc e.0) | inr e ↦ absurd (cc e.0) ]
was_refused (WsClose a b ∷ events) h = record { adds = λ code broken. refl; follows = λ input_broke received. refl }
was_refused _ h = cc

-- how far a denial is
denied_so_far : (facts : Facts) (status : ℕ) (headers : _) (bodies : List Outgoing) → IsLawful WebSocket facts (DenialStart status headers ∷ bodies)
    → denial_progress facts (DenialStart status headers ∷ bodies) ≡ progress_in (closing_facts facts) (map as_response (DenialStart status headers ∷ bodies))
denied_so_far facts status headers bodies lawful =
    ap (progress_in (closing_facts facts)) (lawful_is_accepted (closing_facts facts) (map as_response (DenialStart status headers ∷ bodies)) (is_lawful_response facts status headers bodies lawful))

begun_or_whole : (b : Bool) (closes : Bool) → (if b then Progress.Complete closes else Progress.Begun) ≡ Progress.Nothing → ⊥
begun_or_whole true closes h = cc
begun_or_whole false closes h = cc

-- no answer was begun, or a denial was
denied_or_none : (facts : Facts) (said : List Outgoing) → IsLawful WebSocket facts said → answer_to said ≡ Unanswered
    → ((denial_progress facts said ≡ Progress.Nothing) × EndsRefused said) ⊎ ((denial_progress facts said ≡ Progress.Nothing → ⊥) × EndsWell said)
denied_or_none facts [] lawful u = inl (refl, record { adds = λ code broken. refl; follows = λ input_broke received. refl })
denied_or_none facts (DenialStart a b ∷ []) lawful u = inl (denied_so_far facts a b [] lawful, record { adds = λ code broken. refl; follows = λ input_broke received. refl })
denied_or_none facts (DenialStart a b ∷ event ∷ events) lawful u =
    let said = map as_response (DenialStart a b ∷ event ∷ events) in
    let so_far = denied_so_far facts a b (event ∷ events) lawful in
    inr ((λ h. begun_or_whole (is_closed Http said) (closes_after (closing_facts facts) said) (sym so_far ∙ h)), record { adds = λ code broken. refl; follows = λ input_broke received. refl })
denied_or_none facts (WsAccept a b ∷ events) lawful u = elim (closed_if (is_closed WebSocket (WsAccept a b ∷ events)) Unanswered u) [ inl e ↦ absurd (cc e.0) | inr e ↦ absurd (cc e.0) ]
denied_or_none facts (WsClose a b ∷ events) lawful u = absurd (cc)
denied_or_none facts (event ∷ events) lawful u = (let never : false ≡ true = test_of_beginning WebSocket (event ∷ events) lawful.begins in absurd (cc))

-- ---- in the end

-- the half after its connection ended with this outcome
abbrev pub ends_so : WebSocketHalf → Outcome → WebSocketHalf
ends_so half out = record half { stage = Over (ConnectionEnds out) }

-- the same after the server closed the session
abbrev pub closes_so : WebSocketHalf → Option ℕ → Outcome → WebSocketHalf
closes_so half rest out = record half { session = Session.Closed Application rest; stage = Over (ConnectionEnds out) }

-- the invariant holds, and the line moved on
abbrev pub Goes : SessionScene → LineState → WebSocketHalf → List ℕ → ConnView Msg Output → Type 0
Goes scene now half read view = (arrived : List Msg) × (written : List Output) × Invariant scene now half read (record view { arrived = arrived; written = written })

module _ {scene : SessionScene} {was : LineState} {half : WebSocketHalf} {read : List ℕ} {view : ConnView Msg Output} (x : Invariant scene was half read view)
    (ended : EndKind) (is : half.stage ≡ Stage.Ending ended) where
  at_end : Talks scene half view × (end_of view.got ≡ Some ended) × (view.broken_first ≡ is_by_input view.broken)
  at_end = at_stage x (Stage.Ending ended) is

  abbrev adds : List Output
  adds = session_ending scene.facts (taken_of view) ended (is_by_input view.broken)

  abbrev follows_so : Outcome → Type 0
  follows_so out = after_session ended (said_in scene view) (is_by_input view.broken) view.arrived ≡ out

  adding : Adds scene view view.got adds
  adding =
      let short = prefix_same view.written (output_in scene view) at_end.0.written in
      record { said = prefix_self (said_in scene view); all = rw (at_end.1, at_end.2, at_end.0.written) refl; next = Ending ended at_end.1 at_end.0.written refl; short = short }

  by_task : (out : Outcome) (written : List Output) → follows_so out → written ≡ view.written ++ adds → EndsByTask scene (record view { written = written }) out
  by_task out written follows gone = record { kind = ended; taken = at_end.1; uncut = at_end.0.uncut; follows = follows; out = rw (gone, at_end.1, at_end.0.written) refl }

  -- nothing is added
  pub ends_silent : (out : Outcome) → failures_of out ≡ 0 → adds ≡ [] → follows_so out → Goes scene was (ends_so half out) read view
  ends_silent out none nothing follows =
      let all : view.written ≡ view.written ++ adds = sym (append-nil view.written) ∙ ap (λ (l : List Output). view.written ++ l) (sym nothing) in
      let later = stands_at x (ends_so half out) view refl refl refl (ap failures_at is ∙ sym none) (prefix_self (said_in scene view)) x.keeps x.breaks (inl (by_task out view.written follows all)) in
      (view.arrived, view.written, later)

-- ---- by how the task ended

-- a task that ended by itself: an open session is closed with this code
abbrev pub EndsWith : WebSocketHalf → ℕ → Type 0
EndsWith half code = ((half.stage ≡ Stage.Ending EndKind.Returned) × (code ≡ 1000)) ⊎ ((half.stage ≡ Stage.Ending EndKind.Faulted) × (code ≡ 1011))

pub ends_itself : (half : WebSocketHalf) → (half.stage ≡ Stage.Ending EndKind.Returned) ⊎ (half.stage ≡ Stage.Ending EndKind.Faulted) → (code : ℕ) × EndsWith half code
ends_itself half (inl is) = (1000, inl (is, refl))
ends_itself half (inr is) = (1011, inr (is, refl))

record Own (half : WebSocketHalf) (code : ℕ) : Type 0 where
  ended : EndKind
  at : half.stage ≡ Stage.Ending ended
  adds : (facts : Facts) (events : List Outgoing) (broken : Bool) → session_ending facts events ended broken ≡ ending_of code broken (accepted_session facts events)
  follows : (said : List Outgoing) (input_broke : Bool) (received : List Msg) → after_session ended said input_broke received ≡ session_outcome said input_broke received

own : (half : WebSocketHalf) (code : ℕ) → EndsWith half code → Own half code
own half code (inl (is, e)) = record { ended = EndKind.Returned; at = is; adds = λ facts events broken. rw e refl; follows = λ said input_broke received. refl }
own half code (inr (is, e)) = record { ended = EndKind.Faulted; at = is; adds = λ facts events broken. rw e refl; follows = λ said input_broke received. refl }

module _ {scene : SessionScene} {was : LineState} {half : WebSocketHalf} {read : List ℕ} {view : ConnView Msg Output} (x : Invariant scene was half read view) where
  module _ (code : ℕ) (ends : EndsWith half code) where
    o : Own half code
    o = own half code ends

    talks : Talks scene half view
    talks = (at_end x o.ended o.at).0

    abbrev broke : Bool
    broke = is_by_input view.broken

    well : EndsWell (said_in scene view) → Goes scene was (ends_so half Outcome.Finished) read view
    well w =
        ends_silent x o.ended o.at Outcome.Finished refl (o.adds scene.facts (taken_of view) broke ∙ w.adds code broke)
        (o.follows (said_in scene view) broke view.arrived ∙ w.follows broke view.arrived)

    pub ends_refused : answer_of half.session ≡ Answered.Refused → Goes scene was (ends_so half Outcome.Finished) read view
    ends_refused a = well (was_refused (said_in scene view) (sym talks.answered ∙ a))

    pub ends_closed : answer_of half.session ≡ Closed → Goes scene was (ends_so half Outcome.Finished) read view
    ends_closed a = well (was_closed (said_in scene view) (sym talks.answered ∙ a))

    -- ---- no answer, or a denial

    module _ (unanswered : answer_of half.session ≡ Unanswered) (progress : Progress)
        (is_progress : (facts : Facts) (events : List Outgoing) → StandsForSession half.text facts events → progress ≡ denial_progress facts events) where
      so_far : progress ≡ denial_progress scene.facts (said_in scene view)
      so_far = is_progress scene.facts (said_in scene view) (talks.text unanswered)

      pub ends_denied : (progress ≡ Progress.Nothing → ⊥) → Goes scene was (ends_so half Outcome.Finished) read view
      ends_denied begun =
          elim (denied_or_none scene.facts (said_in scene view) talks.judged.lawful (sym talks.answered ∙ unanswered)) [ inl none ↦ absurd (begun (so_far ∙ none.0)) | inr denied ↦ well denied.1 ]

      module _ (nothing : progress ≡ Progress.Nothing) (text : List ℕ) (text_is : text ≡ refusal_text 500) (now : LineState) where
        little : EndsRefused (said_in scene view)
        little =
            elim (denied_or_none scene.facts (said_in scene view) talks.judged.lawful (sym talks.answered ∙ unanswered)) [ inl none ↦ none.1 | inr denied ↦ absurd (denied.0 (sym so_far ∙ nothing)) ]

        adds_refusal : session_ending scene.facts (taken_of view) o.ended broke ≡ map Byte text
        adds_refusal = o.adds scene.facts (taken_of view) broke ∙ (little.adds code broke ∙ ap (λ (l : List ℕ). map Byte l) (sym text_is))

        pub answered_whole : HasPut was now text 0 → Goes scene now (ends_so half (Outcome.Refused 500)) read view
        answered_whole put =
            let follows = o.follows (said_in scene view) broke view.arrived ∙ little.follows broke view.arrived in
            let later = text_out x (ap failures_at o.at) (adding x o.ended o.at) now unanswered (ends_so half (Outcome.Refused 500)) text [] refl refl (inl unanswered) put
            (append-nil (map Byte text) ∙ sym adds_refusal)
            (λ written gone. inl (by_task x o.ended o.at (Outcome.Refused 500) written follows (gone ∙ ap (λ (l : List Output). view.written ++ l) (sym adds_refusal)))) in
            (view.arrived, later.0, later.1)

        pub answered_part : (n : ℕ) → n < length text → HasPut was now (take n text) 1 → Goes scene now (ends_so half (WriteFailed n)) read view
        answered_part n less put =
            let later = text_cut x (ap failures_at o.at) (adding x o.ended o.at) now unanswered (ends_so half (WriteFailed n)) text adds_refusal refl refl (inl unanswered) refl n less put
            (λ seen same short. inr short) in
            (view.arrived, later.0, later.1)

    -- ---- an open session

    module _ (opened : answer_of half.session ≡ Open) where
      open_still : EndsOpen (said_in scene view)
      open_still = left_open (said_in scene view) (sym talks.answered ∙ opened)

      adds_by : (b : Bool) → broke ≡ b → session_ending scene.facts (taken_of view) o.ended broke ≡ (if b then [] else Message (SentMessage.Close code []) ∷ [])
      adds_by b e = o.adds scene.facts (taken_of view) broke ∙ open_still.adds code broke ∙ ap (λ (c : Bool). if c then [] else Message (SentMessage.Close code []) ∷ []) e

      follows_by : (b : Bool) → broke ≡ b → after_session o.ended (said_in scene view) broke view.arrived ≡ open_outcome b view.arrived
      follows_by b e = o.follows (said_in scene view) broke view.arrived ∙ open_still.follows broke view.arrived ∙ ap (λ (c : Bool). open_outcome c view.arrived) e

      -- a disconnect was offered before: the client closed, or no message followed
      left_so : (closed : Bool) → broke ≡ true → has_close view.arrived ≡ closed → (out : Outcome) → failures_of out ≡ 0 → (if closed then Outcome.Finished else Outcome.InputBroke) ≡ out
          → Goes scene was (ends_so half out) read view
      left_so closed broken is out none by =
          ends_silent x o.ended o.at out none (adds_by true broken) (follows_by true broken ∙ ap (λ (c : Bool). if c then Outcome.Finished else Outcome.InputBroke) is ∙ by)

      pub ends_left : (side : Side) (rest : Option ℕ) → half.session ≡ Session.Closed side rest → Goes scene was (ends_so half Outcome.Finished) read view
      ends_left Application rest is = absurd (cc (sym (ap answer_of is) ∙ opened))
      ends_left Client rest is = (let d = due_of talks (Session.Closed Client rest) is in left_so true d.0 d.1 Outcome.Finished refl refl)

      pub ends_broken : half.session ≡ Session.Broken → Goes scene was (ends_so half Outcome.InputBroke) read view
      ends_broken is = (let d = due_of talks Session.Broken is in left_so false d.0 d.1 Outcome.InputBroke refl refl)

      unbroken_in : (state : Session) → half.session ≡ state → IsUnended state → broke ≡ false
      unbroken_in (Session.Begun reply waits) is stays = (due_of talks (Session.Begun reply waits) is).0
      unbroken_in (Session.Leaves event) is stays = (due_of talks (Session.Leaves event) is).0
      unbroken_in Session.Breaks is stays = (due_of talks Session.Breaks is).0
      unbroken_in _ is stays = absurd stays

      pub closed_last : IsUnended half.session → (left : Option ℕ) → left ≡ rest_at half.session → (reason : List ℕ) → reason ≡ [] → (now : LineState) (answer : Put)
          → HasSent was now (SentMessage.Close code reason) answer → (out : Outcome) → out ≡ outcome_of answer → Goes scene now (closes_so half left out) read view
      closed_last stays left left_is reason none now answer sent out is =
          let unbroke : broke ≡ false = unbroken_in half.session refl stays in
          let later = message_out x (ap failures_at o.at) (adding x o.ended o.at) now opened (SentMessage.Close code []) (adds_by false unbroke) answer
          (subst (λ (r : List ℕ). HasSent was now (SentMessage.Close code r) answer) none sent) (closes_so half left (outcome_of answer)) (sym left_is) (inr refl) (fails_as answer).1 (by answer) in
          rw is (view.arrived, later.0, later.1)
        where
          by : (put : Put) (written : List Output) → IsSent put scene (record view { written = written }) (view.written ++ adds x o.ended o.at)
              → IsAt (Over (ConnectionEnds (outcome_of put))) scene (closes_so half left (outcome_of put)) (record view { written = written })
          by Put.Done written all = inl (by_task x o.ended o.at Outcome.Finished written (follows_by false (unbroken_in half.session refl stays)) all)
          by Put.Failed written cut = inr cut
          by Put.NoMemory written cut = inr cut
