-- The end of an exchange for its connection's half: what is dropped, read, written and given up.
use Rattle.asgi_halves.proofs.HalfWords.{◌≡◌, ◌≢◌, ℕ, Bool, true, false, List, [], ◌∷◌, ◌++◌, ◌<◌, length, take, drop, refl, sym, ap, ◌∙◌, subst, inl, inr, append_assoc, append-nil, Some, None, ◌⊎◌}
use Rattle.asgi_halves.proofs.HalfWords.{take-append-drop, EndKind, Facts, Incoming, Limits, Outgoing, BodyState, complete, Input, response_text, OutItem, http, input_of, end_of, is_by_input}
use Rattle.asgi_halves.proofs.HalfWords.{is_by_cut, ByCut, ConnView, output, taken_of, events_append, end_event, NextStep, BodyProgress, HttpHalf, Stage, InputEnd, Outcome, Wire, BreaksAt, EndsWhere}
use Rattle.asgi_halves.proofs.HalfWords.{HasGiven, IsAt, Scene, Invariant, failures_at, known, state_in, KeepsBesidesBody, GivesAfter, LineState, StopsWithin, has_ended, is_faulty, IsCutOff}
use Rattle.asgi_halves.proofs.HalfWords.{StandsForText, events_of, IsCutShort, IsSettled, known_input, partial, body_state, Talks, ConnKeeps, arith, IsOpen, Reading}
use Rattle.asgi_conversation.proofs.NextLemmas.{next_on}
use Rattle.asgi_conversation.specs.{ExchangeRecord.Ending, OutcomeClasses.is_cut, TaskEnds.after_response, TaskEnds.after_task}
use Rattle.asgi_exchange.specs.ExchangeTexts.{text_of}
use Rattle.asgi_halves.specs.{Half.Leaves, Traffic.failures_of, private.HalfSteps.GivesOn, private.HalfSteps.NeedsBody}
use Rattle.asgi_response.proofs.EndLemmas.{nothing_added}
use Rattle.asgi_response.specs.{Exchange.added_by_end, Exchange.end_text, Progress.progress_of, declared.progress.Progress.Progress}
use Rattle.asgi_halves.proofs.{HalfLemmas.unfailed, HalfLemmas.restage, HalfLemmas.lacks, HalfLemmas.talks_on, HalfLemmas.opens_in, HalfLemmas.stage_of, HalfLemmas.takes_on, HalfLemmas.HasPut}
use Rattle.asgi_halves.proofs.{HalfLemmas.moved_on, HalfLemmas.failed_at, HalfBodyLemmas.state_by}

-- ---- what is dropped

-- the events that were dropped
pub record Dropped (old new : HttpHalf) : Type 0 where
  pub same : KeepsBesidesBody old new
  pub gives : GivesOn old new
  pub limits : new.wire.requests.limits ≡ old.wire.requests.limits

pub dropped_then : {a b c : HttpHalf} → Dropped a b → Dropped b c → Dropped a c
dropped_then {a} {b} {c} x y = record {
  same = subst (λ (h : HttpHalf). c ≡ record h { body = c.body; wire = record h.wire { requests = c.wire.requests } }) x.same y.same;
  gives = λ read opened framing arrived events o given ends.
      let input : b.wire.input ≡ a.wire.input = ap (λ (h : HttpHalf). h.wire.input) x.same in
      let m = x.gives read opened framing arrived events o given ends in
      let r = y.gives read opened framing arrived m.0 (rw x.limits o) m.1 (subst (λ (i : InputEnd). EndsWhere b.body i) (sym input) m.2) in
      (r.0, r.1, subst (λ (i : InputEnd). EndsWhere c.body i) input r.2);
  limits = y.limits ∙ x.limits;
}

pub pulled : {old new : HttpHalf} → KeepsBesidesBody old new → GivesAfter old new → new.wire.requests.limits ≡ old.wire.requests.limits → Dropped old new
pulled same gives limits =
    record { same = same; gives = λ read opened framing arrived events o given ends. (let g = gives read opened framing arrived events o given ends in (events, g.0, g.1)); limits = limits }

-- one event more
pub dropped_one : {a b c : HttpHalf} → Dropped a b → KeepsBesidesBody b c → GivesOn b c → c.wire.requests ≡ b.wire.requests → Dropped a c
dropped_one x same gives requests = dropped_then x (record { same = same; gives = gives; limits = ap (λ (r : Reading). r.limits) requests })

module _ {scene : Scene} {now : LineState} {half : HttpHalf} {read : List ℕ} {view : ConnView ℕ ℕ} (x : Invariant scene now half read view) where
  -- the connection is given up at this point
  idles : failures_at half.stage ≡ 0 → Invariant scene now (record half { stage = Stage.Over (NextStep.ConnectionEnds Outcome.Idle) }) read view
  idles none = restage x (record half { stage = Stage.Over (NextStep.ConnectionEnds Outcome.Idle) }) refl none (inr (record { cut = refl; stops = λ n e. cc }))

  module _ {kind : EndKind} (is : half.stage ≡ Stage.Ending kind) {new : HttpHalf} (same : KeepsBesidesBody half new) (limits : new.wire.requests.limits ≡ half.wire.requests.limits) where
    abbrev later : HttpHalf
    later = record half { body = new.body; wire = record half.wire { requests = new.wire.requests } }

    -- events were dropped
    pub dropped : GivesOn half new → (half.input_broke ≡ true → new.body ≡ half.body) → Invariant scene now new read view
    dropped gives input_broke =
        let e = stage_of x is in
        let t : Talks scene half read view = e.0 in
        let g = gives read scene.opened scene.facts.framing view.arrived t.events (opens_in x) t.given t.ends_where in
        let settled : half.input_broke ≡ true → BreaksAt new.body half.wire.input = λ b. subst (λ (y : BodyProgress). BreaksAt y half.wire.input) (sym (input_broke b)) (t.settled b) in
        let talks = talks_on t new.wire.requests half.wire.input new.body read view.arrived view.offered settled g.0 g.1 g.2 in
        rw same (restage x later limits refl (subst (λ (s : Stage). IsAt s scene later read view) (sym is) (talks, e.1)))

    -- there is no memory for the rest
    pub dropped_short : Invariant scene now (record new { stage = Stage.Over (NextStep.ConnectionEnds Outcome.NoMemory) }) read view
    dropped_short = rw same (restage x (record later { stage = Stage.Over (NextStep.ConnectionEnds Outcome.NoMemory) }) limits (ap failures_at is) (inr lacks))

-- ---- the table of ends

-- what the response asks of the body, however the task ended
abbrev Asks : Progress → Bool → Type 0
Asks p b = NeedsBody EndKind.Returned p b

asks : (kind : EndKind) (p : Progress) (b : Bool) → kind ≢ EndKind.Idle → Asks p b → NeedsBody kind p b
asks kind p b n a = grind arith

by_row : (kind : EndKind) (p : Progress) (s : BodyState) (b : Bool) → kind ≢ EndKind.Idle → after_task kind p s b ≡ after_response p s b
by_row kind p s b n = grind arith

by_text : (kind : EndKind) (facts : Facts) (said : List Outgoing) (i : Input) → kind ≢ EndKind.Idle → added_by_end facts said kind i ≡ end_text facts said i
by_text kind facts said i n = grind arith

same_row : (p : Progress) (b : Bool) (s o : BodyState) → (Asks p b → s ≡ o) → after_response p s b ≡ after_response p o b
same_row p b s o h = grind arith

same_added : (facts : Facts) (said : List Outgoing) (kind : EndKind) (p : Progress) (b : Bool) (s o : BodyState) → progress_of facts said ≡ p → (Asks p b → s ≡ o)
    → added_by_end facts said kind (input_of s) ≡ added_by_end facts said kind (input_of o)
same_added facts said kind p b s o is h = grind (arith, nothing_added facts said kind)

-- the next request follows a complete response and a whole body alone
next_is : (p : Progress) (s : BodyState) (b : Bool) → after_response p s b ≡ NextStep.NextRequest → (p ≡ Progress.Complete false) × ((after : List ℕ) × (s ≡ complete after))
next_is p s b e = grind arith

abbrev cuts : NextStep → Bool
cuts NextStep.NextRequest = false
cuts (NextStep.ConnectionEnds o) = is_cut o

uncut : (p : Progress) (s : BodyState) (b : Bool) → (cuts (after_response p s b) ≡ false) × (failures_at (Stage.Over (after_response p s b)) ≡ 0)
uncut p s b = (grind arith, grind arith)

-- if the input counts as broken, the body was asked for, and it is not whole
broke_asks : (p : Progress) (s : BodyState) (b : Bool) → after_response p s b ≡ NextStep.ConnectionEnds Outcome.InputBroke → Asks p b × ((s ≡ partial) ⊎ (is_faulty s ≡ true))
broke_asks p s b e = grind arith

whole_body : (b : BodyProgress) → Input.Whole ≡ known_input b → b ≡ BodyProgress.Whole
whole_body b e = grind arith

broken_body : (b : BodyProgress) (i : InputEnd) → Input.Broken ≡ known_input b → IsSettled b → EndsWhere b i → has_ended i ≡ true
broken_body b i e s w = grind arith

-- ---- the text of the end

module _ {scene : Scene} {was : LineState} {half : HttpHalf} {read : List ℕ} {view : ConnView ℕ ℕ} (x : Invariant scene was half read view) {kind : EndKind}
    (is : half.stage ≡ Stage.Ending kind) where
  t : Talks scene half read view
  t = (stage_of x is).0

  ended : end_of view.got ≡ Some kind
  ended = (stage_of x is).1

  -- what is known of the body, by what the reader gave
  known_as : (b : BodyProgress) → HasGiven half.wire.requests read scene.opened t.events b → (state : BodyState) × (input_of state ≡ known_input b) × (IsSettled b → state_in scene half view ≡ state)
  known_as BodyProgress.Open given = (partial, refl, λ s. absurd s)
  known_as (BodyProgress.Waits event) given = (partial, refl, λ s. absurd s)
  known_as b given =
      let k = (state_by half.wire.requests read scene.opened scene.facts.framing view.arrived (opens_in x) t.events b given tt).1 in
      (k.0, k.1, λ s. subst (λ (l : Limits). body_state l scene.facts.framing view.arrived ≡ k.0) x.limits k.2)

  known_state : (state : BodyState) × (input_of state ≡ known_input half.body) × (IsSettled half.body → state_in scene half view ≡ state)
  known_state = known_as half.body t.given

  module _ {p : Progress} (row_of : (facts : Facts) (said : List Outgoing) → StandsForText half.text facts said → p ≡ progress_of facts said)
      (settles : NeedsBody kind p half.input_broke → IsSettled half.body) {i : Input} (i_is : i ≡ known_input half.body)
      {following : NextStep} (row : (state : BodyState) → input_of state ≡ i → following ≡ after_task kind p state half.input_broke) where
    abbrev real : BodyState
    real = state_in scene half view

    p_is : p ≡ progress_of scene.facts (taken_of view)
    p_is = row_of scene.facts (taken_of view) t.text

    -- a limit of turns ended the task
    pub ends_idle : kind ≡ EndKind.Idle → Invariant scene was (record half { stage = Stage.Over following }) read view
    ends_idle e =
        let f : following ≡ NextStep.ConnectionEnds Outcome.Idle = row known_state.0 (known_state.1 ∙ sym i_is) ∙ ap (λ (k : EndKind). after_task k p known_state.0 half.input_broke) e in
        rw f (idles x (ap failures_at is))

    module _ (n : kind ≢ EndKind.Idle) {text : List ℕ} (adds : text ≡ half.wire.out.items ++ end_text scene.facts (taken_of view) i) where
      same_state : Asks p half.input_broke → known_state.0 ≡ real
      same_state a = sym (known_state.2 (settles (asks kind p half.input_broke n a)))

      known_row : following ≡ after_response p known_state.0 half.input_broke
      known_row = row known_state.0 (known_state.1 ∙ sym i_is) ∙ by_row kind p known_state.0 half.input_broke n

      real_row : following ≡ after_response p real half.input_broke
      real_row = known_row ∙ same_row p half.input_broke known_state.0 real same_state

      follows : after_task kind (progress_of scene.facts (taken_of view)) real (is_by_input view.broken) ≡ following
      follows = rw (by_row kind (progress_of scene.facts (taken_of view)) real (is_by_input view.broken) n, ← p_is, ← t.input_broke, real_row)

      added : text ≡ added_by_end scene.facts (taken_of view) kind (input_of real)
      added = rw (adds, t.empty, i_is, ← known_state.1, ← by_text kind scene.facts (taken_of view) (input_of known_state.0) n)
          (same_added scene.facts (taken_of view) kind p half.input_broke known_state.0 real (sym p_is) same_state)

      joined : view.written ++ text ≡ response_text scene.facts (taken_of view) ++ added_by_end scene.facts (taken_of view) kind (input_of real)
      joined = rw (t.written, added)

      all_out : view.written ++ text ≡ text_of scene.facts (taken_of view) (end_of view.got) (input_of real)
      all_out = rw ended joined

      all_output : view.written ++ text ≡ output (http half.wire.limits scene.facts) view
      all_output = rw ended joined

      broke_by : after_response p real half.input_broke ≡ NextStep.ConnectionEnds Outcome.InputBroke → (has_ended half.wire.input ≡ true) ⊎ (is_faulty real ≡ true)
      broke_by e =
          let k = broke_asks p real half.input_broke e in
          let known : input_of real ≡ known_input half.body = ap input_of (sym (same_state k.0)) ∙ known_state.1 in
          elim k.1 [ inl s ↦ inl (broken_body half.body half.wire.input (ap input_of (sym s) ∙ known) (settles (asks kind p half.input_broke n k.0)) t.ends_where) | inr f ↦ inr f ]

      leaves : (f : NextStep) → following ≡ f → (wire : Wire) → wire.out.items ≡ []
          → Leaves f scene (record half { wire = record half.wire { out = wire.out }; stage = Stage.Over following }) read (record view { written = view.written ++ text })
      leaves NextStep.NextRequest e wire empty =
          let k = next_is p known_state.0 half.input_broke (sym known_row ∙ e) in
          let c = next_is p real half.input_broke (sym real_row ∙ e) in
          let whole : half.body ≡ BodyProgress.Whole = whole_body half.body (ap input_of (sym k.1.1) ∙ known_state.1) in
          let done : progress_of scene.facts (taken_of view) ≡ Progress.Complete false = sym p_is ∙ k.0 in
          let other : view.broken ≢ Some ByCut = λ b. cc (sym t.uncut ∙ ap is_by_cut b) in
          let broke : is_by_input view.broken ≡ true → has_ended half.wire.input ≡ true = λ b. elim (x.breaks b) [ inl h ↦ h | inr f ↦ cc (sym (ap is_faulty c.1.1) ∙ f) ] in
          let none = nothing_added scene.facts (taken_of view) kind (input_of real) (λ m. cc (sym done ∙ m)) in
          let written : view.written ++ text ≡ response_text scene.facts (taken_of view) = rw (added, none, append-nil) t.written in
          let given = subst (λ (b : BodyProgress). HasGiven half.wire.requests read scene.opened t.events b) whole t.given in
          record { kind = kind; over = record { taken = ended; no_limit = n; uncut = other }; complete = done; input_broke = broke; written = written; events = t.events; given = given; empty = empty }
      leaves (NextStep.ConnectionEnds out) e wire empty =
          let whole = ap cuts (sym e ∙ real_row) ∙ (uncut p real half.input_broke).0 in
          let broke = λ (b : out ≡ Outcome.InputBroke). broke_by (sym real_row ∙ e ∙ ap NextStep.ConnectionEnds b) in
          inl (record { kind = kind; taken = ended; uncut = t.uncut; follows = follows ∙ e; out = all_out; whole = whole; input_broke = broke })

      module _ (now : LineState) {wire : Wire} (same : wire ≡ record half.wire { out = wire.out }) where
        -- all of it went out
        pub ends_written : wire.out.items ≡ [] → HasPut was now text 0
            → Invariant scene now (record half { wire = wire; stage = Stage.Over following }) read (record view { written = view.written ++ text })
        ends_written empty put =
            let later : ConnView ℕ ℕ = record view { written = view.written ++ text } in
            let none = ap (λ (f : NextStep). failures_at (Stage.Over f)) real_row ∙ (uncut p real half.input_broke).1 in
            let moved = moved_on scene was now half read view.written text 0 (unfailed x (ap failures_at is)) put in
            let keeps : ConnKeeps (http half.wire.limits scene.facts) later = record { offered = x.keeps.offered; written = ([], append-nil later.written ∙ all_output) } in
            rw same (record { moved = rw none moved; limits = x.limits; within = x.within; keeps = keeps; breaks = x.breaks; stage = leaves following refl wire empty })

        -- its first m bytes did
        pub ends_cut : (m : ℕ) → m < length text → HasPut was now (take m text) 1
            → Invariant scene now (record half { wire = wire; stage = Stage.Over (NextStep.ConnectionEnds (Outcome.WriteFailed m)) }) read (record view { written = view.written ++ take m text })
        ends_cut m less put =
            let later : ConnView ℕ ℕ = record view { written = view.written ++ take m text } in
            let all = append_assoc view.written (take m text) (drop m text) ∙ (ap (λ (l : List ℕ). view.written ++ l) (take-append-drop m text) ∙ all_output) in
            let moved = moved_on scene was now half read view.written (take m text) 1 (unfailed x (ap failures_at is)) put in
            let keeps : ConnKeeps (http half.wire.limits scene.facts) later = record { offered = x.keeps.offered; written = (drop m text, all) } in
            let stops : StopsWithin m (known scene view) (input_of real) later.written =
            record { out = view.written; more = text; is_next = Ending kind ended t.written added; within = less; written_is = refl } in
            rw same (record { moved = moved; limits = x.limits; within = x.within; keeps = keeps; breaks = x.breaks; stage = inr (record { cut = refl; stops = λ k e. rw (← ap failed_at e) stops }) })

-- ---- the connection is cut short

-- a half that is cut short at this point may be cut off
is_off : {scene : Scene} {line : LineState} {half : HttpHalf} {read : List ℕ} (view later : ConnView ℕ ℕ) (out : Outcome) → Invariant scene line half read view
    → ((v : ConnView ℕ ℕ) → IsCutShort scene half v out → v.got ≡ view.got → IsAt half.stage scene half read v) → IsCutShort scene half view out → IsCutOff Incoming.HttpDisconnect view later
    → Invariant scene line half read later
is_off view later out x at short (inl e) = rw e x
is_off {scene = scene} {half = half} view later out x at short (inr (none, e)) =
    let off : ConnView ℕ ℕ = record view { offered = view.offered ++ Incoming.HttpDisconnect ∷ []; broken = Some ByCut } in
    let keeps : ConnKeeps (http half.wire.limits scene.facts) off = record { offered = (view.offered, rw none at x.keeps.offered, refl); written = x.keeps.written } in
    let stage = at off (record { cut = short.cut; stops = λ n e. rw none at (short.stops n e) }) refl in
    rw e (record { moved = x.moved; limits = x.limits; within = x.within; keeps = keeps; breaks = λ b. cc; stage = stage })

module _ {scene : Scene} {now : LineState} {half : HttpHalf} {read : List ℕ} {view : ConnView ℕ ℕ} (x : Invariant scene now half read view) where
  -- any stage is left for the end of the connection
  pub stops_here : (later : ConnView ℕ ℕ) → IsOpen half.stage → IsCutOff Incoming.HttpDisconnect view later
      → Invariant scene now (record half { stage = Stage.Over (NextStep.ConnectionEnds Outcome.Idle) }) read later
  stops_here later goes_on off = is_off view later Outcome.Idle (idles x (grind arith)) (λ v s e. inr s) (record { cut = refl; stops = λ n e. cc }) off

  module _ {out : Outcome} (is : half.stage ≡ Stage.Cut out) where
    u : IsCutShort scene half view out × (end_of view.got ≡ None)
    u = stage_of x is

    short_at : (s : Stage) → IsCutShort scene (record half { stage = s }) view out
    short_at s = record { cut = u.0.cut; stops = u.0.stops }

    pub cut_stops : (later : ConnView ℕ ℕ) → IsCutOff Incoming.HttpDisconnect view later → Invariant scene now (record half { stage = Stage.Over (NextStep.ConnectionEnds out) }) read later
    cut_stops later off =
        let over = Stage.Over (NextStep.ConnectionEnds out) in
        is_off view later out (restage x (record half { stage = over }) refl (ap failures_at is) (inr (short_at over))) (λ v s e. inr s) (short_at over) off

    -- the disconnect is offered, and the end of the task is awaited
    pub cut_waits : (later : ConnView ℕ ℕ) → IsCutOff Incoming.HttpDisconnect view later → Invariant scene now half read later
    cut_waits later off = is_off view later out x (λ v s e. subst (λ (t : Stage). IsAt t scene half read v) (sym is) (s, ap end_of e ∙ u.1)) u.0 off

    -- ---- what is taken is dropped

    stops_on : (n : ℕ) (item : OutItem) (i : Input) → StopsWithin n (known scene view) i view.written → StopsWithin n (known scene (record view { got = view.got ++ item ∷ [] })) i view.written
    stops_on n item i s = rw (events_append view.got (item ∷ []))
        (record { out = s.out; more = s.more; is_next = next_on _ _ _ (known scene view) _ (events_of (item ∷ [])) _ s.out s.more (rw u.1 at s.is_next); within = s.within; written_is = s.written_is })

    took : (item : OutItem) (s : Stage) → failures_of out ≡ failures_at s
        → (IsCutShort scene (record half { stage = s }) (record view { got = view.got ++ item ∷ [] }) out
        → IsAt s scene (record half { stage = s }) read (record view { got = view.got ++ item ∷ [] }))
        → Invariant scene now (record half { stage = s }) read (record view { got = view.got ++ item ∷ [] })
    took item s same at =
        let keeps = takes_on half.wire.limits scene.facts view item u.1 x.keeps in
        let stage = at (record { cut = u.0.cut; stops = λ n e. stops_on n item (input_of (state_in scene half view)) (u.0.stops n e) }) in
        record { moved = rw (ap failures_at is ∙ same) at x.moved; limits = x.limits; within = x.within; keeps = keeps; breaks = x.breaks; stage = stage }

    pub took_event : (event : Outgoing) → Invariant scene now half read (record view { got = view.got ++ OutItem.Event event ∷ [] })
    took_event event =
        let later : ConnView ℕ ℕ = record view { got = view.got ++ OutItem.Event event ∷ [] } in
        took (OutItem.Event event) half.stage (sym (ap failures_at is)) (λ s. subst (λ (t : Stage). IsAt t scene half read later) (sym is) (s, end_event view.got event ∙ u.1))

    pub took_end : (kind : EndKind) → Invariant scene now (record half { stage = Stage.Over (NextStep.ConnectionEnds out) }) read (record view { got = view.got ++ OutItem.Ended kind ∷ [] })
    took_end kind = took (OutItem.Ended kind) (Stage.Over (NextStep.ConnectionEnds out)) refl (λ s. inr s)
