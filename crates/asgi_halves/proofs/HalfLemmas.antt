-- The steps of the connection's half: if the invariant held, it holds again.
use Rattle.asgi_halves.proofs.HalfWords.{◌≡◌, ℕ, false, ◌<◌, List, [], ◌∷◌, ◌++◌, length, take, drop, refl, sym, ap, ◌∙◌, subst, append_assoc, None, Appends, append-nil, take-append-drop, IsPrefix}
use Rattle.asgi_halves.proofs.HalfWords.{RoseBy, TriesWrites, EndKind, Facts, Limits, Outgoing, response_text, OutItem, http, input_of, end_of, ConnView, output, added_by, taken_of, events_append}
use Rattle.asgi_halves.proofs.HalfWords.{end_event, BodyProgress, HttpHalf, Stage, Outcome, Wire, Scene, Invariant, IsAt, failures_at, known, state_in, LineState, Transferred, StopsWithin, StandsFor}
use Rattle.asgi_halves.proofs.HalfWords.{StandsForText, IsCutShort, HasOpened, InputEnd, Incoming, Reading, BreaksAt, HasGiven, EndsWhere, prefix_trans, events_of, Talks, true, ConnKeeps, arith}
use Rattle.asgi_conversation.proofs.SoFarLemmas.{text_front}
use Rattle.asgi_conversation.specs.{ExchangeRecord.Beginning, ExchangeRecord.Saying, Persistence.InHand}
use Rattle.asgi_exchange.proofs.EventLemmas.{end_ended}
use Rattle.asgi_exchange.specs.Views.{empty_conn}
use Rattle.asgi_halves.specs.{Half.Opens, private.HalfSteps.Pending}
use Rattle.asgi_response.specs.{Standing.Grows, declared.text.ResponseText.ResponseText}
use Rattle.asgi_run.proofs.LineLemmas.{moved_by_write}
use Rattle.asgi_run.specs.Lines.{how_wrote}

-- ---- what holds of any step

-- a half of the same connection
abbrev pub among : HttpHalf → HttpHalf → HttpHalf
among half later = record later { wire = record half.wire { requests = later.wire.requests; out = later.wire.out } }

module _ {scene : Scene} {now : LineState} {half : HttpHalf} {read : List ℕ} {view : ConnView ℕ ℕ} (x : Invariant scene now half read view) where
  pub stage_of : {s : Stage} → half.stage ≡ s → IsAt s scene half read view
  stage_of is = subst (λ (s : Stage). IsAt s scene half read view) is x.stage

  pub unfailed : failures_at half.stage ≡ 0 → Transferred scene.start now half.wire.input read (scene.before ++ view.written) 0
  unfailed none = subst (λ (n : ℕ). Transferred scene.start now half.wire.input read (scene.before ++ view.written) n) none x.moved

  -- the reader knows the head of the request
  pub opens_in : HasOpened half.wire.requests.limits read scene.opened scene.facts.framing view.arrived
  opens_in = rw x.limits x.within.opens

  -- another stage, with another body and another text in hand
  pub restage : (later : HttpHalf) → later.wire.requests.limits ≡ half.wire.requests.limits → failures_at half.stage ≡ failures_at later.stage
      → IsAt later.stage scene (among half later) read view → Invariant scene now (among half later) read view
  restage later same failed at = record { moved = rw failed at x.moved; limits = same ∙ x.limits; within = x.within; keeps = x.keeps; breaks = x.breaks; stage = at }

-- want of memory cuts the connection short
pub lacks : {scene : Scene} {half : HttpHalf} {view : ConnView ℕ ℕ} → IsCutShort scene half view Outcome.NoMemory
lacks = record { cut = refl; stops = λ n e. cc }

-- the talk goes on, with another body
abbrev pub talks_on : {scene : Scene} {half : HttpHalf} {read : List ℕ} {view : ConnView ℕ ℕ} → Talks scene half read view
    → (requests : Reading) (input : InputEnd) (body : BodyProgress) (all arrived : List ℕ) (offered : List Incoming) → (half.input_broke ≡ true → BreaksAt body input)
    → (events : List Incoming) → HasGiven requests all scene.opened events body → EndsWhere body input
    → Talks scene (record half { wire = record half.wire { requests = requests; input = input }; body = body }) all (record view { arrived = arrived; offered = offered })
talks_on t requests input body all arrived offered settled events given ends_where =
    record { uncut = t.uncut; input_broke = t.input_broke; settled = settled; events = events; given = given; ends_where = ends_where; text = t.text; written = t.written; empty = t.empty }

-- ---- what is written

-- all text of what was taken is out, and the task has not ended
output_open : (limits : Limits) (facts : Facts) (view : ConnView ℕ ℕ) → end_of view.got ≡ None → output (http limits facts) view ≡ response_text facts (taken_of view)
output_open limits facts view unended = rw (unended, append-nil)

pub all_written : (limits : Limits) (facts : Facts) (view : ConnView ℕ ℕ) → view.written ≡ response_text facts (taken_of view) → IsPrefix view.written (output (http limits facts) view)
all_written limits facts view is = (_, ap (λ (l : List ℕ). l ++ added_by (http limits facts) (taken_of view) (end_of view.got) view.broken_first view.arrived) is)

-- what is out of the text stays a front of it, whatever is taken next
pub takes_on : (limits : Limits) (facts : Facts) (view : ConnView ℕ ℕ) (item : OutItem) → end_of view.got ≡ None → ConnKeeps (http limits facts) view
    → ConnKeeps (http limits facts) (record view { got = view.got ++ item ∷ [] })
takes_on limits facts view item unended keeps =
    let text = response_text facts (taken_of (record view { got = view.got ++ item ∷ [] })) in
    let more = text_front facts (taken_of view) (events_of (view.got ++ item ∷ [])) (events_of (item ∷ []), sym (events_append view.got (item ∷ []))) in
    let on = prefix_trans view.written (response_text facts (taken_of view)) text (keeps.written.0, keeps.written.1 ∙ output_open limits facts view unended) more in
    record { offered = keeps.offered; written = prefix_trans view.written text _ on (_, refl) }

-- a text was written: how much of it, and how many writes failed
pub record HasPut (was now : LineState) (part : List ℕ) (failures : ℕ) : Type 0 where
  pub beside : (now.left ≡ was.left) × (now.reads ≡ was.reads)
  pub session : now.session ≡ was.session
  pub appends : Appends was.written now.written part
  pub rose : RoseBy failures was.failed now.failed
  pub tries : TriesWrites was.writes now.writes (length part) (how_wrote failures (length part))

pub moved_on : (scene : Scene) (was now : LineState) (half : HttpHalf) (read written part : List ℕ) (failures : ℕ) → Transferred scene.start was half.wire.input read (scene.before ++ written) 0
    → HasPut was now part failures → Transferred scene.start now half.wire.input read (scene.before ++ (written ++ part)) failures
moved_on scene was now half read written part failures moved p = rw (← append_assoc scene.before written part)
    (moved_by_write scene.start was now half.wire.input read (scene.before ++ written) part failures moved p.beside.0 p.beside.1 p.session p.appends p.rose p.tries)

abbrev pub failed_at : Outcome → ℕ
failed_at (Outcome.WriteFailed n) = n
failed_at _ = 0

module _ {scene : Scene} {was : LineState} {half : HttpHalf} {read : List ℕ} {view : ConnView ℕ ℕ} (p : Pending scene was half read view) (now : LineState) {wire : Wire}
    (same : wire ≡ record half.wire { out = wire.out }) where
  -- all of the text in hand went out
  pub put_done : wire.out.items ≡ [] → HasPut was now half.wire.out.items 0 → Invariant scene now (record half { wire = wire }) read (record view { written = view.written ++ half.wire.out.items })
  put_done all put =
      let later : ConnView ℕ ℕ = record view { written = view.written ++ half.wire.out.items } in
      let emptied : HttpHalf = record half { wire = record half.wire { out = wire.out } } in
      let talks : Talks scene emptied read later = search (sym p.grows, all, p) in
      let moved = moved_on scene was now half read view.written half.wire.out.items 0 p.moved put in
      let keeps : ConnKeeps (http half.wire.limits scene.facts) later = record { offered = p.offers; written = all_written half.wire.limits scene.facts later (sym p.grows) } in
      let stage = subst (λ (s : Stage). IsAt s scene emptied read later) (sym p.running) (record { talks = talks; unended = p.unended; offered = p.offered }) in
      rw same (record { moved = rw p.running moved; limits = p.limits; within = p.within; keeps = keeps; breaks = p.breaks; stage = stage })

  -- its first n bytes did
  pub put_cut : (n : ℕ) → n < length half.wire.out.items → HasPut was now (take n half.wire.out.items) 1
      → Invariant scene now (record half { wire = wire; stage = Stage.Cut (Outcome.WriteFailed n) }) read (record view { written = view.written ++ take n half.wire.out.items })
  put_cut n less put =
      let text = half.wire.out.items in
      let later : ConnView ℕ ℕ = record view { written = view.written ++ take n text } in
      let all : later.written ++ drop n text ≡ response_text scene.facts (taken_of later) = rw (append_assoc, take-append-drop n text) (sym p.grows) in
      let stops : StopsWithin n (known scene view) (input_of (state_in scene half view)) later.written =
      record { out = view.written; more = text; is_next = p.hand (input_of (state_in scene half view)); within = less; written_is = refl } in
      let moved = moved_on scene was now half read view.written (take n text) 1 p.moved put in
      let written = all ∙ sym (output_open half.wire.limits scene.facts later p.unended) in
      let keeps : ConnKeeps (http half.wire.limits scene.facts) later = record { offered = p.offers; written = (drop n text, written) } in
      rw same (record { moved = moved; limits = p.limits; within = p.within; keeps = keeps; breaks = p.breaks; stage = (record { cut = refl; stops = λ m e. rw (← ap failed_at e) stops }, p.unended) })

-- ---- an event is sent

module _ {scene : Scene} {now : LineState} {half : HttpHalf} {read : List ℕ} {view : ConnView ℕ ℕ} (x : Invariant scene now half read view) (is : half.stage ≡ Stage.Running) (event : Outgoing)
    (text : ResponseText) (wire : Wire) where
  more_taken : taken_of (record view { got = view.got ++ OutItem.Event event ∷ [] }) ≡ taken_of view ++ event ∷ []
  more_taken = events_append view.got (OutItem.Event event ∷ [])

  still_open : end_of (view.got ++ OutItem.Event event ∷ []) ≡ None
  still_open = end_event view.got event ∙ (stage_of x is).unended

  -- its text is in hand
  pub said_pending : StandsForText text scene.facts (taken_of view ++ event ∷ [])
      → Grows (response_text scene.facts (taken_of view)) (response_text scene.facts (taken_of view ++ event ∷ [])) half.wire.out.items wire.out.items
      → Pending scene now (record half { wire = record half.wire { out = wire.out }; text = text }) read (record view { got = view.got ++ OutItem.Event event ∷ [] })
  said_pending stands grows =
      let r = stage_of x is in
      let t = r.talks in
      let adds : response_text scene.facts (taken_of view ++ event ∷ []) ≡ view.written ++ wire.out.items = rw (t.written, grows.output, t.empty) grows.text in
      let later : ConnView ℕ ℕ = record view { got = view.got ++ OutItem.Event event ∷ [] } in
      let text_is : StandsForText text scene.facts (taken_of later) = rw more_taken stands in
      let hand : (input : _) → InHand (known scene later) input view.written wire.out.items = λ input. Saying (taken_of view) [] event more_taken t.written adds in
      search (unfailed x (ap failures_at is), text_is, hand, still_open, ap (response_text scene.facts) more_taken ∙ adds, t, r, x)

  -- there is no memory for its text
  pub said_short : Invariant scene now (record half { wire = record half.wire { out = wire.out }; text = text; stage = Stage.Cut Outcome.NoMemory }) read
      (record view { got = view.got ++ OutItem.Event event ∷ [] })
  said_short =
      let keeps = takes_on half.wire.limits scene.facts view (OutItem.Event event) (stage_of x is).unended x.keeps in
      record { moved = unfailed x (ap failures_at is); limits = x.limits; within = x.within; keeps = keeps; breaks = x.breaks; stage = (lacks, still_open) }

-- ---- an exchange begins

module _ {scene : Scene} {now : LineState} {facts : Facts} {read arrived : List ℕ} {old : Wire} (o : Opens scene now old facts read arrived) (wire : Wire) (text : ResponseText) where
  begun_moved : Transferred scene.start now old.input read (scene.before ++ []) 0
  begun_moved = rw append-nil o.moved

  pub begun_pending : StandsForText text facts [] → wire.out.items ≡ old.out.items ++ response_text facts []
      → Pending scene now (record { wire = record old { out = wire.out }; body = BodyProgress.Open; text = text; input_broke = false; stage = Stage.Running }) read
      (record empty_conn { arrived = arrived })
  begun_pending stands adds =
      let in_hand : wire.out.items ≡ response_text scene.facts [] = rw (← o.facts_are) (rw o.empty at adds) in
      let given : StandsFor old.requests read (scene.opened ++ []) = rw append-nil o.given in
      let text_is : StandsForText text scene.facts [] = rw o.facts_are at stands in
      let hand : (input : _) → InHand (known scene (record empty_conn { arrived = arrived })) input [] wire.out.items = λ input. Beginning refl in_hand in
      search (begun_moved, o, given, text_is, sym in_hand, hand, arith)

  pub begun_short : Invariant scene now (record { wire = record old { out = wire.out }; body = BodyProgress.Open; text = text; input_broke = false; stage = Stage.Cut Outcome.NoMemory }) read
      (record empty_conn { arrived = arrived })
  begun_short =
      record { moved = begun_moved; limits = o.limits; within = o.within; keeps = record { offered = (_, refl); written = (_, refl) }; breaks = λ e. cc; stage = (lacks, refl) }

-- ---- the end of the task is taken

pub ended_taken : {scene : Scene} {now : LineState} {half : HttpHalf} {read : List ℕ} {view : ConnView ℕ ℕ} (kind : EndKind) → Invariant scene now half read view → half.stage ≡ Stage.Running
    → Invariant scene now (record half { stage = Stage.Ending kind }) read (record view { got = view.got ++ OutItem.Ended kind ∷ [] })
ended_taken {scene} {half = half} {read = read} {view = view} kind x is =
    let r = stage_of x is in
    let t = r.talks in
    let later : ConnView ℕ ℕ = record view { got = view.got ++ OutItem.Ended kind ∷ [] } in
    let same : taken_of later ≡ taken_of view = events_append view.got (OutItem.Ended kind ∷ []) ∙ append-nil (taken_of view) in
    let out : view.written ≡ response_text scene.facts (taken_of later) = t.written ∙ ap (response_text scene.facts) (sym same) in
    let text : StandsForText half.text scene.facts (taken_of later) = rw same t.text in
    let talks : Talks scene (record half { stage = Stage.Ending kind }) read later = search t in
    let keeps : ConnKeeps (http half.wire.limits scene.facts) later = record { offered = x.keeps.offered; written = all_written half.wire.limits scene.facts later out } in
    record { moved = unfailed x (ap failures_at is); limits = x.limits; within = x.within; keeps = keeps; breaks = x.breaks; stage = (talks, end_ended view.got kind r.unended) }
