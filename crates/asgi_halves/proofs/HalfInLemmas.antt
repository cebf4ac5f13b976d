-- The steps of the connection's half on its input: it reads, and offers what is due.
use Rattle.asgi_halves.proofs.HalfWords.{◌≡◌, ℕ, true, false, List, [], ◌∷◌, ◌++◌, refl, sym, ap, ◌∙◌, subst, Some, None, ◌⊎◌, ◌≤◌, length, IsPrefix, Incoming, Limits, Next, body_events, body_state}
use Rattle.asgi_halves.proofs.HalfWords.{Reading, StandsFor, http, ByInput, ConnView, prefix_trans, BodyProgress, HttpHalf, Stage, Outcome, Wire, Scene, Invariant, requests_in, IsRunning, HasGiven}
use Rattle.asgi_halves.proofs.HalfWords.{BreaksAt, KeepsBesidesBody, GivesAfter, HasAsked, HoldsFew, ReadsAt, LineState, Transferred, piece_size, has_ended, is_faulty, IsAt, NextStep, end_of}
use Rattle.asgi_halves.proofs.HalfWords.{failures_at, EndKind, inr, Talks, ConnKeeps, arith}
use Rattle.asgi_exchange.proofs.HttpLemmas.{http_is_steady}
use Rattle.asgi_halves.proofs.{HalfBodyLemmas.unbroken, HalfBodyLemmas.first_due, HalfBodyLemmas.all_due, HalfBodyLemmas.why_broken, HalfLemmas.stage_of, HalfLemmas.unfailed}
use Rattle.asgi_halves.proofs.{ReadAheadLemmas.reads_in, ReadAheadLemmas.within_reads, HalfLemmas.restage, HalfLemmas.lacks, HalfLemmas.talks_on, HalfLemmas.opens_in, HalfLemmas.all_written}

module _ {scene : Scene} {now : LineState} {half : HttpHalf} {read : List ℕ} {view : ConnView ℕ ℕ} (x : Invariant scene now half read view) (is : half.stage ≡ Stage.Running) where
  r : IsRunning scene half read view
  r = stage_of x is

  -- the reader gave more, or needs more
  pub pulled : {later : HttpHalf} → half.input_broke ≡ false → KeepsBesidesBody half later → later.wire.requests.limits ≡ half.wire.requests.limits → GivesAfter half later
      → Invariant scene now later read view
  pulled {later} unbroke same limits gives =
      let t = r.talks in
      let on = gives read scene.opened scene.facts.framing view.arrived t.events (opens_in x) t.given t.ends_where in
      let new : HttpHalf = record half { body = later.body; wire = record half.wire { requests = later.wire.requests } } in
      let talks = talks_on t later.wire.requests half.wire.input later.body read view.arrived view.offered (λ e. cc (unbroke, e)) t.events on.0 on.1 in
      rw same (restage x new limits refl (subst (λ (s : Stage). IsAt s scene new read view) (sym is) (record { talks = talks; unended = r.unended; offered = r.offered })))

  pub none_broke : half.input_broke ≡ false → view.broken ≡ None
  none_broke unbroke = unbroken view.broken r.talks.uncut (sym r.talks.input_broke ∙ unbroke)

  -- the event that waits is offered
  pub offered_on : (event : Incoming) → half.input_broke ≡ false → half.body ≡ BodyProgress.Waits event
      → Invariant scene now (record half { body = BodyProgress.Open }) read (record view { offered = view.offered ++ event ∷ [] })
  offered_on event unbroke waits =
      let t = r.talks in
      let later : ConnView ℕ ℕ = record view { offered = view.offered ++ event ∷ [] } in
      let given = subst (λ (b : BodyProgress). HasGiven half.wire.requests read scene.opened t.events b) waits t.given in
      let all : later.offered ≡ t.events ++ event ∷ [] = ap (λ (l : List Incoming). l ++ event ∷ []) (r.offered unbroke) in
      let due = first_due half.wire.requests read scene.opened scene.facts.framing view.arrived (opens_in x) (t.events ++ event ∷ []) given in
      let front = subst (λ (l : Limits). IsPrefix (t.events ++ event ∷ []) (body_events l scene.facts.framing view.arrived)) x.limits due in
      let talks = talks_on t half.wire.requests half.wire.input BodyProgress.Open read view.arrived later.offered (λ e. cc (unbroke, e)) (t.events ++ event ∷ []) given tt in
      let stage = subst (λ (s : Stage). IsAt s scene (record half { body = BodyProgress.Open }) read later) (sym is) (record { talks = talks; unended = r.unended; offered = λ e. all }) in
      let keeps : ConnKeeps (http half.wire.limits scene.facts) later = record { offered = rw (none_broke unbroke, all) front; written = x.keeps.written } in
      record { moved = x.moved; limits = x.limits; within = x.within; keeps = keeps; breaks = x.breaks; stage = stage }

  -- the disconnect is offered
  pub broken_off : half.input_broke ≡ false → BreaksAt half.body half.wire.input
      → Invariant scene now (record half { input_broke = true }) read (record view { offered = view.offered ++ Incoming.HttpDisconnect ∷ []; broken = Some ByInput })
  broken_off unbroke breaks =
      let t = r.talks in
      let later : ConnView ℕ ℕ = record view { offered = view.offered ++ Incoming.HttpDisconnect ∷ []; broken = Some ByInput } in
      let all = all_due half.wire.requests read scene.opened scene.facts.framing view.arrived (opens_in x) t.events half.body half.wire.input t.given breaks in
      let due = subst (λ (l : Limits). t.events ≡ body_events l scene.facts.framing view.arrived) x.limits all in
      let why = why_broken half.wire.requests read scene.opened scene.facts.framing view.arrived (opens_in x) t.events half.body half.wire.input t.given breaks in
      let talks : Talks scene (record half { input_broke = true }) read later = search t in
      let keeps : ConnKeeps (http half.wire.limits scene.facts) later =
      record { offered = ap (λ (l : List Incoming). l ++ Incoming.HttpDisconnect ∷ []) (r.offered unbroke ∙ due); written = x.keeps.written } in
      let broke = subst (λ (l : Limits). (has_ended half.wire.input ≡ true) ⊎ (is_faulty (body_state l scene.facts.framing view.arrived) ≡ true)) x.limits why in
      let stage = subst (λ (s : Stage). IsAt s scene (record half { input_broke = true }) read later) (sym is) (record { talks = talks; unended = r.unended; offered = λ e. cc }) in
      record { moved = x.moved; limits = x.limits; within = x.within; keeps = keeps; breaks = λ e. broke; stage = stage }

-- ---- a read

given_fed : (old new : Reading) (read more : List ℕ) (opened : List Next) (events : List Incoming) (body : BodyProgress) → ReadsAt body
    → ((bytes : List ℕ) (given : List Next) → StandsFor old bytes given → StandsFor new (bytes ++ more) given)
    → HasGiven old read opened events body → HasGiven new (read ++ more) opened events body
given_fed old new read more opened events body reads fed given = grind (arith, fed read)

-- before or after the end of the task
module _ {scene : Scene} {was now : LineState} {half : HttpHalf} {read : List ℕ} {view : ConnView ℕ ℕ} (x : Invariant scene was half read view) (t : Talks scene half read view)
    (failed : failures_at half.stage ≡ 0) (still : has_ended half.wire.input ≡ false) (reads : ReadsAt half.body) (asked : HasAsked half)
    (few : half.body ≡ BodyProgress.Whole → HoldsFew half.wire.requests)
    (more : List ℕ) (short : length more ≤ piece_size) {wire : Wire} (same : wire ≡ record half.wire { requests = wire.requests; input = wire.input })
    (limits : wire.requests.limits ≡ half.wire.requests.limits)
    (moved : Transferred scene.start was half.wire.input read (scene.before ++ view.written) 0 → Transferred scene.start now wire.input (read ++ more) (scene.before ++ view.written) 0) where
  abbrev reading : HttpHalf
  reading = record half { wire = record half.wire { requests = wire.requests; input = wire.input } }

  abbrev longer : ConnView ℕ ℕ
  longer = record view { arrived = view.arrived ++ more }

  unbroke : half.input_broke ≡ false
  unbroke = grind (arith, reads, still, t.settled)

  arrives : (s : Stage) → failures_at s ≡ 0 → IsAt s scene (record reading { stage = s }) (read ++ more) longer → Invariant scene now (record half { wire = wire; stage = s }) (read ++ more) longer
  arrives s none at =
      let never = unbroken view.broken t.uncut (sym t.input_broke ∙ unbroke) in
      let ahead = reads_in half.wire.requests read more scene.opened scene.facts.framing view.arrived (opens_in x) t.events (requests_in scene) x.within.heads short half.body reads t.given
      (asked unbroke) few in
      let seen = within_reads scene half.wire.limits half.wire.input wire.input read more view.arrived x.within (λ e. cc (still, e)) (rw x.limits at ahead) in
      let due = prefix_trans view.offered _ _ (rw never at x.keeps.offered) ((http_is_steady half.wire.limits scene.facts).due_grows view.arrived more) in
      let keeps : ConnKeeps (http half.wire.limits scene.facts) longer = record { offered = rw never due; written = all_written half.wire.limits scene.facts longer t.written } in
      rw same (record { moved = rw none (moved (unfailed x failed)); limits = limits ∙ x.limits; within = seen; keeps = keeps; breaks = λ e. cc (unbroke, t.input_broke, e); stage = at })

  module _ (fed : (bytes : List ℕ) (given : List Next) → StandsFor half.wire.requests bytes given → StandsFor wire.requests (bytes ++ more) given) where
    abbrev talks_more : Talks scene reading (read ++ more) longer
    talks_more =
        talks_on t wire.requests wire.input half.body (read ++ more) (view.arrived ++ more) view.offered (λ e. cc (unbroke, e)) t.events
        (given_fed half.wire.requests wire.requests read more scene.opened t.events half.body reads fed t.given) (grind (arith, reads))

    pub read_more : half.stage ≡ Stage.Running → end_of view.got ≡ None → (half.input_broke ≡ false → view.offered ≡ t.events)
        → Invariant scene now (record half { wire = wire }) (read ++ more) longer
    read_more is unended offered =
        arrives half.stage failed (subst (λ (s : Stage). IsAt s scene reading (read ++ more) longer) (sym is) (record { talks = talks_more; unended = unended; offered = offered }))

    pub rest_read : {kind : EndKind} → half.stage ≡ Stage.Ending kind → end_of view.got ≡ Some kind → Invariant scene now (record half { wire = wire }) (read ++ more) longer
    rest_read is ended = arrives half.stage failed (subst (λ (s : Stage). IsAt s scene reading (read ++ more) longer) (sym is) (talks_more, ended))

  -- there is no memory for it
  pub read_short : end_of view.got ≡ None → Invariant scene now (record half { wire = wire; stage = Stage.Cut Outcome.NoMemory }) (read ++ more) longer
  read_short unended = arrives (Stage.Cut Outcome.NoMemory) refl (lacks, unended)

  pub rest_short : Invariant scene now (record half { wire = wire; stage = Stage.Over (NextStep.ConnectionEnds Outcome.NoMemory) }) (read ++ more) longer
  rest_short = arrives (Stage.Over (NextStep.ConnectionEnds Outcome.NoMemory)) refl (inr lacks)
