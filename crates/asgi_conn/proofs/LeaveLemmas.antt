-- Where an exchange leaves its connection: between two requests, or at its end.
use Rattle.asgi_conn.proofs.ConnWords.{Reaches, Stage, None, Option, next_step_of, place_at, ◌≡◌, ℕ, List, [], ◌∷◌, ◌++◌, ◌⊎◌, inl, inr, map, sym, ap, ◌∙◌, append_assoc, subst, Some, refl, Limits}
use Rattle.asgi_conn.proofs.ConnWords.{Outgoing, Next, IsHttpExchange, World, NextRequest, ConnectionEnds, Outcome, Report, requests_of, ExchangeRecord, Beginning, Saying, Ending, CountsExchanges}
use Rattle.asgi_conn.proofs.ConnWords.{Converses, exchanged, Between, InputEnd, requests_join, HttpHalf, Over, Scene, ReadsAhead, failures_of, LineState, Transferred, BetweenRequests, EndsSo}
use Rattle.asgi_conn.proofs.ConnWords.{IsAtRest}
use Rattle.asgi_halves.specs.Half.{Invariant, IsAt, KeepsOn, EndsByTask, IsCutShort, known, requests_in, state_in}
use Rattle.asgi_request.specs.{BodyOf.body_events, ChunkedBody.BodyState}
use Rattle.asgi_request.proofs.BodyOfLemmas.{body_is_read}
use Rattle.asgi_response.specs.declared.refusal.Input.{Input}
use Rattle.asgi_exchange.specs.{ExchangeTexts.input_of, Steps.is_by_cut}
use Rattle.asgi_conversation.specs.{Exchanges.IsFollowed, Persistence.InHand, SoFar.TaskIsOver, Sessions.no_traffic}
use Rattle.asgi_conversation.proofs.LoopLemmas.{keeps_on}
use Rattle.asgi_conversation.proofs.SoFarLemmas.{taken_whole, end_put, ends_by_task, ends_cut}
use Rattle.asgi_halves.proofs.ReadAheadLemmas.{heads_after, within_of}
use Rattle.asgi_conversation.proofs.ConversationLemmas.{over_http}
use Rattle.asgi_halves.proofs.TalkLemmas.{talk_silent}
use Rattle.asgi_request.specs.declared.next.Next.TheVariants as next

-- ---- no message passed over the line

pub http_ends : {limits : Limits} {start now : LineState} {end : InputEnd} {read : List ℕ} {exchanges : List ExchangeRecord} {written : List ℕ} (outcome : Outcome)
    → Transferred start now end read written (failures_of outcome)
    → ((report : Report) → report.outcome ≡ outcome → CountsExchanges report exchanges → Converses limits end read exchanges written report)
    → ReadsAhead limits read (requests_of exchanges) → EndsSo limits start now read exchanges written outcome
http_ends {limits} {start} {now} {end} {read} {exchanges} {written} outcome moved converses ahead =
    let carried = talk_silent start now end read written (failures_of outcome) moved in
    record { end = end; traffic = no_traffic; carried = carried; converses = λ report o c. over_http limits end read exchanges no_traffic written report (converses report o c) refl; ahead = ahead }

-- ---- the next request follows

module _ {limits : Limits} {scene : Scene} {now : LineState} {half : HttpHalf} {read : List ℕ} (w : World ℕ ℕ) (s : Invariant scene now half read w.conn)
    (i : IsHttpExchange half.wire.limits scene.facts w) (lim : half.wire.limits ≡ limits) where
  abbrev pub exchanges_then : List ExchangeRecord
  exchanges_then = scene.exchanges ++ exchanged scene.scope scene.facts w ∷ []

  abbrev pub out : List ℕ
  out = scene.before ++ w.conn.written

  all_requests : requests_of exchanges_then ≡ requests_in scene
  all_requests = requests_join scene.exchanges (exchanged scene.scope scene.facts w ∷ [])

  all_ahead : ReadsAhead limits read (requests_of exchanges_then)
  all_ahead = rw all_requests (rw lim at s.within.ahead)

  left_resting : half.stage ≡ Over NextRequest → (given : List Next) × (after : List ℕ) × BetweenRequests limits scene.start now half.wire read given exchanges_then after out
  left_resting e =
      let k : KeepsOn scene half read w.conn = subst (λ (st : Stage). IsAt st scene half read w.conn) e s.stage in
      let given = scene.opened ++ (map next.Event k.events ++ next.Whole ∷ []) in
      let over : TaskIsOver w k.kind = record { taken = k.over.taken; no_limit = k.over.no_limit; uncut = k.over.uncut } in
      let r = half.wire.requests in
      let reaches = subst (λ (l : Limits). Reaches l read given r.place r.held) s.limits k.given in
      let on = keeps_on half.wire.limits half.wire.input read scene.opened scene.exchanges scene.before scene.scope scene.facts w k.kind k.events r.place r.held
      (within_of scene half.wire.limits half.wire.input read w.conn.arrived s.within) i over k.complete k.input_broke k.written reaches in
      let between = subst (λ (l : Limits). Between l half.wire.input read given exchanges_then on.0 out) lim on.1 in
      let heads = heads_after scene.opened k.events ∙ s.within.heads ∙ sym all_requests in
      let rests : BetweenRequests limits scene.start now half.wire read given exchanges_then on.0 out =
      record { moved = rw e at s.moved; limits_are = (lim, s.limits ∙ lim); between = between; stands = k.given; empty = k.empty; heads = heads; ahead = all_ahead } in (given, on.0, rests)

  -- ---- the connection ends

  abbrev pub state : BodyState
  state = state_in scene half w.conn

  by_task : (report : Report) → CountsExchanges report exchanges_then → EndsByTask scene half w.conn report.outcome → Converses half.wire.limits half.wire.input read exchanges_then out report
  by_task report c t =
      let all = taken_whole half.wire.limits scene.facts w t.kind i t.taken in
      let followed : IsFollowed (exchanged scene.scope scene.facts w) state (ConnectionEnds report.outcome) = (t.kind, end_put half.wire.limits scene.facts w t.kind i t.taken, rw all at t.follows) in
      ends_by_task half.wire.limits half.wire.input read scene.exchanges scene.before scene.scope scene.facts w t.kind (body_events half.wire.limits scene.facts.framing w.conn.arrived) state report
      s.within.one i t.taken (body_is_read half.wire.limits scene.facts.framing w.conn.arrived) s.breaks (λ b. sym t.uncut ∙ ap is_by_cut b)
      followed t.out t.whole t.input_broke c

  -- the text in hand is one of the exchange, whatever else the task sent
  hand : (input : Input) (written text : List ℕ) → InHand (known scene w.conn) input written text → InHand (exchanged scene.scope scene.facts w) input written text
  hand input written text (Beginning none is) = Beginning none is
  hand input written text (Saying before after event said is grows) =
      let p = i.taken in Saying before (after ++ p.0) event (sym p.1 ∙ ap (λ (l : List Outgoing). l ++ p.0) said ∙ append_assoc before (event ∷ after) p.0) is grows
  hand input written text (Ending kind ended is adds) =
      let all = taken_whole half.wire.limits scene.facts w kind i ended in Ending kind (end_put half.wire.limits scene.facts w kind i ended) (rw all at is) (rw all at adds)

  by_cut : (report : Report) → CountsExchanges report exchanges_then → IsCutShort scene half w.conn report.outcome → Converses half.wire.limits half.wire.input read exchanges_then out report
  by_cut report c t =
      ends_cut half.wire.limits half.wire.input read scene.exchanges scene.before scene.scope scene.facts w (body_events half.wire.limits scene.facts.framing w.conn.arrived) state report
      s.within.one i (body_is_read half.wire.limits scene.facts.framing w.conn.arrived) s.breaks t.cut (λ n e. let x = t.stops n e in
      record { out = x.out; more = x.more; is_next = hand (input_of state) x.out x.more x.is_next; within = x.within; written_is = x.written_is }) c

  left_ended : (outcome : Outcome) → half.stage ≡ Over (ConnectionEnds outcome) → EndsSo limits scene.start now read exchanges_then out outcome
  left_ended outcome e =
      http_ends outcome (rw e at s.moved) (λ report o c.
      let ends : EndsByTask scene half w.conn report.outcome ⊎ IsCutShort scene half w.conn report.outcome = rw o (subst (λ (st : Stage). IsAt st scene half read w.conn) e s.stage) in
      rw (← lim) (elim ends [ inl t ↦ by_task report c t | inr t ↦ by_cut report c t ])) all_ahead

  -- between two requests, or at the end
  pub left_at : (X : Type 0) (ended : Option Outcome) → half.stage ≡ Over (next_step_of ended) → IsAtRest {X = X} (place_at None None ended half) limits scene.start now read exchanges_then out
  left_at X None e = left_resting e
  left_at X (Some outcome) e = left_ended outcome e
