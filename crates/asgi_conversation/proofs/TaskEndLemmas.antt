-- The end of a task makes a conversation, by how far the response was and what the reader gave.
use Rattle.std.proofs.Common.{◌≡◌, ℕ, Bool, true, false, List, [], ◌∷◌, ◌++◌, ◌⊎◌, inl, inr, map, refl, sym, ap, ◌∙◌, append-nil, subst}
use Rattle.std.specs.Prelude.{◌<◌, length, take}
use mathlib.Core.List.{IsPrefix}
use Rattle.asgi_types.specs.declared.end_kind.EndKind.{EndKind}
use Rattle.asgi_types.specs.declared.facts.Facts.{Facts}
use Rattle.asgi_types.specs.declared.incoming.Incoming.{Incoming}
use Rattle.asgi_types.specs.declared.limits.Limits.{Limits}
use Rattle.asgi_types.specs.declared.outgoing.Outgoing.{Outgoing}
use Rattle.asgi_types.specs.declared.scope.Scope.{Scope}
use Rattle.asgi_request.specs.BodyOf.{body_events, body_state}
use Rattle.asgi_request.specs.ChunkedBody.{BodyState, partial, complete, faulty}
use Rattle.asgi_request.specs.Refusals.{status_of}
use Rattle.asgi_request.specs.RequestEvents.{ReadsBody}
use Rattle.asgi_request.specs.Results.{GivesResults}
use Rattle.asgi_request.specs.declared.next.Next.{Next}
use Rattle.asgi_request.specs.declared.next.Next.TheVariants.{Event, Whole, Bad}
use Rattle.asgi_request.specs.declared.place.Place.{Place}
use Rattle.asgi_request.specs.declared.refusal.Refusal.{Refusal}
use Rattle.asgi_request.specs.Places.{Reaches}
use Rattle.asgi_request.proofs.BodyOfLemmas.{body_is_read}
use Rattle.asgi_request.proofs.DueLemmas.{whole_is_complete, bad_is_faulty, need_is_partial}
use Rattle.asgi_request.proofs.OpenedLemmas.{opened_at, opened_plain}
use Rattle.asgi_response.specs.Exchange.{refusal_text, replacement_text}
use Rattle.asgi_response.specs.Progress.{progress_of}
use Rattle.asgi_response.specs.Response.{response_text}
use Rattle.asgi_response.specs.declared.progress.Progress.{Progress}
use Rattle.asgi_response.specs.declared.progress.Progress.TheVariants.{Nothing, Begun, Complete}
use Rattle.asgi_response.proofs.EndLemmas.{unbegun_are_replaced}
use Rattle.asgi_exchange.specs.ExchangeTexts.{input_of}
use Rattle.asgi_exchange.specs.HttpExchange.{IsHttpExchange}
use Rattle.asgi_exchange.specs.Steps.{is_by_input}
use Rattle.asgi_exchange.specs.Views.{World, said_of, taken_of}
use Rattle.asgi_conversation.specs.declared.report.Outcome.{Outcome}
use Rattle.asgi_conversation.specs.declared.report.Outcome.TheVariants.{Finished, Refused, InputBroke, WriteFailed, Idle, NoMemory}
use Rattle.asgi_conversation.specs.declared.report.Report.{Report}
use Rattle.asgi_conversation.specs.declared.following.NextStep.TheVariants.{ConnectionEnds}
use Rattle.asgi_conversation.specs.declared.input.InputEnd.{InputEnd}
use Rattle.asgi_conversation.specs.OutcomeClasses.{is_cut, cuts_exchange}
use Rattle.asgi_conversation.specs.TaskEnds.{has_ended, is_faulty, after_response, incomplete}
use Rattle.asgi_conversation.specs.ExchangeRecord.{ExchangeRecord}
use Rattle.asgi_conversation.specs.Persistence.{StopsWithin, CountsExchanges}
use Rattle.asgi_conversation.specs.ExchangeRecord.{Beginning, Saying, Ending}
use Rattle.asgi_conversation.specs.Kinds.{Converses}
use Rattle.asgi_conversation.specs.SoFar.{exchanged, Within, TaskIsOver, HasBroken, HasBrokenIn, IsOut}
use Rattle.asgi_conversation.proofs.SoFarLemmas.{ends_by_task, ends_cut, taken_whole, end_put}
use Rattle.asgi_conversation.proofs.TakenLemmas.{follows, begun_is_out, replaced_is_out}

module _ (limits : Limits) (end : InputEnd) (read : List ℕ) (opened : List Next) (exchanges : List ExchangeRecord) (written : List ℕ) (scope : Scope) (facts : Facts) (w : World ℕ ℕ) (report : Report)
    (x : Within limits end read opened exchanges written scope facts w.conn.arrived) (i : IsHttpExchange limits facts w)
    (c : CountsExchanges report (exchanges ++ exchanged scope facts w ∷ [])) where
  -- ---- by the table

  ends_as : (k : EndKind) (known : BodyState) (progress : Progress) (outcome : Outcome) → TaskIsOver w k → body_state limits facts.framing w.conn.arrived ≡ known → HasBroken end w known
      → progress_of facts (taken_of w.conn) ≡ progress → after_response progress known (is_by_input w.conn.broken) ≡ ConnectionEnds outcome → IsOut facts w known
      → report.outcome ≡ outcome → is_cut outcome ≡ false → (outcome ≡ InputBroke → (has_ended end ≡ true) ⊎ (is_faulty known ≡ true))
      → Converses limits end read (exchanges ++ exchanged scope facts w ∷ []) (written ++ w.conn.written) report
  ends_as k known progress outcome t same input_broke p row out o uncut why =
      let S : BodyState → Type 0 = λ s. ReadsBody limits facts.framing w.conn.arrived (body_events limits facts.framing w.conn.arrived) s in
      ends_by_task limits end read exchanges written scope facts w k (body_events limits facts.framing w.conn.arrived) known report x.one i t.taken
      (subst S same (body_is_read limits facts.framing w.conn.arrived)) input_broke (λ b. absurd (t.uncut b))
      (follows limits scope facts w k known t progress (ConnectionEnds report.outcome) i p (row ∙ ap ConnectionEnds (sym o))) out
      (ap is_cut o ∙ uncut) (λ q. why (sym o ∙ q)) c

  intact : (s : BodyState) → incomplete s false ≡ Finished
  intact (complete after) = refl
  intact (faulty why) = refl
  intact partial = refl

  -- a complete response that closes, whatever the body is
  pub closes : (k : EndKind) → TaskIsOver w k → HasBrokenIn limits end facts w → progress_of facts (taken_of w.conn) ≡ Complete true
      → w.conn.written ≡ response_text facts (taken_of w.conn) → report.outcome ≡ Finished
      → Converses limits end read (exchanges ++ exchanged scope facts w ∷ []) (written ++ w.conn.written) report
  closes k t input_broke p out o =
      let s = body_state limits facts.framing w.conn.arrived in
      ends_as k s (Complete true) Finished t refl input_broke p refl (begun_is_out limits scope facts w k s t (λ n. cc (sym p ∙ n)) out) o refl (λ e. cc)

  -- a response that has begun, if the input did not break before
  pub leaves_off : (k : EndKind) → TaskIsOver w k → is_by_input w.conn.broken ≡ false → progress_of facts (taken_of w.conn) ≡ Begun
      → w.conn.written ≡ response_text facts (taken_of w.conn) → report.outcome ≡ Finished
      → Converses limits end read (exchanges ++ exchanged scope facts w ∷ []) (written ++ w.conn.written) report
  leaves_off k t input_broke p out o =
      let s = body_state limits facts.framing w.conn.arrived in
      ends_as k s Begun Finished t refl (λ b. cc (sym input_broke ∙ b)) p (ap (λ (b : Bool). ConnectionEnds (incomplete s b)) input_broke ∙ ap ConnectionEnds (intact s))
      (begun_is_out limits scope facts w k s t (λ n. cc (sym p ∙ n)) out) o refl (λ e. cc)

  module _ (k : EndKind) (t : TaskIsOver w k) (events : List Incoming) (place : Place) (held : List ℕ) where
    -- ---- the request is whole

    known_whole : Reaches limits read (opened ++ (map Event events ++ Whole ∷ [])) place held → (after : List ℕ) × (body_state limits facts.framing w.conn.arrived ≡ complete after)
    known_whole r =
        (whole_is_complete limits read opened facts.framing w.conn.arrived (body_events limits facts.framing w.conn.arrived) (body_state limits facts.framing w.conn.arrived) place held
        (opened_at limits read opened facts.framing w.conn.arrived x.opens) (opened_plain limits read opened facts.framing w.conn.arrived x.opens) (body_is_read limits facts.framing w.conn.arrived) events r).1

    pub leaves_off_after : Reaches limits read (opened ++ (map Event events ++ Whole ∷ [])) place held → (is_by_input w.conn.broken ≡ true → has_ended end ≡ true)
        → progress_of facts (taken_of w.conn) ≡ Begun → w.conn.written ≡ response_text facts (taken_of w.conn) → report.outcome ≡ Finished
        → Converses limits end read (exchanges ++ exchanged scope facts w ∷ []) (written ++ w.conn.written) report
    leaves_off_after r input_broke p out o =
        let known = known_whole r in
        ends_as k (complete known.0) Begun Finished t known.1 (λ b. inl (input_broke b)) p refl
        (begun_is_out limits scope facts w k (complete known.0) t (λ n. cc (sym p ∙ n)) out) o refl (λ e. cc)

    pub fails : Reaches limits read (opened ++ (map Event events ++ Whole ∷ [])) place held → (is_by_input w.conn.broken ≡ true → has_ended end ≡ true)
        → progress_of facts (taken_of w.conn) ≡ Nothing → w.conn.written ≡ response_text facts (taken_of w.conn) ++ refusal_text 500 → report.outcome ≡ Refused 500
        → Converses limits end read (exchanges ++ exchanged scope facts w ∷ []) (written ++ w.conn.written) report
    fails r input_broke p out o =
        let known = known_whole r in
        ends_as k (complete known.0) Nothing (Refused 500) t known.1 (λ b. inl (input_broke b)) p refl
        (replaced_is_out limits scope facts w k (complete known.0) t p out) o refl (λ e. cc)

    -- ---- the body is refused

    known_bad : (status : ℕ) → Reaches limits read (opened ++ (map Event events ++ Bad status ∷ [])) place held
        → (why : Refusal) × (body_state limits facts.framing w.conn.arrived ≡ faulty why) × (status ≡ status_of why)
    known_bad status r =
        (bad_is_faulty limits read opened facts.framing w.conn.arrived (body_events limits facts.framing w.conn.arrived) (body_state limits facts.framing w.conn.arrived) place held
        (opened_at limits read opened facts.framing w.conn.arrived x.opens) (opened_plain limits read opened facts.framing w.conn.arrived x.opens) (body_is_read limits facts.framing w.conn.arrived) events status r).1

    pub refuses_body : (status : ℕ) → Reaches limits read (opened ++ (map Event events ++ Bad status ∷ [])) place held
        → progress_of facts (taken_of w.conn) ≡ Nothing → w.conn.written ≡ response_text facts (taken_of w.conn) ++ refusal_text status → report.outcome ≡ Refused status
        → Converses limits end read (exchanges ++ exchanged scope facts w ∷ []) (written ++ w.conn.written) report
    refuses_body status r p out o =
        let known = known_bad status r in
        ends_as k (faulty known.0) Nothing (Refused status) t known.1 (λ b. inr refl) p (ap (λ (s : ℕ). ConnectionEnds (Refused s)) (sym known.2))
        (replaced_is_out limits scope facts w k (faulty known.0) t p
        (out ∙ ap (λ (s : ℕ). response_text facts (taken_of w.conn) ++ refusal_text s) known.2)) o refl (λ e. cc)

    pub breaks_in_a_faulty_body : (status : ℕ) → Reaches limits read (opened ++ (map Event events ++ Bad status ∷ [])) place held
        → (progress_of facts (taken_of w.conn) ≡ Complete false) ⊎ ((progress_of facts (taken_of w.conn) ≡ Begun) × (is_by_input w.conn.broken ≡ true))
        → w.conn.written ≡ response_text facts (taken_of w.conn) → report.outcome ≡ InputBroke
        → Converses limits end read (exchanges ++ exchanged scope facts w ∷ []) (written ++ w.conn.written) report
    breaks_in_a_faulty_body status r p out o = by p
      where
        known : (why : Refusal) × (body_state limits facts.framing w.conn.arrived ≡ faulty why) × (status ≡ status_of why)
        known = known_bad status r

        by : (progress_of facts (taken_of w.conn) ≡ Complete false) ⊎ ((progress_of facts (taken_of w.conn) ≡ Begun) × (is_by_input w.conn.broken ≡ true))
            → Converses limits end read (exchanges ++ exchanged scope facts w ∷ []) (written ++ w.conn.written) report
        by (inl p) =
            ends_as k (faulty known.0) (Complete false) InputBroke t known.1 (λ b. inr refl) p refl
            (begun_is_out limits scope facts w k (faulty known.0) t (λ n. cc (sym p ∙ n)) out) o refl (λ e. inr refl)
        by (inr p) =
            ends_as k (faulty known.0) Begun InputBroke t known.1 (λ b. inr refl) p.0 (ap (λ (b : Bool). ConnectionEnds (incomplete (faulty known.0) b)) p.1)
            (begun_is_out limits scope facts w k (faulty known.0) t (λ n. cc (sym p.0 ∙ n)) out) o refl (λ e. inr refl)

    -- ---- the input ended or failed in the body

    pub breaks_off : (rest : List ℕ) → GivesResults limits read (opened ++ map Event events) rest → has_ended end ≡ true
        → (progress_of facts (taken_of w.conn) ≡ Nothing) ⊎ ((progress_of facts (taken_of w.conn) ≡ Complete false)
        ⊎ ((progress_of facts (taken_of w.conn) ≡ Begun) × (is_by_input w.conn.broken ≡ true)))
        → w.conn.written ≡ response_text facts (taken_of w.conn) → report.outcome ≡ InputBroke
        → Converses limits end read (exchanges ++ exchanged scope facts w ∷ []) (written ++ w.conn.written) report
    breaks_off rest g over p out o = by p
      where
        known : body_state limits facts.framing w.conn.arrived ≡ partial
        known =
            (need_is_partial limits read opened facts.framing w.conn.arrived (body_events limits facts.framing w.conn.arrived) (body_state limits facts.framing w.conn.arrived) events rest
            (opened_at limits read opened facts.framing w.conn.arrived x.opens) (opened_plain limits read opened facts.framing w.conn.arrived x.opens) (body_is_read limits facts.framing w.conn.arrived) g).1

        by : (progress_of facts (taken_of w.conn) ≡ Nothing) ⊎ ((progress_of facts (taken_of w.conn) ≡ Complete false)
            ⊎ ((progress_of facts (taken_of w.conn) ≡ Begun) × (is_by_input w.conn.broken ≡ true)))
            → Converses limits end read (exchanges ++ exchanged scope facts w ∷ []) (written ++ w.conn.written) report
        by (inl p) =
            ends_as k partial Nothing InputBroke t known (λ b. inl over) p refl
            (replaced_is_out limits scope facts w k partial t p (out ∙ sym (append-nil (response_text facts (taken_of w.conn))))) o refl (λ e. inl over)
        by (inr (inl p)) =
            ends_as k partial (Complete false) InputBroke t known (λ b. inl over) p refl
            (begun_is_out limits scope facts w k partial t (λ n. cc (sym p ∙ n)) out) o refl (λ e. inl over)
        by (inr (inr p)) =
            ends_as k partial Begun InputBroke t known (λ b. inl over) p.0 (ap (λ (b : Bool). ConnectionEnds (incomplete partial b)) p.1)
            (begun_is_out limits scope facts w k partial t (λ n. cc (sym p.0 ∙ n)) out) o refl (λ e. inl over)

    -- ---- a write of the answer in place of the response failed

    stops_in_answer : (n status : ℕ) (known : BodyState) → body_state limits facts.framing w.conn.arrived ≡ known → HasBroken end w known → replacement_text (input_of known) ≡ refusal_text status
        → progress_of facts (taken_of w.conn) ≡ Nothing → n < length (refusal_text status)
        → w.conn.written ≡ response_text facts (taken_of w.conn) ++ take n (refusal_text status) → report.outcome ≡ WriteFailed n
        → Converses limits end read (exchanges ++ exchanged scope facts w ∷ []) (written ++ w.conn.written) report
    stops_in_answer n status known same input_broke text p h out o =
        let S : BodyState → Type 0 = λ s. ReadsBody limits facts.framing w.conn.arrived (body_events limits facts.framing w.conn.arrived) s in
        let whole = taken_whole limits facts w k i t.taken in
        let none : progress_of facts (said_of w.app) ≡ Nothing = ap (progress_of facts) (sym whole) ∙ p in
        let stops : StopsWithin n (exchanged scope facts w) (input_of known) w.conn.written = record {
          out = response_text facts (said_of w.app);
          more = refusal_text status;
          is_next = Ending k (end_put limits facts w k i t.taken) refl (sym text ∙ sym (unbegun_are_replaced facts (said_of w.app) k (input_of known) t.no_limit none));
          within = h;
          written_is = out ∙ ap (λ (l : List Outgoing). response_text facts l ++ take n (refusal_text status)) whole;
        } in
        ends_cut limits end read exchanges written scope facts w (body_events limits facts.framing w.conn.arrived) known report x.one i
        (subst S same (body_is_read limits facts.framing w.conn.arrived)) input_broke (ap cuts_exchange o)
        (λ m e. subst (λ (j : ℕ). StopsWithin j (exchanged scope facts w) (input_of known) w.conn.written) (cc (sym o ∙ e)) stops) c

    pub failure_unsent : (n : ℕ) → Reaches limits read (opened ++ (map Event events ++ Whole ∷ [])) place held → (is_by_input w.conn.broken ≡ true → has_ended end ≡ true)
        → progress_of facts (taken_of w.conn) ≡ Nothing → n < length (refusal_text 500)
        → w.conn.written ≡ response_text facts (taken_of w.conn) ++ take n (refusal_text 500) → report.outcome ≡ WriteFailed n
        → Converses limits end read (exchanges ++ exchanged scope facts w ∷ []) (written ++ w.conn.written) report
    failure_unsent n r input_broke p h out o =
        let known = known_whole r in
        stops_in_answer n 500 (complete known.0) known.1 (λ b. inl (input_broke b)) refl p h out o

    pub refusal_unsent : (n status : ℕ) → Reaches limits read (opened ++ (map Event events ++ Bad status ∷ [])) place held
        → progress_of facts (taken_of w.conn) ≡ Nothing → n < length (refusal_text status)
        → w.conn.written ≡ response_text facts (taken_of w.conn) ++ take n (refusal_text status) → report.outcome ≡ WriteFailed n
        → Converses limits end read (exchanges ++ exchanged scope facts w ∷ []) (written ++ w.conn.written) report
    refusal_unsent n status r p h out o =
        let known = known_bad status r in
        stops_in_answer n status (faulty known.0) known.1 (λ b. inr refl) (ap refusal_text (sym known.2)) p h out o

  -- ---- the connection is cut short in the exchange

  stops_as : (n : ℕ) → HasBrokenIn limits end facts w → StopsWithin n (exchanged scope facts w) (input_of (body_state limits facts.framing w.conn.arrived)) w.conn.written
      → report.outcome ≡ WriteFailed n → Converses limits end read (exchanges ++ exchanged scope facts w ∷ []) (written ++ w.conn.written) report
  stops_as n input_broke stops o =
      let s = body_state limits facts.framing w.conn.arrived in
      ends_cut limits end read exchanges written scope facts w (body_events limits facts.framing w.conn.arrived) s report x.one i
      (body_is_read limits facts.framing w.conn.arrived) input_broke (ap cuts_exchange o)
      (λ m e. subst (λ (j : ℕ). StopsWithin j (exchanged scope facts w) (input_of s) w.conn.written) (cc (sym o ∙ e)) stops) c

  pub beginning_unsent : (n : ℕ) → HasBrokenIn limits end facts w → n < length (response_text facts []) → w.conn.written ≡ take n (response_text facts [])
      → report.outcome ≡ WriteFailed n → Converses limits end read (exchanges ++ exchanged scope facts w ∷ []) (written ++ w.conn.written) report
  beginning_unsent n input_broke h out o =
      stops_as n input_broke (record { out = []; more = response_text facts []; is_next = Beginning refl refl; within = h; written_is = out }) o

  pub event_unsent : (n : ℕ) (before : List Outgoing) (event : Outgoing) (text : List ℕ) → HasBrokenIn limits end facts w → taken_of w.conn ≡ before ++ event ∷ []
      → response_text facts (before ++ event ∷ []) ≡ response_text facts before ++ text → n < length text → w.conn.written ≡ response_text facts before ++ take n text
      → report.outcome ≡ WriteFailed n → Converses limits end read (exchanges ++ exchanged scope facts w ∷ []) (written ++ w.conn.written) report
  event_unsent n before event text input_broke e adds h out o =
      let p : IsPrefix (before ++ event ∷ []) (said_of w.app) = subst (λ (l : List Outgoing). IsPrefix l (said_of w.app)) e i.taken in
      stops_as n input_broke (record {
        out = response_text facts before;
        more = text;
        is_next = Saying before p.0 event (splits before event p.0 (said_of w.app) p.1) refl adds;
        within = h;
        written_is = out;
      }) o
    where
      splits : (before : List Outgoing) (event : Outgoing) (after said : List Outgoing) → (before ++ event ∷ []) ++ after ≡ said → said ≡ before ++ event ∷ after
      splits [] event after said e = sym e
      splits (b ∷ before) event after [] e = cc
      splits (b ∷ before) event after (s ∷ said) e = let rest = splits before event after said (cc e) in cc (e, rest)

  -- a limit, or want of memory
  pub gives_up : HasBrokenIn limits end facts w → (report.outcome ≡ Idle) ⊎ (report.outcome ≡ NoMemory)
      → Converses limits end read (exchanges ++ exchanged scope facts w ∷ []) (written ++ w.conn.written) report
  gives_up input_broke o =
      ends_cut limits end read exchanges written scope facts w (body_events limits facts.framing w.conn.arrived) (body_state limits facts.framing w.conn.arrived) report x.one i
      (body_is_read limits facts.framing w.conn.arrived) input_broke (cut o) (λ n e. absurd (other n o e)) c
    where
      cut : (report.outcome ≡ Idle) ⊎ (report.outcome ≡ NoMemory) → cuts_exchange report.outcome ≡ true
      cut (inl e) = ap cuts_exchange e
      cut (inr e) = ap cuts_exchange e

      other : (n : ℕ) → (report.outcome ≡ Idle) ⊎ (report.outcome ≡ NoMemory) → report.outcome ≡ WriteFailed n → ⊥
      other n (inl e) f = cc (sym e ∙ f)
      other n (inr e) f = cc (sym e ∙ f)
