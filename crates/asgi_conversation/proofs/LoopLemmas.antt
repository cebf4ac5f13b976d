-- What a loop over a reader carries from one exchange to the next, and how it ends between two of them.
use Rattle.std.proofs.Common.{◌≡◌, ℕ, true, false, List, [], ◌∷◌, ◌++◌, ◌⊎◌, inl, inr, map, refl, sym, ap, ◌∙◌, append-nil, subst}
use Rattle.std.specs.Prelude.{◌≢◌, ◌<◌, length, take}
use Rattle.asgi_types.specs.declared.end_kind.EndKind.{EndKind}
use Rattle.asgi_types.specs.declared.facts.Facts.{Facts}
use Rattle.asgi_types.specs.declared.facts.Framing.TheVariants.{Upgrade}
use Rattle.asgi_types.specs.declared.incoming.Incoming.{Incoming}
use Rattle.asgi_types.specs.declared.limits.Limits.{Limits}
use Rattle.asgi_types.specs.declared.scope.Scope.{Scope}
use Rattle.asgi_request.specs.BodyOf.{body_events, body_state}
use Rattle.asgi_request.specs.ChunkedBody.{BodyState, complete}
use Rattle.asgi_request.specs.RequestEvents.{ReadsBody}
use Rattle.asgi_request.specs.Results.{GivesResults}
use Rattle.asgi_request.specs.declared.next.Next.{Next}
use Rattle.asgi_request.specs.declared.next.Next.TheVariants.{Head, Event, Whole, Bad}
use Rattle.asgi_request.specs.declared.place.Place.{Place}
use Rattle.asgi_request.specs.declared.place.Place.TheVariants.{Start}
use Rattle.asgi_request.specs.Places.{Reaches}
use Rattle.asgi_request.proofs.BodyOfLemmas.{body_is_read}
use Rattle.asgi_request.proofs.DueLemmas.{whole_is_complete}
use Rattle.asgi_request.proofs.OpenedLemmas.{closed_at, has_closed, closed_stays, opened_at, opened_plain, opened_stays, next_opens, whole_closes, closed_is_one}
use Rattle.asgi_request.proofs.StartLemmas.{next_refusal, head_is_open}
use Rattle.asgi_response.specs.Exchange.{refusal_text}
use Rattle.asgi_response.specs.Progress.{progress_of}
use Rattle.asgi_response.specs.Response.{response_text}
use Rattle.asgi_response.specs.declared.progress.Progress.TheVariants.{Nothing, Complete}
use Rattle.asgi_exchange.specs.HttpExchange.{IsHttpExchange}
use Rattle.asgi_exchange.specs.Steps.{is_by_input}
use Rattle.asgi_exchange.specs.Views.{World, taken_of}
use Rattle.asgi_conversation.specs.declared.report.Outcome.{Outcome}
use Rattle.asgi_conversation.specs.declared.report.Outcome.TheVariants.{Finished, Refused, InputBroke, WriteFailed, Idle}
use Rattle.asgi_conversation.specs.OutcomeClasses.{OutcomeClass, Lacking, class_of, IsLacking}
use Rattle.asgi_conversation.specs.declared.report.Report.{Report}
use Rattle.asgi_conversation.specs.After.{NothingIsDue, RequestIsDue, IsBlank}
use Rattle.asgi_conversation.specs.declared.following.NextStep.TheVariants.{NextRequest}
use Rattle.asgi_conversation.specs.declared.input.InputEnd.{InputEnd}
use Rattle.asgi_conversation.specs.declared.input.InputEnd.TheVariants.{AtEnd, Failed}
use Rattle.asgi_conversation.specs.TaskEnds.{has_ended}
use Rattle.asgi_conversation.specs.ExchangeRecord.{ExchangeRecord}
use Rattle.asgi_conversation.specs.Persistence.{RefusesWith, EndsBetween, EndsBetweenAs, CountsExchanges}
use Rattle.asgi_conversation.specs.Kinds.{Converses}
use Rattle.asgi_conversation.specs.SoFar.{exchanged, Between, Within, TaskIsOver}
use Rattle.asgi_conversation.proofs.RequestLemmas.{nothing_due, none_closed}
use Rattle.asgi_conversation.proofs.SoFarLemmas.{start, grows, sees_end, one_grows, one_more, ends_between}
use Rattle.asgi_conversation.proofs.TakenLemmas.{follows, begun_is_out}

-- ---- from one to the next

pub starts : (limits : Limits) (end : InputEnd) → Between limits end [] [] [] [] []
starts limits end = record { so_far = start limits end; closed = none_closed limits [] }

pub reads_more : (limits : Limits) (end : InputEnd) (read more : List ℕ) (given : List Next) (exchanges : List ExchangeRecord) (after written : List ℕ)
    → Between limits end read given exchanges after written → Between limits end (read ++ more) given exchanges (after ++ more) written
reads_more limits end read more given exchanges after written b =
    record { so_far = grows limits end read more exchanges after written b.so_far; closed = closed_stays limits read more given after b.closed }

pub within_reads_more : (limits : Limits) (end : InputEnd) (read more : List ℕ) (opened : List Next) (exchanges : List ExchangeRecord) (written : List ℕ) (scope : Scope) (facts : Facts) (arrived : List ℕ)
    → Within limits end read opened exchanges written scope facts arrived → Within limits end (read ++ more) opened exchanges written scope facts (arrived ++ more)
within_reads_more limits end read more opened exchanges written scope facts arrived x =
    record { one = one_grows limits end read more exchanges written scope facts arrived x.one; opens = opened_stays limits read more opened facts.framing arrived x.opens }

pub end_seen : (limits : Limits) (old new : InputEnd) (read : List ℕ) (given : List Next) (exchanges : List ExchangeRecord) (after written : List ℕ) → (has_ended old ≡ true → has_ended new ≡ true)
    → Between limits old read given exchanges after written → Between limits new read given exchanges after written
end_seen limits old new read given exchanges after written on b = record { so_far = sees_end limits old new read exchanges after written on b.so_far; closed = b.closed }

pub end_seen_within : (limits : Limits) (old new : InputEnd) (read : List ℕ) (opened : List Next) (exchanges : List ExchangeRecord) (written : List ℕ) (scope : Scope) (facts : Facts) (arrived : List ℕ)
    → (has_ended old ≡ true → has_ended new ≡ true)
    → Within limits old read opened exchanges written scope facts arrived → Within limits new read opened exchanges written scope facts arrived
end_seen_within limits old new read opened exchanges written scope facts arrived on x =
    let o = x.one in
    record {
      one = record { after = o.after; so_far = sees_end limits old new read exchanges o.after written on o.so_far; head = o.head };
      opens = x.opens;
    }

pub begins : (limits : Limits) (end : InputEnd) (read : List ℕ) (given more : List Next) (exchanges : List ExchangeRecord) (after written : List ℕ) (place : Place) (held : List ℕ) (scope : Scope) (facts : Facts)
    → Between limits end read given exchanges after written → Reaches limits read (given ++ Head scope facts ∷ more) place held → facts.framing ≢ Upgrade
    → (arrived : List ℕ) × Within limits end read (given ++ Head scope facts ∷ []) exchanges written scope facts arrived
begins limits end read given more exchanges after written place held scope facts b r plain =
    let n = next_opens limits read given after place held scope facts more b.closed r plain in
    (n.0, record { one = record { after = after; so_far = b.so_far; head = n.1 }; opens = n.2 })

kept_is_begun : (facts : Facts) (w : World ℕ ℕ) → progress_of facts (taken_of w.conn) ≡ Complete false → progress_of facts (taken_of w.conn) ≢ Nothing
kept_is_begun facts w p n = cc (sym p ∙ n)

pub keeps_on : (limits : Limits) (end : InputEnd) (read : List ℕ) (opened : List Next) (exchanges : List ExchangeRecord) (written : List ℕ) (scope : Scope) (facts : Facts) (w : World ℕ ℕ) (k : EndKind)
    (events : List Incoming) (place : Place) (held : List ℕ)
    → Within limits end read opened exchanges written scope facts w.conn.arrived → IsHttpExchange limits facts w → TaskIsOver w k
    → progress_of facts (taken_of w.conn) ≡ Complete false → (is_by_input w.conn.broken ≡ true → has_ended end ≡ true)
    → w.conn.written ≡ response_text facts (taken_of w.conn)
    → Reaches limits read (opened ++ (map Event events ++ Whole ∷ [])) place held
    → (after : List ℕ) × Between limits end read (opened ++ (map Event events ++ Whole ∷ [])) (exchanges ++ exchanged scope facts w ∷ []) after (written ++ w.conn.written)
keeps_on limits end read opened exchanges written scope facts w k events place held x i t p input_broke out r =
    let due = body_events limits facts.framing w.conn.arrived in
    let state = body_state limits facts.framing w.conn.arrived in
    let known = whole_is_complete limits read opened facts.framing w.conn.arrived due state place held
    (opened_at limits read opened facts.framing w.conn.arrived x.opens) (opened_plain limits read opened facts.framing w.conn.arrived x.opens) (body_is_read limits facts.framing w.conn.arrived) events r in
    let after = known.1.0 in
    let E : List Incoming → Type 0 = λ l. ReadsBody limits facts.framing w.conn.arrived l (complete after) in
    let S : BodyState → Type 0 = λ s. ReadsBody limits facts.framing w.conn.arrived due s in
    let body = subst E (sym known.0) (subst S known.1.1 (body_is_read limits facts.framing w.conn.arrived)) in (
      after,
      record {
        so_far = one_more limits end read exchanges written scope facts w k events after x.one i t.taken body (λ b. inl (input_broke b)) (λ b. absurd (t.uncut b))
            (follows limits scope facts w k (complete after) t (Complete false) NextRequest i p refl)
            (begun_is_out limits scope facts w k (complete after) t (kept_is_begun facts w p) out);
        closed = whole_closes limits read opened facts.framing w.conn.arrived events after x.opens body;
      },
    )

-- the bytes after the last request are those that the reader holds
pub after_is_held : (limits : Limits) (end : InputEnd) (read : List ℕ) (given : List Next) (exchanges : List ExchangeRecord) (after written held : List ℕ)
    → Between limits end read given exchanges after written → Reaches limits read given Start held → after ≡ held
after_is_held limits end read given exchanges after written held b r = closed_is_one limits read given after held b.closed (has_closed limits read given held r)

-- ---- what is refused there

-- a refusal that the reader gives
pub refusal_due : (limits : Limits) (end : InputEnd) (read : List ℕ) (given : List Next) (exchanges : List ExchangeRecord) (after written : List ℕ) (place : Place) (held : List ℕ) (status : ℕ)
    → Between limits end read given exchanges after written → Reaches limits read (given ++ Bad status ∷ []) place held → RefusesWith limits after status
refusal_due limits end read given exchanges after written place held status b r =
    next_refusal limits read given after place held status (closed_at limits read given after b.closed) r

-- ---- the ends between two exchanges

ends_as : (limits : Limits) (end : InputEnd) (read : List ℕ) (exchanges : List ExchangeRecord) (after written text : List ℕ) (given : List Next) (outcome : Outcome) (report : Report)
    → Between limits end read given exchanges after written → report.outcome ≡ outcome → EndsBetween outcome limits end after text → CountsExchanges report exchanges
    → Converses limits end read exchanges (written ++ text) report
ends_as limits end read exchanges after written text given outcome report b e ends c =
    ends_between limits end read exchanges after written text report b.so_far (subst (λ (o : Outcome). EndsBetween o limits end after text) (sym e) ends) c

lacks_memory : (limits : Limits) (end : InputEnd) (after : List ℕ) (outcome : Outcome) → class_of outcome ≡ Lacking → EndsBetween outcome limits end after []
lacks_memory limits end after outcome is = subst (λ (k : OutcomeClass). EndsBetweenAs k outcome limits end after []) (sym is) refl

pub lacks_in_front : (limits : Limits) (end : InputEnd) (after : List ℕ) (outcome : Outcome) → IsLacking outcome → RequestIsDue limits after → EndsBetween outcome limits end after []
lacks_in_front limits end after outcome (inl is) due = lacks_memory limits end after outcome is
lacks_in_front limits end after outcome (inr is) due = subst (λ (k : OutcomeClass). EndsBetweenAs k outcome limits end after []) (sym is) (refl, due)

ends_silent : (limits : Limits) (end : InputEnd) (read : List ℕ) (exchanges : List ExchangeRecord) (after written : List ℕ) (given : List Next) (outcome : Outcome) (report : Report)
    → Between limits end read given exchanges after written → report.outcome ≡ outcome → EndsBetween outcome limits end after [] → CountsExchanges report exchanges
    → Converses limits end read exchanges written report
ends_silent limits end read exchanges after written given outcome report b e ends c =
    subst (λ (l : List ℕ). Converses limits end read exchanges l report) (append-nil written)
    (ends_as limits end read exchanges after written [] given outcome report b e ends c)

module _ (limits : Limits) (end : InputEnd) (read : List ℕ) (given : List Next) (exchanges : List ExchangeRecord) (after written : List ℕ) (report : Report)
    (b : Between limits end read given exchanges after written) (c : CountsExchanges report exchanges) where
  pub refused : (status : ℕ) → RefusesWith limits after status → report.outcome ≡ Refused status
      → Converses limits end read exchanges (written ++ refusal_text status) report
  refused status why e = ends_as limits end read exchanges after written (refusal_text status) given (Refused status) report b e (why.0, why.1, why.2, refl) c

  pub refusal_failed : (status n : ℕ) → RefusesWith limits after status → n < length (refusal_text status)
      → report.outcome ≡ WriteFailed n → Converses limits end read exchanges (written ++ take n (refusal_text status)) report
  refusal_failed status n why h e =
      ends_as limits end read exchanges after written (take n (refusal_text status)) given (WriteFailed n) report b e
      (why.0, why.1, subst (λ (s : ℕ). n < length (refusal_text s)) why.2 h, ap (λ (s : ℕ). take n (refusal_text s)) why.2) c

  none_due : (rest : List ℕ) → GivesResults limits read given rest → NothingIsDue limits after
  none_due rest g = nothing_due limits after (head_is_open limits read given after rest (closed_at limits read given after b.closed) g)

  pub finished : (rest : List ℕ) → GivesResults limits read given rest → end ≡ AtEnd → IsBlank after → report.outcome ≡ Finished → Converses limits end read exchanges written report
  finished rest g e blank o = ends_silent limits end read exchanges after written given Finished report b o (refl, none_due rest g, e, blank) c

  pub input_broke : (rest : List ℕ) → GivesResults limits read given rest → (end ≡ Failed) ⊎ ((end ≡ AtEnd) × ¬ (IsBlank after)) → report.outcome ≡ InputBroke
      → Converses limits end read exchanges written report
  input_broke rest g e o = ends_silent limits end read exchanges after written given InputBroke report b o (refl, none_due rest g, e) c

  pub idle : (rest : List ℕ) → GivesResults limits read given rest → report.outcome ≡ Idle → Converses limits end read exchanges written report
  idle rest g o = ends_silent limits end read exchanges after written given Idle report b o (refl, none_due rest g) c

  -- memory was refused
  pub lacking : class_of report.outcome ≡ Lacking → Converses limits end read exchanges written report
  lacking l = ends_silent limits end read exchanges after written given report.outcome report b refl (lacks_memory limits end after report.outcome l) c

  -- memory or a thread was, when a task was to be begun
  pub unbegun : IsLacking report.outcome → RequestIsDue limits after → Converses limits end read exchanges written report
  unbegun l due = ends_silent limits end read exchanges after written given report.outcome report b refl (lacks_in_front limits end after report.outcome l due) c
