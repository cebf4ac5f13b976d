-- A conversation with an application that keeps its promise is one in which every task returned, and sent what the events of
-- the bodies ask for.
use Rattle.std.proofs.Common.{◌≡◌, ℕ, Bool, false, List, [], ◌∷◌, ◌++◌, length, refl, sym, ap, ◌∙◌, subst, append_assoc, Option, Some, None, arith, All}
use Rattle.std.proofs.lemmas.List.Elements.{All-head, All-tail}
use mathlib.Core.List.{IsPrefix}
use Rattle.asgi_types.specs.declared.end_kind.EndKind.{EndKind}
use Rattle.asgi_types.specs.declared.end_kind.EndKind.TheVariants as kind
use Rattle.asgi_types.specs.declared.incoming.Incoming.{Incoming}
use Rattle.asgi_types.specs.declared.limits.Limits.{Limits}
use Rattle.asgi_types.specs.declared.outgoing.Outgoing.{Outgoing}
use Rattle.asgi_types.specs.declared.scope.Peer.{Peer}
use Rattle.asgi_types.specs.declared.state.StateValue.{StateValue}
use Rattle.asgi_request.specs.ChunkedBody.{BodyState, complete}
use Rattle.asgi_response.specs.Progress.{progress_of}
use Rattle.asgi_response.specs.declared.refusal.Input.TheVariants as input
use Rattle.asgi_apps.specs.Promises.{Promise}
use Rattle.asgi_conversation.specs.declared.report.Outcome.{Outcome}
use Rattle.asgi_conversation.specs.declared.report.Outcome.TheVariants.{Idle}
use Rattle.asgi_conversation.proofs.OutcomeLemmas.{is_done}
use Rattle.asgi_conversation.specs.declared.report.Report.{Report}
use Rattle.asgi_conversation.specs.declared.following.NextStep.{NextStep}
use Rattle.asgi_conversation.specs.declared.following.NextStep.TheVariants.{NextRequest, ConnectionEnds}
use Rattle.asgi_conversation.specs.declared.input.InputEnd.{InputEnd}
use Rattle.asgi_conversation.specs.OutcomeClasses.{is_cut}
use Rattle.asgi_conversation.specs.TaskEnds.{after_task}
use Rattle.asgi_conversation.specs.Exchanges.{ServesFirst, IsFollowed, out_text, AreAnswered, answer_texts, fault_of, fault_count}
use Rattle.asgi_conversation.specs.ExchangeRecord.{ExchangeRecord}
use Rattle.asgi_conversation.specs.Persistence.{EndsBetween}
use Rattle.asgi_conversation.specs.Kinds.{Ends, listed}
use Rattle.asgi_conversation.specs.Promised.{IsPromised}
use Rattle.asgi_conversation.specs.PromisedWhole.{ConversesWith}
use Rattle.asgi_conversation.proofs.ToldLemmas.{SaysOf}
use Rattle.asgi_conversation.proofs.ServedLemmas.{served}
use Rattle.asgi_conversation.proofs.AnswerLemmas.{Replies, Plain, one, first}

-- ---- a task that did not fault, and that no limit stopped, returned

returned_at : (x : ExchangeRecord) (state : BodyState) (next : NextStep) → IsFollowed x state next → (ConnectionEnds Idle ≡ next → ⊥) → fault_of x.ended ≡ 0 → x.ended ≡ Some kind.Returned
returned_at x state next f goes faults = by f.0 f.1 f.2
  where
    by : (k : EndKind) → x.ended ≡ Some k → after_task k (progress_of x.facts x.said) state x.input_broke ≡ next → x.ended ≡ Some kind.Returned
    by kind.Returned e g = e
    by kind.Faulted e g = let one_fault : fault_of (Some kind.Faulted) ≡ 0 = sym (ap fault_of e) ∙ faults in absurd (omega (arith, one_fault))
    by kind.Idle e g = absurd (goes g)

not_idle : (o : Outcome) → is_cut o ≡ false → ConnectionEnds Idle ≡ ConnectionEnds o → ⊥
not_idle o c e = let same : Idle ≡ o = cc e in let cut : is_cut Idle ≡ false = ap is_cut same ∙ c in cc cut

-- ---- the conversation

module _ (answers : Promise) (say : List Incoming → List Outgoing) (law : SaysOf answers say)
    (limits : Limits) (end : InputEnd) (client server : Option Peer) (values : List (List ℕ × StateValue)) where
  replies : (bytes : List ℕ) (x : ExchangeRecord) (state : BodyState) (next : NextStep) → ServesFirst limits end false bytes x state → IsFollowed x state next
      → (ConnectionEnds Idle ≡ next → ⊥) → fault_of x.ended ≡ 0 → IsPromised answers client server values x → Replies say limits bytes x state next
  replies bytes x state next s f goes faults p =
      let all = served answers say law limits end bytes x state client server values s (returned_at x state next f goes faults) p in
      record { serves = all; follows = all.told.next next f }

  plain : (o : Outcome) → is_cut o ≡ false → (bytes : List ℕ) (exchanges : List ExchangeRecord) (last : Option ExchangeRecord) (after text : List ℕ)
      → AreAnswered limits end bytes exchanges after → Ends o limits end after last text
      → fault_count (exchanges ++ listed last) ≡ 0 → All (IsPromised answers client server values) (exchanges ++ listed last)
      → Plain say limits end o bytes exchanges last (answer_texts exchanges ++ text)
  plain o c bytes [] None after text a e faults p = subst (λ (b : List ℕ). EndsBetween o limits end b text) (sym a) e
  plain o c bytes [] (Some x) after text a e faults p =
      let S : Bool → Type 0 = λ cut. ServesFirst limits end cut after x e.0 in
      let s = subst (λ (b : List ℕ). ServesFirst limits end false b x e.0) (sym a) (subst S c e.1) in
      let done = is_done o end x e.0 text c e.2 in (
        e.0,
        replies bytes x e.0 (ConnectionEnds o) s done.0 (not_idle o c) (omega (arith, faults)) (All-head (IsPromised answers client server values) x [] p),
        done.1,
      )
  plain o c bytes (x ∷ exchanges) last after text a e faults p = (
    a.0,
    replies bytes x (complete a.0) NextRequest a.1 a.2 (λ n. cc n) (omega (arith, faults)) (All-head (IsPromised answers client server values) x (exchanges ++ listed last) p),
    (
      answer_texts exchanges ++ text,
      append_assoc (out_text x input.Whole) (answer_texts exchanges) text,
      plain o c a.0 exchanges last after text a.3 e (omega (arith, faults)) (All-tail (IsPromised answers client server values) x (exchanges ++ listed last) p),
    ),
  )

-- so it is with the whole conversation
pub plainly : (answers : Promise) (say : List Incoming → List Outgoing) → SaysOf answers say
    → (limits : Limits) (end : InputEnd) (read : List ℕ) (exchanges : List ExchangeRecord) (written : List ℕ) (report : Report)
    → (w : ConversesWith answers limits end read exchanges written report) → Plain say limits end report.outcome read w.converses.answered w.converses.last written
plainly answers say law limits end read exchanges written report w =
    let c = w.converses in
    let none : fault_count (c.answered ++ listed c.last) ≡ 0 = ap fault_count (sym c.in_order) ∙ sym c.counts.faults_are ∙ w.no_faults in
    let P : List ExchangeRecord → Type 0 = λ l. All (IsPromised answers w.client w.server w.state) l in
    subst (λ (t : List ℕ). Plain say limits end report.outcome read c.answered c.last t) (sym c.written_is)
    (plain answers say law limits end w.client w.server w.state report.outcome w.uncut read c.answered c.last c.after c.text c.each c.ends none (subst P c.in_order w.promised))

-- ---- the laws

-- the same bytes: the texts and the number of exchanges are the same, and the outcomes too, if reading ended alike
pub alike : (answers : Promise) (say : List Incoming → List Outgoing) → SaysOf answers say
    → (limits : Limits) (end late : InputEnd) (read : List ℕ) (exchanges others : List ExchangeRecord) (written other : List ℕ) (report another : Report)
    → ConversesWith answers limits end read exchanges written report → ConversesWith answers limits late read others other another
    → (written ≡ other) × (end ≡ late → report.outcome ≡ another.outcome) × (report.exchanges ≡ another.exchanges)
alike answers say law limits end late read exchanges others written other report another v w =
    let a = v.converses in
    let b = w.converses in
    let same = one say limits end late report.outcome another.outcome v.uncut w.uncut read a.answered b.answered a.last b.last written other
    (plainly answers say law limits end read exchanges written report v) (plainly answers say law limits late read others other another w) in (
      same.texts,
      same.outcomes,
      a.counts.exchanges_are ∙ ap length a.in_order ∙ same.as_many ∙ sym (b.counts.exchanges_are ∙ ap length b.in_order),
    )

pub one_answer : (answers : Promise) (say : List Incoming → List Outgoing) → SaysOf answers say
    → (limits : Limits) (end : InputEnd) (read : List ℕ) (exchanges others : List ExchangeRecord) (written other : List ℕ) (report another : Report)
    → ConversesWith answers limits end read exchanges written report → ConversesWith answers limits end read others other another
    → (written ≡ other) × (report.outcome ≡ another.outcome) × (report.exchanges ≡ another.exchanges)
one_answer answers say law limits end read exchanges others written other report another v w =
    let same = alike answers say law limits end end read exchanges others written other report another v w in (same.0, same.1 refl, same.2)

-- however reading ended
pub same_bytes : (answers : Promise) (say : List Incoming → List Outgoing) → SaysOf answers say
    → (limits : Limits) (end late : InputEnd) (read : List ℕ) (exchanges others : List ExchangeRecord) (written other : List ℕ) (report another : Report)
    → ConversesWith answers limits end read exchanges written report → ConversesWith answers limits late read others other another → written ≡ other
same_bytes answers say law limits end late read exchanges others written other report another v w =
    (alike answers say law limits end late read exchanges others written other report another v w).0

pub front_comes_first : (answers : Promise) (say : List Incoming → List Outgoing) → SaysOf answers say
    → (limits : Limits) (early late : InputEnd) (read more : List ℕ) (exchanges others : List ExchangeRecord) (written other : List ℕ) (report another : Report)
    → ConversesWith answers limits early read exchanges written report → ConversesWith answers limits late (read ++ more) others other another → IsPrefix written other
front_comes_first answers say law limits early late read more exchanges others written other report another v w =
    first say law.grows limits early late report.outcome another.outcome v.uncut w.uncut more read v.converses.answered w.converses.answered v.converses.last w.converses.last written other
    (plainly answers say law limits early read exchanges written report v) (plainly answers say law limits late (read ++ more) others other another w)
