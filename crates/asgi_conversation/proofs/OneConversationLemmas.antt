-- One conversation: the bytes read, the end of the input and the exchanges decide what is written, and how the connection ends.
use Rattle.std.proofs.Common.{◌≡◌, ℕ, Bool, true, false, List, [], ◌∷◌, ◌++◌, ◌⊎◌, inl, inr, refl, sym, ap, ◌∙◌, append-nil, subst, Option, Some, None}
use Rattle.asgi_types.specs.declared.end_kind.EndKind.{EndKind}
use Rattle.asgi_types.specs.declared.end_kind.EndKind.TheVariants as kind
use Rattle.asgi_types.specs.declared.limits.Limits.{Limits}
use Rattle.asgi_request.specs.declared.next.Next.TheVariants.{Bad}
use Rattle.asgi_request.specs.declared.refusal.Refusal.{Refusal}
use Rattle.asgi_request.specs.ChunkedBody.{BodyState, partial, complete, faulty}
use Rattle.asgi_request.specs.Refusals.{status_of}
use Rattle.asgi_request.specs.RequestEvents.{ReadsBody}
use Rattle.asgi_request.specs.Results.{RefusesHead, GivesResults}
use Rattle.asgi_request.proofs.BodyGrowthLemmas.{body_is_one}
use Rattle.asgi_request.proofs.ResultsLemmas.{unique_of}
use Rattle.asgi_request.proofs.StartLemmas.{begins_is_one}
use Rattle.asgi_response.specs.Exchange.{refusal_text}
use Rattle.asgi_response.specs.Progress.{progress_of}
use Rattle.asgi_response.specs.declared.progress.Progress.{Progress}
use Rattle.asgi_response.specs.declared.progress.Progress.TheVariants.{Nothing, Begun, Complete}
use Rattle.asgi_exchange.specs.ExchangeTexts.{input_of}
use Rattle.asgi_exchange.proofs.ListLemmas.{last_same}
use Rattle.asgi_conversation.specs.declared.report.Outcome.{Outcome}
use Rattle.asgi_conversation.specs.declared.report.Outcome.TheVariants.{Finished, Refused, InputBroke}
use Rattle.asgi_conversation.proofs.OutcomeLemmas.{IsWhole, AsFinished, AsRefused, AsInputBroke, is_whole, is_done}
use Rattle.asgi_conversation.specs.declared.report.Report.{Report}
use Rattle.asgi_conversation.specs.After.{NothingIsDue, IsBlank}
use Rattle.asgi_conversation.specs.declared.following.NextStep.{NextStep}
use Rattle.asgi_conversation.specs.declared.following.NextStep.TheVariants.{NextRequest, ConnectionEnds}
use Rattle.asgi_conversation.specs.declared.input.InputEnd.{InputEnd}
use Rattle.asgi_conversation.specs.declared.input.InputEnd.TheVariants.{AtEnd, Failed}
use Rattle.asgi_conversation.specs.OutcomeClasses.{is_cut}
use Rattle.asgi_conversation.specs.TaskEnds.{after_response, after_task}
use Rattle.asgi_conversation.specs.Exchanges.{ServesFirst, IsFollowed, out_text, AreAnswered, answer_texts}
use Rattle.asgi_conversation.specs.ExchangeRecord.{ExchangeRecord}
use Rattle.asgi_conversation.specs.Persistence.{EndsBetween}
use Rattle.asgi_conversation.specs.Kinds.{Ends, listed, Converses}

-- ---- a request

one_state : (limits : Limits) (end other : InputEnd) (cut short : Bool) (bytes : List ℕ) (x : ExchangeRecord) (a b : BodyState) → ServesFirst limits end cut bytes x a → ServesFirst limits other short bytes x b → a ≡ b
one_state limits end other cut short bytes x a b s t =
    let same = (begins_is_one limits bytes x.scope x.scope x.facts x.facts s.arrived t.arrived s.head t.head).2 in
    let body = subst (λ (l : List ℕ). ReadsBody limits x.facts.framing l t.events b) (sym same) t.body in
    (body_is_one limits x.facts.framing s.arrived s.events t.events a b s.body body).1

rest_of : (a b : List ℕ) → complete a ≡ complete b → a ≡ b
rest_of a b e = cc

one_after : (limits : Limits) (end other : InputEnd) (bytes : List ℕ) (exchanges : List ExchangeRecord) (a b : List ℕ) → AreAnswered limits end bytes exchanges a → AreAnswered limits other bytes exchanges b → a ≡ b
one_after limits end other bytes [] a b s t = sym s ∙ t
one_after limits end other bytes (x ∷ exchanges) a b s t =
    let same = rest_of s.0 t.0 (one_state limits end other false false bytes x (complete s.0) (complete t.0) s.1 t.1) in
    one_after limits end other s.0 exchanges a b s.3 (subst (λ (l : List ℕ). AreAnswered limits other l exchanges b) (sym same) t.3)

one_following : (x : ExchangeRecord) (state : BodyState) (a b : NextStep) → IsFollowed x state a → IsFollowed x state b → a ≡ b
one_following x state a b s t =
    let kinds : s.0 ≡ t.0 = cc (sym s.1 ∙ t.1) in
    sym s.2 ∙ ap (λ (k : EndKind). after_task k (progress_of x.facts x.said) state x.input_broke) kinds ∙ t.2

-- the last of the answered ones
record LastServed (limits : Limits) (end : InputEnd) (bytes : List ℕ) (exchanges : List ExchangeRecord) (x : ExchangeRecord) : Type 0 where
  pub middle : List ℕ
  pub rest : List ℕ
  pub each : AreAnswered limits end bytes exchanges middle
  pub serves : ServesFirst limits end false middle x (complete rest)
  pub follows : IsFollowed x (complete rest) NextRequest

last_served : (limits : Limits) (end : InputEnd) (bytes : List ℕ) (exchanges : List ExchangeRecord) (x : ExchangeRecord) (after : List ℕ) → AreAnswered limits end bytes (exchanges ++ x ∷ []) after
    → LastServed limits end bytes exchanges x
last_served limits end bytes [] x after a = record { middle = bytes; rest = a.0; each = refl; serves = a.1; follows = a.2 }
last_served limits end bytes (y ∷ exchanges) x after a =
    let l = last_served limits end a.0 exchanges x after a.3 in
    record { middle = l.middle; rest = l.rest; each = (a.0, a.1, a.2, l.each); serves = l.serves; follows = l.follows }

-- ---- between two requests

gives_refusal : (limits : Limits) (bytes : List ℕ) (why : Refusal) → RefusesHead limits bytes why → GivesResults limits bytes (Bad (status_of why) ∷ []) bytes
gives_refusal limits bytes why r = record { requests = []; after = bytes; last = Bad (status_of why) ∷ []; whole = refl; goes_on = inl (inr (inl (why, r, refl)), refl); results_are = refl }

never : (limits : Limits) (bytes : List ℕ) (why : Refusal) → RefusesHead limits bytes why → NothingIsDue limits bytes → ⊥
never limits bytes why r n =
    let e = unique_of limits limits.block_in_range.0 bytes (Bad (status_of why) ∷ []) [] bytes n.0 (gives_refusal limits bytes why r) n.1 in cc e

same_refusal : (limits : Limits) (bytes : List ℕ) (a b : Refusal) → RefusesHead limits bytes a → RefusesHead limits bytes b → status_of a ≡ status_of b
same_refusal limits bytes a b r s =
    let e = unique_of limits limits.block_in_range.0 bytes (Bad (status_of a) ∷ []) (Bad (status_of b) ∷ []) bytes bytes (gives_refusal limits bytes a r) (gives_refusal limits bytes b s) in cc e

not_both : (end : InputEnd) (bytes : List ℕ) → end ≡ AtEnd → IsBlank bytes → (end ≡ Failed) ⊎ ((end ≡ AtEnd) × ¬ (IsBlank bytes)) → ⊥
not_both end bytes e blank (inl f) = cc (sym e ∙ f)
not_both end bytes e blank (inr g) = g.1 blank

one_between : (limits : Limits) (end : InputEnd) (after : List ℕ) (o p : Outcome) (text other : List ℕ) → is_cut o ≡ false → is_cut p ≡ false
    → EndsBetween o limits end after text → EndsBetween p limits end after other → (o ≡ p) × (text ≡ other)
one_between limits end after o p text other c d x y = by (is_whole o c) (is_whole p d)
  where
    one : (q : Outcome) → o ≡ q → EndsBetween q limits end after text
    one q is = subst (λ (r : Outcome). EndsBetween r limits end after text) is x

    two : (q : Outcome) → p ≡ q → EndsBetween q limits end after other
    two q is = subst (λ (r : Outcome). EndsBetween r limits end after other) is y

    by : IsWhole o → IsWhole p → (o ≡ p) × (text ≡ other)
    by (AsFinished a) (AsFinished b) = (a ∙ sym b, (one Finished a).0 ∙ sym (two Finished b).0)
    by (AsFinished a) (AsRefused t b) = let f = one Finished a in let g = two (Refused t) b in absurd (never limits after g.0 g.1 f.1)
    by (AsFinished a) (AsInputBroke b) = let f = one Finished a in let g = two InputBroke b in absurd (not_both end after f.2 f.3 g.2)
    by (AsRefused s a) (AsFinished b) = let f = one (Refused s) a in let g = two Finished b in absurd (never limits after f.0 f.1 g.1)
    by (AsRefused s a) (AsRefused t b) =
        let f = one (Refused s) a in
        let g = two (Refused t) b in
        let same : s ≡ t = f.2 ∙ same_refusal limits after f.0 g.0 f.1 g.1 ∙ sym g.2 in
        (a ∙ ap (λ (n : ℕ). Refused n) same ∙ sym b, f.3 ∙ ap refusal_text same ∙ sym g.3)
    by (AsRefused s a) (AsInputBroke b) = let f = one (Refused s) a in let g = two InputBroke b in absurd (never limits after f.0 f.1 g.1)
    by (AsInputBroke a) (AsFinished b) = let f = one InputBroke a in let g = two Finished b in absurd (not_both end after g.2 g.3 f.2)
    by (AsInputBroke a) (AsRefused t b) = let f = one InputBroke a in let g = two (Refused t) b in absurd (never limits after g.0 g.1 f.1)
    by (AsInputBroke a) (AsInputBroke b) = (a ∙ sym b, (one InputBroke a).0 ∙ sym (two InputBroke b).0)

-- ---- in an exchange

outcome_of : (o p : Outcome) → ConnectionEnds o ≡ ConnectionEnds p → o ≡ p
outcome_of o p e = cc

apart : (o : Outcome) → ConnectionEnds o ≡ NextRequest → ⊥
apart o e = cc

-- answered and last split the same list: an exchange can't be both
clash : (limits : Limits) (end other : InputEnd) (read : List ℕ) (answered : List ExchangeRecord) (x : ExchangeRecord) (a b : List ℕ) (o : Outcome) (text : List ℕ) → is_cut o ≡ false
    → AreAnswered limits end read (answered ++ x ∷ []) a → AreAnswered limits other read answered b → Ends o limits other b (Some x) text → ⊥
clash limits end other read answered x a b o text c s t e =
    let l = last_served limits end read answered x a s in
    let same = one_after limits end other read answered l.middle b l.each t in
    let serves = subst (λ (m : List ℕ). ServesFirst limits end false m x (complete l.rest)) same l.serves in
    let states = one_state limits end other false (is_cut o) b x (complete l.rest) e.0 serves e.1 in
    let done = is_done o other x e.0 text c e.2 in
    apart o (one_following x e.0 (ConnectionEnds o) NextRequest done.0 (subst (λ (k : BodyState). IsFollowed x k NextRequest) states l.follows))

pub one_conversation : (limits : Limits) (end : InputEnd) (read : List ℕ) (exchanges : List ExchangeRecord) (written other : List ℕ) (report another : Report)
    → Converses limits end read exchanges written report → Converses limits end read exchanges other another → is_cut report.outcome ≡ false → is_cut another.outcome ≡ false
    → (written ≡ other) × (report.outcome ≡ another.outcome)
one_conversation limits end read exchanges written other report another c d uncut whole =
    by c.last d.last c.ends d.ends (sym c.in_order) (sym d.in_order)
  where
    joined : c.answered ≡ d.answered → (report.outcome ≡ another.outcome) × (c.text ≡ d.text) → (written ≡ other) × (report.outcome ≡ another.outcome)
    joined e f = (
      c.written_is ∙ ap (λ (l : List ExchangeRecord). answer_texts l ++ c.text) e ∙ ap (λ (l : List ℕ). answer_texts d.answered ++ l) f.1 ∙ sym d.written_is,
      f.0,
    )

    afters : c.answered ≡ d.answered → c.after ≡ d.after
    afters e = one_after limits end end read d.answered c.after d.after (subst (λ (l : List ExchangeRecord). AreAnswered limits end read l c.after) e c.each) d.each

    by : (l m : Option ExchangeRecord) → Ends report.outcome limits end c.after l c.text → Ends another.outcome limits end d.after m d.text
        → c.answered ++ listed l ≡ exchanges → d.answered ++ listed m ≡ exchanges → (written ≡ other) × (report.outcome ≡ another.outcome)
    by None None x y s t =
        let e = sym (append-nil c.answered) ∙ s ∙ sym t ∙ append-nil d.answered in
        joined e (one_between limits end d.after report.outcome another.outcome c.text d.text uncut whole
        (subst (λ (b : List ℕ). EndsBetween report.outcome limits end b c.text) (afters e) x) y)
    by None (Some v) x y s t = absurd (
        let e = sym (append-nil c.answered) ∙ s ∙ sym t in
        clash limits end end read d.answered v c.after d.after another.outcome d.text whole (subst (λ (l : List ExchangeRecord). AreAnswered limits end read l c.after) e c.each) d.each y)
    by (Some u) None x y s t = absurd (
        let e = sym (append-nil d.answered) ∙ t ∙ sym s in
        clash limits end end read c.answered u d.after c.after report.outcome c.text uncut (subst (λ (l : List ExchangeRecord). AreAnswered limits end read l d.after) e d.each) c.each x)
    by (Some u) (Some v) x y s t =
        let e = last_same c.answered d.answered u v (s ∙ sym t) in
        let same = afters e.0 in
        let X : ExchangeRecord → Type 0 = λ w. Ends report.outcome limits end d.after (Some w) c.text in
        let z = subst X e.1 (subst (λ (b : List ℕ). Ends report.outcome limits end b (Some u) c.text) same x) in
        let states = one_state limits end end (is_cut report.outcome) (is_cut another.outcome) d.after v z.0 y.0 z.1 y.1 in
        let p = is_done report.outcome end v z.0 c.text uncut z.2 in
        let q = is_done another.outcome end v y.0 d.text whole y.2 in
        let f = one_following v y.0 (ConnectionEnds report.outcome) (ConnectionEnds another.outcome)
        (subst (λ (k : BodyState). IsFollowed v k (ConnectionEnds report.outcome)) states p.0) q.0 in
        joined e.0 (outcome_of report.outcome another.outcome f, p.1 ∙ ap (λ (k : BodyState). out_text v (input_of k)) states ∙ sym q.1)

-- ---- what a next request requires

kept_follows : (input_broke : Bool) (p : Progress) (state : BodyState) → after_response p state input_broke ≡ NextRequest → (p ≡ Complete false) × ((after : List ℕ) × (state ≡ complete after))
kept_follows input_broke Nothing state e = cc
kept_follows input_broke Begun state e = cc
kept_follows input_broke (Complete true) state e = cc
kept_follows input_broke (Complete false) (complete after) e = (refl, (after, refl))
kept_follows input_broke (Complete false) partial e = cc
kept_follows input_broke (Complete false) (faulty why) e = cc

pub next_follows : (x : ExchangeRecord) (state : BodyState) → IsFollowed x state NextRequest → (progress_of x.facts x.said ≡ Complete false) × ((after : List ℕ) × (state ≡ complete after))
next_follows x state f = by f.0 f.2
  where
    by : (k : EndKind) → after_task k (progress_of x.facts x.said) state x.input_broke ≡ NextRequest → (progress_of x.facts x.said ≡ Complete false) × ((after : List ℕ) × (state ≡ complete after))
    by kind.Returned e = kept_follows x.input_broke (progress_of x.facts x.said) state e
    by kind.Faulted e = kept_follows x.input_broke (progress_of x.facts x.said) state e
    by kind.Idle e = cc
