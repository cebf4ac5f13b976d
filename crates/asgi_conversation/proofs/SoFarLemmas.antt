-- More bytes, one more exchange, and the end make a conversation.
use Rattle.std.proofs.Common.{◌≡◌, ℕ, Bool, true, false, List, [], ◌∷◌, ◌++◌, ◌⊎◌, inl, inr, refl, sym, ap, ◌∙◌, append-nil, subst, Option, Some, None}
use mathlib.Core.List.{IsPrefix}
use Rattle.asgi_types.specs.declared.end_kind.EndKind.{EndKind}
use Rattle.asgi_types.specs.declared.facts.Facts.{Facts}
use Rattle.asgi_types.specs.declared.incoming.Incoming.{Incoming}
use Rattle.asgi_types.specs.declared.limits.Limits.{Limits}
use Rattle.asgi_types.specs.declared.outgoing.Outgoing.{Outgoing}
use Rattle.asgi_types.specs.declared.scope.Scope.{Scope}
use Rattle.asgi_types.specs.declared.scope.Kind.TheVariants.{Http}
use Rattle.asgi_protocol.specs.Lawful.{IsClosed}
use Rattle.asgi_request.specs.ChunkedBody.{BodyState, complete}
use Rattle.asgi_request.specs.Opened.{BeginsWith}
use Rattle.asgi_request.specs.RequestEvents.{ReadsBody}
use Rattle.asgi_request.proofs.BodyGrowthLemmas.{body_is_one}
use Rattle.asgi_request.proofs.StartLemmas.{begins_grows}
use Rattle.asgi_response.specs.Exchange.{added_by_end}
use Rattle.asgi_response.specs.Response.{response_text}
use Rattle.asgi_response.proofs.LawLemmas.{text_grows}
use Rattle.asgi_exchange.specs.ExchangeTexts.{input_of}
use Rattle.asgi_exchange.specs.HttpExchange.{HasCause, IsHttpExchange}
use Rattle.asgi_exchange.specs.ExchangeTexts.{text_of}
use Rattle.asgi_exchange.specs.Items.{end_of}
use Rattle.asgi_exchange.specs.Steps.{is_by_input}
use Rattle.asgi_exchange.specs.Views.{World, said_of, taken_of}
use Rattle.asgi_exchange.proofs.ListLemmas.{prefix_front}
use Rattle.asgi_pipes.proofs.PrefixLemmas.{prefix_trans}
use Rattle.asgi_conversation.specs.declared.report.Outcome.{Outcome}
use Rattle.asgi_conversation.specs.declared.report.Outcome.TheVariants.{InputBroke, WriteFailed}
use Rattle.asgi_conversation.proofs.OutcomeLemmas.{failed_write, cut_short}
use Rattle.asgi_conversation.specs.declared.report.Report.{Report}
use Rattle.asgi_conversation.specs.declared.following.NextStep.TheVariants.{NextRequest, ConnectionEnds}
use Rattle.asgi_conversation.specs.declared.input.InputEnd.{InputEnd}
use Rattle.asgi_conversation.specs.OutcomeClasses.{OutcomeClass, Uncut, ByWrite, GivenUp, Lacking, Unbegun, class_of, is_cut, is_cut_class, cuts_exchange, cuts_exchange_class}
use Rattle.asgi_conversation.specs.TaskEnds.{has_ended, is_faulty}
use Rattle.asgi_conversation.specs.Exchanges.{ServesFirst, IsFollowed, out_text, answer_texts}
use Rattle.asgi_conversation.specs.ExchangeRecord.{ExchangeRecord}
use Rattle.asgi_conversation.specs.Persistence.{EndsBetween, StopsWithin, EndsWithin, EndsWithinAs, CountsExchanges}
use Rattle.asgi_conversation.specs.Kinds.{Converses}
use Rattle.asgi_conversation.specs.SoFar.{SoFar, InOne, exchanged, HasBroken, IsCutBy, IsOut}
use Rattle.asgi_conversation.proofs.AnsweredLemmas.{answered_grow, answered_end, answered_more, texts_more}

-- ---- what is so far

pub start : (limits : Limits) (end : InputEnd) → SoFar limits end [] [] [] []
start limits end = record { each = refl; written_is = refl }

pub grows : (limits : Limits) (end : InputEnd) (read more : List ℕ) (exchanges : List ExchangeRecord) (after written : List ℕ)
    → SoFar limits end read exchanges after written → SoFar limits end (read ++ more) exchanges (after ++ more) written
grows limits end read more exchanges after written s = record { each = answered_grow limits end read more exchanges after s.each; written_is = s.written_is }

pub sees_end : (limits : Limits) (old new : InputEnd) (read : List ℕ) (exchanges : List ExchangeRecord) (after written : List ℕ) → (has_ended old ≡ true → has_ended new ≡ true)
    → SoFar limits old read exchanges after written → SoFar limits new read exchanges after written
sees_end limits old new read exchanges after written on s = record { each = answered_end limits old new read exchanges after on s.each; written_is = s.written_is }

pub one_grows : (limits : Limits) (end : InputEnd) (read more : List ℕ) (exchanges : List ExchangeRecord) (written : List ℕ) (scope : Scope) (facts : Facts) (arrived : List ℕ)
    → InOne limits end read exchanges written scope facts arrived → InOne limits end (read ++ more) exchanges written scope facts (arrived ++ more)
one_grows limits end read more exchanges written scope facts arrived o = record {
  after = o.after ++ more;
  so_far = grows limits end read more exchanges o.after written o.so_far;
  head = begins_grows limits o.after more scope facts arrived o.head;
}

-- ---- what the law of one exchange gives

cause_of : (w : World ℕ ℕ) (events first : List Incoming) (cut : Bool) → IsCutBy cut w → HasCause w events first
    → IsClosed Http (said_of w.app) ⊎ (((is_by_input w.conn.broken ≡ true) × (first ≡ events)) ⊎ (cut ≡ true))
cause_of w events first cut on (inl c) = inl c
cause_of w events first cut on (inr (inl c)) = inr (inl (ap is_by_input c.0, c.1))
cause_of w events first cut on (inr (inr b)) = inr (inr (on b))

pub serves_of : (limits : Limits) (end : InputEnd) (cut : Bool) (after : List ℕ) (scope : Scope) (facts : Facts) (w : World ℕ ℕ) (events : List Incoming) (state : BodyState)
    → BeginsWith limits after scope facts w.conn.arrived → IsHttpExchange limits facts w → ReadsBody limits facts.framing w.conn.arrived events state
    → HasBroken end w state → IsCutBy cut w → ServesFirst limits end cut after (exchanged scope facts w) state
serves_of limits end cut after scope facts w events state b i body input_broke on =
    let one = body_is_one limits facts.framing w.conn.arrived i.events events i.state state i.body body in
    record {
      arrived = w.conn.arrived;
      events = i.events;
      head = b;
      body = subst (λ (l : List Incoming). ReadsBody limits facts.framing w.conn.arrived l state) (sym one.0) body;
      hears = record {
        first = i.first;
        times = i.times;
        in_order = i.heard;
        due = i.due;
        cause = elim i.cause [ inl none ↦ inl none | inr c ↦ inr (cause_of w i.events i.first cut on c) ];
      };
      lawful = i.lawful;
      breaks = input_broke;
    }

pub taken_whole : (limits : Limits) (facts : Facts) (w : World ℕ ℕ) (kind : EndKind) → IsHttpExchange limits facts w → end_of w.conn.got ≡ Some kind → taken_of w.conn ≡ said_of w.app
taken_whole limits facts w kind i e = i.ended (λ none. cc (sym e ∙ none))

pub end_put : (limits : Limits) (facts : Facts) (w : World ℕ ℕ) (kind : EndKind) → IsHttpExchange limits facts w → end_of w.conn.got ≡ Some kind → end_of w.app.put ≡ Some kind
end_put limits facts w kind i e = sym (i.end_is (λ none. cc (sym e ∙ none))) ∙ e

-- once the end was taken, what was taken is the exchange, and so is its text
pub out_is : (limits : Limits) (scope : Scope) (facts : Facts) (w : World ℕ ℕ) (kind : EndKind) (state : BodyState) → IsHttpExchange limits facts w → end_of w.conn.got ≡ Some kind
    → text_of facts (taken_of w.conn) (end_of w.conn.got) (input_of state) ≡ out_text (exchanged scope facts w) (input_of state)
out_is limits scope facts w kind state i e =
    ap (λ (l : List Outgoing). text_of facts l (end_of w.conn.got) (input_of state)) (taken_whole limits facts w kind i e)
    ∙ ap (λ (o : Option EndKind). text_of facts (said_of w.app) o (input_of state)) (e ∙ sym (end_put limits facts w kind i e))

-- ---- one more

pub one_more : (limits : Limits) (end : InputEnd) (read : List ℕ) (exchanges : List ExchangeRecord) (written : List ℕ) (scope : Scope) (facts : Facts) (w : World ℕ ℕ) (kind : EndKind) (events : List Incoming) (after : List ℕ)
    → InOne limits end read exchanges written scope facts w.conn.arrived → IsHttpExchange limits facts w → end_of w.conn.got ≡ Some kind
    → ReadsBody limits facts.framing w.conn.arrived events (complete after) → HasBroken end w (complete after) → IsCutBy false w
    → IsFollowed (exchanged scope facts w) (complete after) NextRequest → IsOut facts w (complete after)
    → SoFar limits end read (exchanges ++ exchanged scope facts w ∷ []) after (written ++ w.conn.written)
one_more limits end read exchanges written scope facts w kind events after o i e body input_broke uncut f out =
    let s = o.so_far in
    let x = exchanged scope facts w in
    record {
      each = answered_more limits end read exchanges o.after x after s.each
          (serves_of limits end false o.after scope facts w events (complete after) o.head i body input_broke uncut) f;
      written_is =
          ap (λ (l : List ℕ). l ++ w.conn.written) s.written_is
          ∙ ap (λ (l : List ℕ). answer_texts exchanges ++ l) (out ∙ out_is limits scope facts w kind (complete after) i e)
          ∙ sym (texts_more exchanges x);
    }

-- ---- the ends

pub ends_between : (limits : Limits) (end : InputEnd) (read : List ℕ) (exchanges : List ExchangeRecord) (after written text : List ℕ) (report : Report)
    → SoFar limits end read exchanges after written → EndsBetween report.outcome limits end after text → CountsExchanges report exchanges
    → Converses limits end read exchanges (written ++ text) report
ends_between limits end read exchanges after written text report s e c = record {
  answered = exchanges;
  last = None;
  in_order = sym (append-nil exchanges);
  after = after;
  each = s.each;
  text = text;
  ends = e;
  written_is = ap (λ (l : List ℕ). l ++ text) s.written_is;
  counts = c;
}

ends_in : (limits : Limits) (end : InputEnd) (read : List ℕ) (exchanges : List ExchangeRecord) (after written : List ℕ) (x : ExchangeRecord) (state : BodyState) (text : List ℕ) (report : Report)
    → SoFar limits end read exchanges after written → ServesFirst limits end (is_cut report.outcome) after x state → EndsWithin report.outcome end x state text
    → CountsExchanges report (exchanges ++ x ∷ []) → Converses limits end read (exchanges ++ x ∷ []) (written ++ text) report
ends_in limits end read exchanges after written x state text report s serves e c = record {
  answered = exchanges;
  last = Some x;
  in_order = refl;
  after = after;
  each = s.each;
  text = text;
  ends = (state, serves, e);
  written_is = ap (λ (l : List ℕ). l ++ text) s.written_is;
  counts = c;
}

done : (outcome : Outcome) (end : InputEnd) (x : ExchangeRecord) (state : BodyState) (text : List ℕ) → IsFollowed x state (ConnectionEnds outcome) → text ≡ out_text x (input_of state)
    → is_cut outcome ≡ false → (outcome ≡ InputBroke → (has_ended end ≡ true) ⊎ (is_faulty state ≡ true)) → EndsWithin outcome end x state text
done outcome end x state text f out uncut input_broke = by (class_of outcome) uncut
  where
    by : (k : OutcomeClass) → is_cut_class k ≡ false → EndsWithinAs k outcome end x state text
    by Uncut c = ((f, out), input_broke)
    by (ByWrite n) c = absurd (cc)
    by GivenUp c = absurd (cc)
    by Lacking c = absurd (cc)
    by Unbegun c = absurd (cc)

-- the end of the task decides, and all is out
pub ends_by_task : (limits : Limits) (end : InputEnd) (read : List ℕ) (exchanges : List ExchangeRecord) (written : List ℕ) (scope : Scope) (facts : Facts) (w : World ℕ ℕ) (kind : EndKind) (events : List Incoming)
    (state : BodyState) (report : Report)
    → InOne limits end read exchanges written scope facts w.conn.arrived → IsHttpExchange limits facts w → end_of w.conn.got ≡ Some kind
    → ReadsBody limits facts.framing w.conn.arrived events state → HasBroken end w state → IsCutBy false w
    → IsFollowed (exchanged scope facts w) state (ConnectionEnds report.outcome) → IsOut facts w state
    → is_cut report.outcome ≡ false → (report.outcome ≡ InputBroke → (has_ended end ≡ true) ⊎ (is_faulty state ≡ true))
    → CountsExchanges report (exchanges ++ exchanged scope facts w ∷ [])
    → Converses limits end read (exchanges ++ exchanged scope facts w ∷ []) (written ++ w.conn.written) report
ends_by_task limits end read exchanges written scope facts w kind events state report o i e body input_broke by_cut f out uncut why c =
    ends_in limits end read exchanges o.after written (exchanged scope facts w) state w.conn.written report o.so_far
    (subst (λ (b : Bool). ServesFirst limits end b o.after (exchanged scope facts w) state) (sym uncut)
    (serves_of limits end false o.after scope facts w events state o.head i body input_broke by_cut))
    (done report.outcome end (exchanged scope facts w) state w.conn.written f (out ∙ out_is limits scope facts w kind state i e) uncut why) c

-- ---- a connection that is cut short

pub text_front : (facts : Facts) (taken said : List Outgoing) → IsPrefix taken said → IsPrefix (response_text facts taken) (response_text facts said)
text_front facts taken said p = let g = text_grows facts taken p.0 in (g.0, sym g.1 ∙ ap (response_text facts) p.1)

-- the text of the events comes first, whether the task ended or not
pub response_first : (x : ExchangeRecord) (state : BodyState) → IsPrefix (response_text x.facts x.said) (out_text x (input_of state))
response_first x state = by x.ended
  where
    by : (o : Option EndKind) → IsPrefix (response_text x.facts x.said) (text_of x.facts x.said o (input_of state))
    by None = ([], append-nil (response_text x.facts x.said))
    by (Some kind) = prefix_front (response_text x.facts x.said) (added_by_end x.facts x.said kind (input_of state))

-- what was written is a prefix of all that is to be written for the exchange
pub written_front : (limits : Limits) (scope : Scope) (facts : Facts) (w : World ℕ ℕ) (events : List Incoming) (state : BodyState) → IsHttpExchange limits facts w
    → ReadsBody limits facts.framing w.conn.arrived events state → IsPrefix w.conn.written (out_text (exchanged scope facts w) (input_of state))
written_front limits scope facts w events state i body =
    let one = body_is_one limits facts.framing w.conn.arrived i.events events i.state state i.body body in
    let P : BodyState → Type 0 = λ s. IsPrefix w.conn.written (text_of facts (taken_of w.conn) (end_of w.conn.got) (input_of s)) in
    by (end_of w.conn.got) refl (subst P one.1 i.written)
  where
    by : (o : Option EndKind) → end_of w.conn.got ≡ o → IsPrefix w.conn.written (text_of facts (taken_of w.conn) (end_of w.conn.got) (input_of state))
        → IsPrefix w.conn.written (out_text (exchanged scope facts w) (input_of state))
    by None e p =
        let F : Option EndKind → Type 0 = λ o. IsPrefix w.conn.written (text_of facts (taken_of w.conn) o (input_of state)) in
        let said : IsPrefix w.conn.written (response_text facts (said_of w.app)) =
        prefix_trans w.conn.written (response_text facts (taken_of w.conn)) (response_text facts (said_of w.app)) (subst F e p) (text_front facts (taken_of w.conn) (said_of w.app) i.taken) in
        prefix_trans w.conn.written (response_text facts (said_of w.app)) (out_text (exchanged scope facts w) (input_of state)) said (response_first (exchanged scope facts w) state)
    by (Some kind) e p = subst (λ (l : List ℕ). IsPrefix w.conn.written l) (out_is limits scope facts w kind state i e) p

-- a write, a limit or want of memory cut the connection short
pub ends_cut : (limits : Limits) (end : InputEnd) (read : List ℕ) (exchanges : List ExchangeRecord) (written : List ℕ) (scope : Scope) (facts : Facts) (w : World ℕ ℕ) (events : List Incoming)
    (state : BodyState) (report : Report)
    → InOne limits end read exchanges written scope facts w.conn.arrived → IsHttpExchange limits facts w
    → ReadsBody limits facts.framing w.conn.arrived events state → HasBroken end w state → cuts_exchange report.outcome ≡ true
    → ((n : ℕ) → report.outcome ≡ WriteFailed n → StopsWithin n (exchanged scope facts w) (input_of state) w.conn.written)
    → CountsExchanges report (exchanges ++ exchanged scope facts w ∷ [])
    → Converses limits end read (exchanges ++ exchanged scope facts w ∷ []) (written ++ w.conn.written) report
ends_cut limits end read exchanges written scope facts w events state report o i body input_broke cut stops c =
    ends_in limits end read exchanges o.after written (exchanged scope facts w) state w.conn.written report o.so_far
    (subst (λ (b : Bool). ServesFirst limits end b o.after (exchanged scope facts w) state) (sym (cut_short report.outcome cut))
    (serves_of limits end true o.after scope facts w events state o.head i body input_broke (λ b. refl)))
    (by (class_of report.outcome) refl cut) c
  where
    front : IsPrefix w.conn.written (out_text (exchanged scope facts w) (input_of state))
    front = written_front limits scope facts w events state i body

    by : (k : OutcomeClass) → class_of report.outcome ≡ k → cuts_exchange_class k ≡ true → EndsWithinAs k report.outcome end (exchanged scope facts w) state w.conn.written
    by Uncut is cut = absurd (cc (cut))
    by (ByWrite n) is cut = stops n (failed_write report.outcome n is)
    by GivenUp is cut = front
    by Lacking is cut = front
    by Unbegun is cut = absurd (cc (cut))
