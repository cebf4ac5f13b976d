-- One exchange whose task returned: the bytes determine what it sends and what comes next, and more bytes take its text further.
use Rattle.std.proofs.Common.{◌≡◌, ℕ, false, List, ◌++◌, sym, ap, ◌∙◌, subst, append-nil, Option, Some}
use mathlib.Core.List.{IsPrefix}
use Rattle.asgi_types.specs.declared.end_kind.EndKind.{EndKind}
use Rattle.asgi_types.specs.declared.end_kind.EndKind.TheVariants.{Returned}
use Rattle.asgi_types.specs.declared.facts.Facts.{Facts}
use Rattle.asgi_types.specs.declared.incoming.Incoming.{Incoming}
use Rattle.asgi_types.specs.declared.limits.Limits.{Limits}
use Rattle.asgi_types.specs.declared.outgoing.Outgoing.{Outgoing}
use Rattle.asgi_types.specs.declared.scope.Peer.{Peer}
use Rattle.asgi_types.specs.declared.state.StateValue.{StateValue}
use Rattle.asgi_request.specs.BodyGrowth.{StaysAs}
use Rattle.asgi_request.specs.ChunkedBody.{BodyState, partial, complete, faulty}
use Rattle.asgi_request.specs.Opened.{BeginsWith}
use Rattle.asgi_request.specs.RequestEvents.{ReadsBody}
use Rattle.asgi_request.proofs.BodyGrowthLemmas.{body_grows, body_is_one}
use Rattle.asgi_request.proofs.StartLemmas.{begins_grows, begins_is_one}
use Rattle.asgi_response.specs.declared.refusal.Input.{Input}
use Rattle.asgi_response.specs.declared.refusal.Input.TheVariants as input
use Rattle.asgi_response.specs.Exchange.{added_by_end, exchange_text}
use Rattle.asgi_response.specs.Response.{response_text}
use Rattle.asgi_response.proofs.EndLemmas.{added_text_only_grows}
use Rattle.asgi_exchange.specs.ExchangeTexts.{input_of}
use Rattle.asgi_exchange.specs.ExchangeTexts.{text_of}
use Rattle.asgi_exchange.proofs.ListLemmas.{prefix_front}
use Rattle.asgi_pipes.proofs.PrefixLemmas.{prefix_trans, prefix_same}
use Rattle.asgi_apps.specs.Promises.{Promise}
use Rattle.asgi_conversation.specs.declared.input.InputEnd.{InputEnd}
use Rattle.asgi_conversation.specs.Exchanges.{ServesFirst, out_text}
use Rattle.asgi_conversation.specs.ExchangeRecord.{ExchangeRecord}
use Rattle.asgi_conversation.specs.Promised.{IsPromised}
use Rattle.asgi_conversation.proofs.SoFarLemmas.{text_front}
use Rattle.asgi_conversation.proofs.ToldLemmas.{next_for, Told, SaysOf}

-- the bytes begin with its request, and the task sent what the events of the body ask for
pub record Served (say : List Incoming → List Outgoing) (limits : Limits) (bytes : List ℕ) (x : ExchangeRecord) (state : BodyState) : Type 0 where
  pub arrived : List ℕ
  pub events : List Incoming
  pub head : BeginsWith limits bytes x.scope x.facts arrived
  pub body : ReadsBody limits x.facts.framing arrived events state
  pub ended : x.ended ≡ Some Returned
  pub told : Told x (say events) state

pub served : (answers : Promise) (say : List Incoming → List Outgoing) → SaysOf answers say
    → (limits : Limits) (end : InputEnd) (bytes : List ℕ) (x : ExchangeRecord) (state : BodyState) (client server : Option Peer) (values : List (List ℕ × StateValue))
    → ServesFirst limits end false bytes x state → x.ended ≡ Some Returned → IsPromised answers client server values x → Served say limits bytes x state
served answers say law limits end bytes x state client server values s r p = record {
  arrived = s.arrived;
  events = s.events;
  head = s.head;
  body = s.body;
  ended = r;
  told = law.tells limits end bytes x state client server values s r p;
}

-- its text
told_text : (x : ExchangeRecord) (said : List Outgoing) (state : BodyState) (input : Input) → x.ended ≡ Some Returned → Told x said state → out_text x input ≡ exchange_text x.facts said Returned input
told_text x said state input r t =
    ap (λ (o : Option EndKind). text_of x.facts x.said o input) r ∙ ap (λ (l : List Outgoing). exchange_text x.facts l Returned input) t.said_is

-- ---- the same bytes

pub record AreSame (say : List Incoming → List Outgoing) (x y : ExchangeRecord) (events others : List Incoming) (state other : BodyState) : Type 0 where
  pub states : state ≡ other
  pub text : out_text x (input_of state) ≡ out_text y (input_of other)
  pub next : next_for x.facts (say events) state ≡ next_for y.facts (say others) other

pub same_served : (say : List Incoming → List Outgoing) (limits : Limits) (bytes : List ℕ) (x y : ExchangeRecord) (state other : BodyState)
    → (s : Served say limits bytes x state) (t : Served say limits bytes y other) → AreSame say x y s.events t.events state other
same_served say limits bytes x y state other s t =
    let heads = begins_is_one limits bytes x.scope y.scope x.facts y.facts s.arrived t.arrived s.head t.head in
    let facts : x.facts ≡ y.facts = heads.1 in
    let body = subst (λ (f : Facts). ReadsBody limits f.framing t.arrived t.events other) (sym facts) t.body in
    let bodies = body_is_one limits x.facts.framing s.arrived s.events t.events state other s.body
    (subst (λ (l : List ℕ). ReadsBody limits x.facts.framing l t.events other) (sym heads.2) body) in
    record {
      states = bodies.1;
      text = told_text x (say s.events) state (input_of state) s.ended s.told
          ∙ ap (λ (f : Facts). exchange_text f (say s.events) Returned (input_of state)) facts
          ∙ ap (λ (l : List Incoming). exchange_text y.facts (say l) Returned (input_of state)) bodies.0
          ∙ ap (λ (k : BodyState). exchange_text y.facts (say t.events) Returned (input_of k)) bodies.1
          ∙ sym (told_text y (say t.events) other (input_of other) t.ended t.told);
      next = ap (λ (f : Facts). next_for f (say s.events) state) facts
          ∙ ap (λ (l : List Incoming). next_for y.facts (say l) state) bodies.0
          ∙ ap (λ (k : BodyState). next_for y.facts (say t.events) k) bodies.1;
    }

-- ---- more bytes

-- what the request of more bytes has in common with that of fewer
pub record GoesOn (say : List Incoming → List Outgoing) (more : List ℕ) (x y : ExchangeRecord) (events others : List Incoming) (state other : BodyState) : Type 0 where
  pub facts : x.facts ≡ y.facts
  pub first : IsPrefix events others
  pub stays : StaysAs state more events others other

goes_on : (say : List Incoming → List Outgoing) (limits : Limits) (bytes more : List ℕ) (x y : ExchangeRecord) (state other : BodyState)
    → (s : Served say limits bytes x state) (t : Served say limits (bytes ++ more) y other) → GoesOn say more x y s.events t.events state other
goes_on say limits bytes more x y state other s t =
    let heads = begins_is_one limits (bytes ++ more) x.scope y.scope x.facts y.facts (s.arrived ++ more) t.arrived (begins_grows limits bytes more x.scope x.facts s.arrived s.head) t.head in
    let facts : x.facts ≡ y.facts = heads.1 in
    let body = subst (λ (f : Facts). ReadsBody limits f.framing t.arrived t.events other) (sym facts) t.body in
    let grown = body_grows limits x.facts.framing s.arrived more s.events t.events state other s.body
    (subst (λ (l : List ℕ). ReadsBody limits x.facts.framing l t.events other) (sym heads.2) body) in
    record { facts = facts; first = grown.first; stays = grown.stays }

module _ (say : List Incoming → List Outgoing) (limits : Limits) (bytes more : List ℕ) (x y : ExchangeRecord) where
  same_text : (state : BodyState) (other : BodyState) (s : Served say limits bytes x state) (t : Served say limits (bytes ++ more) y other) (i : Input)
      → x.facts ≡ y.facts → t.events ≡ s.events → out_text x i ≡ out_text y i
  same_text state other s t i facts events =
      told_text x (say s.events) state i s.ended s.told
      ∙ ap (λ (f : Facts). exchange_text f (say s.events) Returned i) facts
      ∙ ap (λ (l : List Incoming). exchange_text y.facts (say l) Returned i) (sym events)
      ∙ sym (told_text y (say t.events) other i t.ended t.told)

  -- a request that is whole stays so, with its text and what comes next
  pub whole_stays : (rest : List ℕ) (other : BodyState) (s : Served say limits bytes x (complete rest)) (t : Served say limits (bytes ++ more) y other)
      → (other ≡ complete (rest ++ more)) × (out_text x input.Whole ≡ out_text y input.Whole)
      × (next_for x.facts (say s.events) (complete rest) ≡ next_for y.facts (say t.events) (complete rest))
  whole_stays rest other s t =
      let g = goes_on say limits bytes more x y (complete rest) other s t in (
        g.stays.1,
        same_text (complete rest) other s t input.Whole g.facts g.stays.0,
        ap (λ (f : Facts). next_for f (say s.events) (complete rest)) g.facts
            ∙ ap (λ (l : List Incoming). next_for y.facts (say l) (complete rest)) (sym g.stays.0),
      )

  -- the text of a request, as far as it has come, is a prefix of that of more of it
  pub text_goes_on : ((events others : List Incoming) → IsPrefix events others → IsPrefix (say events) (say others)) → (state other : BodyState)
      → Served say limits bytes x state → Served say limits (bytes ++ more) y other → IsPrefix (out_text x (input_of state)) (out_text y (input_of other))
  text_goes_on grows (complete rest) other s t =
      let w = whole_stays rest other s t in
      prefix_same (out_text x input.Whole) (out_text y (input_of other)) (w.1 ∙ ap (λ (k : BodyState). out_text y (input_of k)) (sym w.0))
  text_goes_on grows (faulty why) other s t =
      let g = goes_on say limits bytes more x y (faulty why) other s t in
      prefix_same (out_text x (input_of (faulty why))) (out_text y (input_of other))
      (same_text (faulty why) other s t (input_of (faulty why)) g.facts g.stays.0 ∙ ap (λ (k : BodyState). out_text y (input_of k)) (sym g.stays.1))
  text_goes_on grows partial other s t =
      let g = goes_on say limits bytes more x y partial other s t in
      let here : out_text x input.Broken ≡ response_text y.facts (say s.events) =
      told_text x (say s.events) partial input.Broken s.ended s.told
      ∙ ap (λ (l : List ℕ). response_text x.facts (say s.events) ++ l) (added_text_only_grows.none x.facts (say s.events) Returned)
      ∙ append-nil (response_text x.facts (say s.events))
      ∙ ap (λ (f : Facts). response_text f (say s.events)) g.facts in
      let there = prefix_trans (response_text y.facts (say s.events)) (response_text y.facts (say t.events)) (exchange_text y.facts (say t.events) Returned (input_of other))
      (text_front y.facts (say s.events) (say t.events) (grows s.events t.events g.first))
      (prefix_front (response_text y.facts (say t.events)) (added_by_end y.facts (say t.events) Returned (input_of other))) in
      let P : List ℕ → Type 0 = λ l. IsPrefix l (out_text y (input_of other)) in
      let Q : List ℕ → Type 0 = λ l. IsPrefix (response_text y.facts (say s.events)) l in
      subst P (sym here) (subst Q (sym (told_text y (say t.events) other (input_of other) t.ended t.told)) there)

-- ---- the events of its body, whatever else is known of them

pub said_of_body : (answers : Promise) (say : List Incoming → List Outgoing) → SaysOf answers say
    → (limits : Limits) (end : InputEnd) (bytes : List ℕ) (x : ExchangeRecord) (state : BodyState) (client server : Option Peer) (values : List (List ℕ × StateValue))
    (arrived : List ℕ) (events : List Incoming)
    → ServesFirst limits end false bytes x state → IsPromised answers client server values x → x.ended ≡ Some Returned
    → BeginsWith limits bytes x.scope x.facts arrived → ReadsBody limits x.facts.framing arrived events state → x.said ≡ say events
said_of_body answers say law limits end bytes x state client server values arrived events s p r head body =
    let told = law.tells limits end bytes x state client server values s r p in
    let same = (begins_is_one limits bytes x.scope x.scope x.facts x.facts s.arrived arrived s.head head).2 in
    let one = body_is_one limits x.facts.framing s.arrived s.events events state state s.body (subst (λ (l : List ℕ). ReadsBody limits x.facts.framing l events state) (sym same) body) in
    told.said_is ∙ ap say one.0
