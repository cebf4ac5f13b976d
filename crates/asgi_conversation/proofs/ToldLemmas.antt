-- If a task of `Echo`, `Hello` or `WsEcho` returned and the connection was not cut short, what it sent is a function of the
-- events of the body, and so is what comes next.
use Rattle.std.proofs.Common.{◌≡◌, ℕ, Bool, true, false, List, [], ◌∷◌, ◌++◌, ◌⊎◌, inl, inr, map, refl, sym, ap, ◌∙◌, subst, append-nil, Option, Some, zero, suc}
use Rattle.std.specs.Prelude.{replicate, codes}
use mathlib.Core.List.{IsPrefix}
use Rattle.asgi_types.specs.Scopes.{scope_with}
use Rattle.asgi_types.specs.declared.end_kind.EndKind.{EndKind}
use Rattle.asgi_types.specs.declared.end_kind.EndKind.TheVariants.{Returned}
use Rattle.asgi_types.specs.declared.facts.Facts.{Facts}
use Rattle.asgi_types.specs.declared.incoming.Incoming.{Incoming}
use Rattle.asgi_types.specs.declared.incoming.Incoming.TheVariants.{HttpDisconnect}
use Rattle.asgi_types.specs.declared.limits.Limits.{Limits}
use Rattle.asgi_types.specs.declared.outgoing.Outgoing.{Outgoing}
use Rattle.asgi_types.specs.declared.outgoing.Outgoing.TheVariants.{ResponseBody}
use Rattle.asgi_types.specs.declared.scope.Kind.TheVariants as scope_kind
use Rattle.asgi_types.specs.declared.scope.Peer.{Peer}
use Rattle.asgi_types.specs.declared.scope.Scope.{Scope}
use Rattle.asgi_types.specs.declared.state.StateValue.{StateValue}
use Rattle.asgi_protocol.specs.Lawful.{IsClosed, trailer_events}
use Rattle.asgi_request.specs.ChunkedBody.{BodyState, partial, complete, faulty}
use Rattle.asgi_request.specs.RequestEvents.{more_event}
use Rattle.asgi_request.proofs.OpenedLemmas.{http_scope}
use Rattle.asgi_response.specs.Progress.{closes_after, progress_in, progress_of}
use Rattle.asgi_response.specs.declared.progress.Progress.{Progress}
use Rattle.asgi_response.specs.declared.progress.Progress.TheVariants.{Nothing, Begun, Complete}
use Rattle.asgi_response.proofs.LawfulLemmas.{lawful_is_accepted}
use Rattle.asgi_pipes.proofs.PrefixLemmas.{prefix_self}
use Rattle.asgi_apps.specs.Answers.{start_of, hello_events, not_found_events}
use Rattle.asgi_apps.specs.Echo.{bodies_of, echo_events, ends_request, HeardAll}
use Rattle.asgi_apps.proofs.AnswerLemmas.{text_is_lawful, not_found_is_lawful}
use Rattle.asgi_apps.proofs.EchoLemmas.{bodies-append}
use Rattle.asgi_apps.specs.Promises.{Promise}
use Rattle.asgi_conversation.specs.declared.following.NextStep.{NextStep}
use Rattle.asgi_conversation.specs.declared.input.InputEnd.{InputEnd}
use Rattle.asgi_conversation.specs.TaskEnds.{after_response, after_task}
use Rattle.asgi_conversation.specs.Exchanges.{ServesFirst, IsFollowed}
use Rattle.asgi_conversation.specs.ExchangeRecord.{ExchangeRecord}
use Rattle.asgi_conversation.specs.Promised.{task_end, IsPromised}
use Rattle.asgi_conversation.specs.PromisedWhole.{echo_promise, hello_promise, ws_echo_promise}
use Rattle.asgi_conversation.proofs.BodyShapeLemmas.{AreParts, body_shape, front_or_all, open_parts}

-- ---- what is to be shown of an application

-- what comes after a task that returned and sent this
abbrev pub next_for : Facts → List Outgoing → BodyState → NextStep
next_for facts said state = after_response (progress_of facts said) state true

-- the exchange sent this, and what comes next is a function of it
pub record Told (x : ExchangeRecord) (said : List Outgoing) (state : BodyState) : Type 0 where
  pub said_is : x.said ≡ said
  pub next : (next : NextStep) → IsFollowed x state next → next ≡ next_for x.facts said state

-- what is sent is a function of the events of the body, and goes on if these go on
pub record SaysOf (answers : Promise) (say : List Incoming → List Outgoing) : Type 0 where
  pub tells : (limits : Limits) (end : InputEnd) (bytes : List ℕ) (x : ExchangeRecord) (state : BodyState) (client server : Option Peer) (values : List (List ℕ × StateValue))
      → (s : ServesFirst limits end false bytes x state) → x.ended ≡ Some Returned → IsPromised answers client server values x → Told x (say s.events) state
  pub grows : (events others : List Incoming) → IsPrefix events others → IsPrefix (say events) (say others)

-- the promise, if the task returned: the scope is that of a request
returned : (answers : Promise) (client server : Option Peer) (values : List (List ℕ × StateValue)) (x : ExchangeRecord) (scope : Scope)
    → x.scope ≡ scope → x.ended ≡ Some Returned → IsPromised answers client server values x → answers (scope_with scope client server values) x.heard x.said (Some Returned)
returned answers client server values x scope e r p =
    let A : Scope → Type 0 = λ s. answers (scope_with s client server values) x.heard x.said (Some Returned) in
    let E : Option EndKind → Type 0 = λ k. answers (scope_with x.scope client server values) x.heard x.said (task_end k) in
    subst A e (subst E r p)

followed : (x : ExchangeRecord) (state : BodyState) (next : NextStep) → x.ended ≡ Some Returned → IsFollowed x state next → after_response (progress_of x.facts x.said) state x.input_broke ≡ next
followed x state next r f =
    let kinds : f.0 ≡ Returned = cc (sym f.1 ∙ r) in
    sym (ap (λ (k : EndKind). after_task k (progress_of x.facts x.said) state x.input_broke) kinds) ∙ f.2

-- ---- one whole response, whatever the request is: Hello, and WsEcho over HTTP

complete_needs_no_break : (close : Bool) (state : BodyState) (input_broke : Bool) → after_response (Complete close) state input_broke ≡ after_response (Complete close) state true
complete_needs_no_break true state input_broke = refl
complete_needs_no_break false state input_broke = refl

told_whole : (response : List Outgoing) → ((facts : Facts) → progress_of facts response ≡ Complete (closes_after facts response))
    → (x : ExchangeRecord) (state : BodyState) → x.ended ≡ Some Returned → x.said ≡ response → Told x response state
told_whole response completes x state r said = record {
  said_is = said;
  next = λ next f.
      let done = ap (progress_of x.facts) said ∙ completes x.facts in
      let closing = closes_after x.facts response in
      sym (followed x state next r f)
      ∙ ap (λ (q : Progress). after_response q state x.input_broke) done
      ∙ complete_needs_no_break closing state x.input_broke
      ∙ sym (ap (λ (q : Progress). after_response q state true) (completes x.facts));
}

hello_completes : (facts : Facts) → progress_of facts hello_events ≡ Complete (closes_after facts hello_events)
hello_completes facts = ap (progress_in facts) (lawful_is_accepted facts hello_events (text_is_lawful _ facts))

hello_tells : (limits : Limits) (end : InputEnd) (bytes : List ℕ) (x : ExchangeRecord) (state : BodyState) (client server : Option Peer) (values : List (List ℕ × StateValue))
    → (s : ServesFirst limits end false bytes x state) → x.ended ≡ Some Returned → IsPromised hello_promise client server values x → Told x hello_events state
hello_tells limits end bytes x state client server values s r p =
    told_whole hello_events hello_completes x state r (returned hello_promise client server values x _ (http_scope limits bytes x.scope x.facts s.arrived s.head) r p)

pub hello_says : SaysOf hello_promise (λ events. hello_events)
hello_says = record { tells = hello_tells; grows = λ events others p. prefix_self hello_events }

not_found_completes : (facts : Facts) → progress_of facts not_found_events ≡ Complete (closes_after facts not_found_events)
not_found_completes facts = ap (progress_in facts) (lawful_is_accepted facts not_found_events (not_found_is_lawful facts))

ws_echo_tells : (limits : Limits) (end : InputEnd) (bytes : List ℕ) (x : ExchangeRecord) (state : BodyState) (client server : Option Peer) (values : List (List ℕ × StateValue))
    → (s : ServesFirst limits end false bytes x state) → x.ended ≡ Some Returned → IsPromised ws_echo_promise client server values x → Told x not_found_events state
ws_echo_tells limits end bytes x state client server values s r p =
    told_whole not_found_events not_found_completes x state r (returned ws_echo_promise client server values x _ (http_scope limits bytes x.scope x.facts s.arrived s.head) r p)

pub ws_echo_says : SaysOf ws_echo_promise (λ events. not_found_events)
ws_echo_says = record { tells = ws_echo_tells; grows = λ events others p. prefix_self not_found_events }

-- ---- Echo: what it sends for parts and disconnects

abbrev echo_start : Outgoing
echo_start = start_of 200 (codes "content-type") (codes "application/octet-stream")

no_bodies : (times : ℕ) → bodies_of (replicate times HttpDisconnect) ≡ []
no_bodies zero = refl
no_bodies (suc times) = no_bodies times

heard_bodies : (first : List Incoming) (times : ℕ) → bodies_of (first ++ replicate times HttpDisconnect) ≡ bodies_of first
heard_bodies first times =
    bodies-append first (replicate times HttpDisconnect) ∙ ap (λ (l : List Outgoing). bodies_of first ++ l) (no_bodies times) ∙ append-nil (bodies_of first)

part_bodies : (parts : List (List ℕ)) → bodies_of (map more_event parts) ≡ map (λ (p : List ℕ). ResponseBody p true) parts
part_bodies [] = refl
part_bodies (p ∷ parts) = ap (λ (l : List Outgoing). ResponseBody p true ∷ l) (part_bodies parts)

-- parts are no closed response
no_last : (parts others : List (List ℕ)) (last : List ℕ) (after : List Outgoing)
    → map (λ (p : List ℕ). ResponseBody p true) parts ≡ map (λ (p : List ℕ). ResponseBody p true) others ++ ResponseBody last false ∷ after → ⊥
no_last [] [] last after e = cc
no_last [] (o ∷ others) last after e = cc
no_last (p ∷ parts) [] last after e = cc
no_last (p ∷ parts) (o ∷ others) last after e = no_last parts others last after cc

open_is_not_closed : (said : List Outgoing) (start : Outgoing) (events : List Incoming) → said ≡ start ∷ bodies_of events → AreParts events → IsClosed scope_kind.Http said → ⊥
open_is_not_closed said start events e parts r =
    let bodies : bodies_of events ≡ map (λ (p : List ℕ). ResponseBody p true) parts.0 = ap bodies_of parts.1 ∙ part_bodies parts.0 in
    let all = sym e ∙ r.in_order in
    let same : bodies_of events ≡ map (λ (p : List ℕ). ResponseBody p true) r.parts ++ ResponseBody r.last false ∷ trailer_events r.trailers = cc all in
    no_last parts.0 r.parts r.last (trailer_events r.trailers) (sym bodies ∙ same)

-- parts alone do not end a request
no_end : (parts : List (List ℕ)) (before : List Incoming) (last : Incoming) → map more_event parts ≡ before ++ last ∷ [] → ends_request last ≡ true → ⊥
no_end [] [] last e h = cc
no_end [] (b ∷ before) last e h = cc
no_end (p ∷ parts) [] last e h = let same : more_event p ≡ last = cc in let more : ends_request (more_event p) ≡ true = ap ends_request same ∙ h in cc
no_end (p ∷ parts) (b ∷ before) last e h = let rest : map more_event parts ≡ before ++ last ∷ [] = cc in no_end parts before last rest h

open_is_not_all : (heard : List Incoming) → AreParts heard → HeardAll heard → ⊥
open_is_not_all heard parts h = no_end parts.0 h.before h.last (sym parts.1 ∙ h.in_order) h.ends

-- ---- Echo

whole_needs_no_break : (progress : Progress) (after : List ℕ) (input_broke : Bool) → after_response progress (complete after) input_broke ≡ after_response progress (complete after) true
whole_needs_no_break Nothing after input_broke = refl
whole_needs_no_break Begun after input_broke = refl
whole_needs_no_break (Complete true) after input_broke = refl
whole_needs_no_break (Complete false) after input_broke = refl

module _ (limits : Limits) (end : InputEnd) (bytes : List ℕ) (x : ExchangeRecord) (state : BodyState) (s : ServesFirst limits end false bytes x state)
    (r : x.ended ≡ Some Returned) (answered : x.said ≡ echo_events x.heard) (all : HeardAll x.heard) where
  said_first : x.said ≡ echo_events s.hears.first
  said_first =
      answered ∙ ap echo_events s.hears.in_order ∙ ap (λ (l : List Outgoing). echo_start ∷ l) (heard_bodies s.hears.first s.hears.times)

  -- if parts alone were received, the input broke after all events
  broken_after : AreParts s.hears.first → (x.input_broke ≡ true) × (s.hears.first ≡ s.events)
  broken_after parts = by s.hears.cause
    where
      by : (s.hears.times ≡ 0) ⊎ (IsClosed scope_kind.Http x.said ⊎ (((x.input_broke ≡ true) × (s.hears.first ≡ s.events)) ⊎ (false ≡ true))) → (x.input_broke ≡ true) × (s.hears.first ≡ s.events)
      by (inl none) =
          let alone : x.heard ≡ s.hears.first = s.hears.in_order ∙ ap (λ (n : ℕ). s.hears.first ++ replicate n HttpDisconnect) none ∙ append-nil s.hears.first in
          absurd (open_is_not_all s.hears.first parts (subst HeardAll alone all))
      by (inr (inl closed)) = absurd (open_is_not_closed x.said echo_start s.hears.first said_first parts closed)
      by (inr (inr (inl b))) = b
      by (inr (inr (inr cut))) = absurd (cc)

  all_first : s.hears.first ≡ s.events
  all_first = by (front_or_all s.events s.hears.first state (body_shape limits x.facts.framing s.arrived s.events state s.body) s.hears.due)
    where
      by : AreParts s.hears.first ⊎ (s.hears.first ≡ s.events) → s.hears.first ≡ s.events
      by (inl parts) = (broken_after parts).1
      by (inr e) = e

  open_broke : ((after : List ℕ) → state ≡ complete after → ⊥) → x.input_broke ≡ true
  open_broke n =
      let parts = open_parts s.events state (body_shape limits x.facts.framing s.arrived s.events state s.body) n in
      (broken_after (subst AreParts (sym all_first) parts)).0

  said_all : x.said ≡ echo_events s.events
  said_all = said_first ∙ ap echo_events all_first

  echo_next : (next : NextStep) → IsFollowed x state next → next ≡ next_for x.facts (echo_events s.events) state
  echo_next next f =
      sym (followed x state next r f) ∙ ap (λ (l : List Outgoing). after_response (progress_of x.facts l) state x.input_broke) said_all
      ∙ by state refl
    where
      by : (k : BodyState) → k ≡ state → after_response (progress_of x.facts (echo_events s.events)) k x.input_broke ≡ after_response (progress_of x.facts (echo_events s.events)) k true
      by (complete after) e = whole_needs_no_break (progress_of x.facts (echo_events s.events)) after x.input_broke
      by partial e = ap (λ (b : Bool). after_response (progress_of x.facts (echo_events s.events)) partial b) (open_broke (λ after c. cc (e ∙ c)))
      by (faulty why) e = ap (λ (b : Bool). after_response (progress_of x.facts (echo_events s.events)) (faulty why) b) (open_broke (λ after c. cc (e ∙ c)))

  echo_told : Told x (echo_events s.events) state
  echo_told = record { said_is = said_all; next = echo_next }

echo_tells : (limits : Limits) (end : InputEnd) (bytes : List ℕ) (x : ExchangeRecord) (state : BodyState) (client server : Option Peer) (values : List (List ℕ × StateValue))
    → (s : ServesFirst limits end false bytes x state) → x.ended ≡ Some Returned → IsPromised echo_promise client server values x → Told x (echo_events s.events) state
echo_tells limits end bytes x state client server values s r p =
    let kept : (x.said ≡ echo_events x.heard) × (scope_kind.Http ≡ scope_kind.Http → HeardAll x.heard) = returned echo_promise client server values x _ (http_scope limits bytes x.scope x.facts s.arrived s.head) r p in
    echo_told limits end bytes x state s r kept.0 (kept.1 refl)

echo_grows : (events others : List Incoming) → IsPrefix events others → IsPrefix (echo_events events) (echo_events others)
echo_grows events others p = (bodies_of p.0, ap (λ (l : List Outgoing). echo_start ∷ l) (sym (bodies-append events p.0)) ∙ ap echo_events p.1)

pub echo_says : SaysOf echo_promise echo_events
echo_says = record { tells = echo_tells; grows = echo_grows }
