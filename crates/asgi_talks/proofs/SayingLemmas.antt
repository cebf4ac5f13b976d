-- What was sent of a turn, and what is left of it.
use Rattle.std.proofs.Common.{◌≡◌, Bool, false, List, [], ◌∷◌, ◌++◌, Option, Some, None, refl, ap, sym, ◌∙◌, subst, inl, inr, append-nil, append_assoc}
use mathlib.Core.List.{IsPrefix}
use Rattle.asgi_types.specs.declared.scope.Kind.{Kind}
use Rattle.asgi_types.specs.declared.scope.Kind.TheVariants.{WebSocket}
use Rattle.asgi_types.specs.declared.facts.Facts.{Facts}
use Rattle.asgi_types.specs.declared.incoming.Payload.{Payload}
use Rattle.asgi_types.specs.declared.incoming.Incoming.{Incoming}
use Rattle.asgi_types.specs.declared.outgoing.Outgoing.{Outgoing}
use Rattle.asgi_types.specs.declared.end_kind.EndKind.TheVariants.{Returned, Faulted}
use Rattle.asgi_protocol.specs.declared.verdict.Verdict.{Verdict}
use Rattle.asgi_protocol.specs.declared.verdict.Verdict.TheVariants.{Pass}
use Rattle.asgi_protocol.specs.Lawful.{IsLawful}
use Rattle.asgi_protocol.specs.Verdicts.{verdict_on}
use Rattle.asgi_protocol.proofs.LawLemmas.{lawful_where_each_passes}
use Rattle.asgi_pipes.specs.Disconnects.{has_disconnect}
use Rattle.asgi_pipes.proofs.PrefixLemmas.{prefix_trans}
use Rattle.asgi_talks.specs.declared.answer.Answer.{Answer}
use Rattle.asgi_talks.specs.declared.opened.Opened.{Opened}
use Rattle.asgi_talks.specs.declared.sending.Said.{Said}
use Rattle.asgi_talks.specs.declared.sending.Said.TheVariants.{Left, All, Refused}
use Rattle.asgi_talks.specs.Sessions.{AnswersSession, HasSaidAll, HasTalked, IsTurnedAway, due, due_before}
use Rattle.asgi_talks.specs.Talking.{IsInTurn, turn_keeps}
use Rattle.asgi_talks.specs.private.Steps.{IsRest, NotTaken, Sends}

module _ (kind : Kind) (facts : Facts) (heard : List Incoming) (said left after : List Outgoing) where
  -- an event was sent, and this is left
  pub rest_sends : (event : Outgoing) (rest : List Outgoing) (r : Said) → left ≡ event ∷ rest → after ≡ said ++ event ∷ [] → IsRest rest r
      → Sends kind facts heard said left after rest r
  rest_sends event rest Left next put is =
      ap (λ (l : List Outgoing). l ++ rest) put ∙ append_assoc said (event ∷ []) rest ∙ ap (λ (l : List Outgoing). said ++ l) (sym next)
  rest_sends event rest All next put is =
      put ∙ ap (λ (l : List Outgoing). said ++ l) (ap (λ (l : List Outgoing). event ∷ l) (sym is) ∙ sym next)
  rest_sends event rest Refused next put is = absurd is

  -- an event was turned away
  pub not_taken : (event : Outgoing) (rest : List Outgoing) (verdict : Verdict) → left ≡ event ∷ rest → verdict_on kind facts said (has_disconnect heard) event ≡ verdict
      → (verdict ≡ Pass → ⊥) → after ≡ said → NotTaken kind facts heard said left after
  not_taken event rest verdict next is other same = record {
    event = event;
    rest = rest;
    next = next;
    refused = λ pass. other (sym is ∙ pass);
    same = same;
  }

-- if the next event of a list is turned away, the list is not lawful
not_lawful : (kind : Kind) (facts : Facts) (events said rest : List Outgoing) (heard : List Incoming) (event : Outgoing)
    → kind ≡ WebSocket → has_disconnect heard ≡ false → events ≡ said ++ event ∷ rest → (verdict_on kind facts said (has_disconnect heard) event ≡ Pass → ⊥)
    → ((facts : Facts) → IsLawful WebSocket facts events) → ⊥
not_lawful kind facts events said rest heard event session connected split refused lawful =
    refused (subst (λ (disconnected : Bool). verdict_on kind facts said disconnected event ≡ Pass) (sym connected)
    ((lawful_where_each_passes kind facts events).0 (subst (λ (k : Kind). IsLawful k facts events) (sym session) (lawful facts)) said rest event split))

module _ {S : Type 0} (opens : Opened S → Type 0) (answers : S → Payload → S → Answer → Type 0) (tells : S → S → Answer → Type 0) (fails : S → Type 0) (session : Option S)
    (left : List Outgoing) (called : List (Opened S)) (kind : Kind) (heard hears : List Incoming) (said after : List Outgoing) (same : hears ≡ heard) (stands : IsInTurn opens answers tells session left called kind heard said) where
  -- this is left
  pub said_on : (kind2 : Kind) (left2 : List Outgoing) → kind2 ≡ kind → IsPrefix said after → after ++ left2 ≡ said ++ left
      → IsInTurn opens answers tells session left2 called kind2 hears after
  said_on kind2 left2 k grows put =
      let on : IsInTurn opens answers tells session left2 called kind2 heard after = record {
        kind_is = k ∙ stands.kind_is;
        gone = stands.gone;
        answered = stands.answered;
        once = stands.once;
        in_order = put ∙ stands.in_order;
        in_turn = prefix_trans (due_before stands.answered.opened stands.answered.given) said after stands.in_turn grows;
      } in
      subst (λ (l : List Incoming). IsInTurn opens answers tells session left2 called kind2 l after) (sym same) on

  -- all was sent, and the session goes on
  pub said_whole : (kind2 : Kind) → kind2 ≡ kind → IsPrefix said after → after ≡ said ++ left → IsInTurn opens answers tells session [] called kind2 hears after
  said_whole kind2 k grows put = said_on kind2 [] k grows (append-nil after ∙ put)

  -- or it is over
  pub said_last : session ≡ None → after ≡ said ++ left → AnswersSession opens answers tells fails hears after (Some Returned)
  said_last over put =
      let all : HasSaidAll opens answers tells heard after session = record { answered = stands.answered; all = put ∙ stands.in_order } in
      let talked : HasTalked opens answers tells heard after = record { session = session; said_all = all; over = inl over } in
      inr (subst (λ (l : List Incoming). HasTalked opens answers tells l after) (sym same) talked)

  -- the next event was turned away
  pub turned_away : (facts : Facts) → NotTaken kind facts heard said left after → AnswersSession opens answers tells fails hears after (Some Faulted)
  turned_away facts is =
      let split : due stands.answered.opened stands.answered.given ≡ said ++ is.event ∷ is.rest =
      sym stands.in_order ∙ ap (λ (l : List Outgoing). said ++ l) is.next in
      let turned : IsTurnedAway opens answers tells heard after = record {
        session = session;
        answered = stands.answered;
        begins = (left, ap (λ (l : List Outgoing). l ++ left) is.same ∙ stands.in_order);
        unlawful = not_lawful kind facts (due stands.answered.opened stands.answered.given) said is.rest heard is.event stands.kind_is stands.gone split is.refused;
      } in
      inr (inr (inl (subst (λ (l : List Incoming). IsTurnedAway opens answers tells l after) (sym same) turned)))
