-- What was sent of a reply, and what is left of it.
use Rattle.std.proofs.Common.{◌≡◌, Bool, false, ℕ, List, [], ◌∷◌, ◌++◌, Option, Some, None, refl, ap, sym, ◌∙◌, subst, inl, inr, append-nil, append_assoc}
use Rattle.asgi_types.specs.declared.scope.Kind.{Kind}
use Rattle.asgi_types.specs.declared.scope.Kind.TheVariants.{Http}
use Rattle.asgi_types.specs.declared.facts.Facts.{Facts}
use Rattle.asgi_types.specs.declared.incoming.Incoming.{Incoming}
use Rattle.asgi_types.specs.declared.outgoing.Outgoing.{Outgoing}
use Rattle.asgi_types.specs.declared.end_kind.EndKind.TheVariants.{Returned, Faulted}
use Rattle.asgi_protocol.specs.declared.verdict.Verdict.{Verdict}
use Rattle.asgi_protocol.specs.declared.verdict.Verdict.TheVariants.{Pass}
use Rattle.asgi_protocol.specs.Lawful.{IsLawful}
use Rattle.asgi_protocol.specs.Verdicts.{verdict_on}
use Rattle.asgi_protocol.proofs.LawLemmas.{lawful_where_each_passes}
use Rattle.asgi_pipes.specs.Disconnects.{has_disconnect}
use Rattle.asgi_handlers.specs.declared.reply.Reply.{Reply}
use Rattle.asgi_handlers.specs.declared.sending.Said.{Said}
use Rattle.asgi_handlers.specs.declared.sending.Said.TheVariants.{Left, All, Refused}
use Rattle.asgi_handlers.specs.declared.sending.Sending.{Sending}
use Rattle.asgi_handlers.specs.Handling.{IsReplying, StandsAt, left_of}
use Rattle.asgi_handlers.specs.Replies.{AnswersRequest, HasBegun, HasReplied, IsTurnedAway, RepliesTo, reply_events}
use Rattle.asgi_handlers.specs.private.Hearing.{IsRest, NotTaken, Sends}

module _ (kind : Kind) (facts : Facts) (heard : List Incoming) (said left after : List Outgoing) where
  -- an event was sent, and this is left
  pub rest_sends : (event : Outgoing) (rest : List Outgoing) (r : Said) → left ≡ event ∷ rest → after ≡ said ++ event ∷ [] → IsRest rest r
      → Sends kind facts heard said left after rest r
  rest_sends event rest Left next put is =
      ap (λ (l : List Outgoing). l ++ rest) put ∙ append_assoc said (event ∷ []) rest ∙ ap (λ (l : List Outgoing). said ++ l) (sym next)
  rest_sends event rest All next put is =
      put ∙ ap (λ (l : List Outgoing). said ++ l) (ap (λ (l : List Outgoing). event ∷ l) (sym is) ∙ sym next)
  rest_sends event rest Refused next put is = absurd is

  -- an event was turned away
  pub not_taken : (event : Outgoing) (rest : List Outgoing) (verdict : Verdict) → left ≡ event ∷ rest → verdict_on kind facts said (has_disconnect heard) event ≡ verdict
      → (verdict ≡ Pass → ⊥) → after ≡ said → NotTaken kind facts heard said left after
  not_taken event rest verdict next is other same = record {
    event = event;
    rest = rest;
    next = next;
    refused = λ pass. other (sym is ∙ pass);
    same = same;
  }

-- if the next event of a list is turned away, the list is not lawful
not_lawful : (kind : Kind) (facts : Facts) (events said rest : List Outgoing) (heard : List Incoming) (event : Outgoing)
    → kind ≡ Http → has_disconnect heard ≡ false → events ≡ said ++ event ∷ rest → (verdict_on kind facts said (has_disconnect heard) event ≡ Pass → ⊥)
    → ((facts : Facts) → IsLawful Http facts events) → ⊥
not_lawful kind facts events said rest heard event http connected split refused lawful =
    refused (subst (λ (disconnected : Bool). verdict_on kind facts said disconnected event ≡ Pass) (sym connected)
    ((lawful_where_each_passes kind facts events).0 (subst (λ (k : Kind). IsLawful k facts events) (sym http) (lawful facts)) said rest event split))

module _ (allows : List ℕ → Reply → Type 0) (body : List ℕ) (given : List Reply) (sending : Option Sending) (was : Sending) (kind : Kind) (heard hears : List Incoming) (said after : List Outgoing)
    (is_was : sending ≡ Some was) (same : hears ≡ heard) (before : StandsAt allows body given sending kind heard said) where
  stands : IsReplying allows (left_of was) given kind heard said
  stands = subst (λ (o : Option Sending). StandsAt allows body given o kind heard said) is_was before

  still : RepliesTo allows hears stands.reply
  still = subst (λ (l : List Incoming). RepliesTo allows l stands.reply) (sym same) stands.replies

  -- this is left
  pub said_one : (kind2 : Kind) (now : Sending) → kind2 ≡ kind → after ++ left_of now ≡ said ++ left_of was → IsReplying allows (left_of now) given kind2 hears after
  said_one kind2 now k put = record { kind_is = k ∙ stands.kind_is; reply = stands.reply; replies = still; in_order = put ∙ stands.in_order; once = stands.once }

  pub so_far : (now : Sending) → after ++ left_of now ≡ said ++ left_of was → AnswersRequest allows hears after None
  so_far now put =
      let begun : HasBegun allows hears after = record { reply = stands.reply; replies = still; begins = (left_of now, put ∙ stands.in_order) } in
      record { begun = inr begun; ends = tt }

  -- all was sent
  pub said_all : after ≡ said ++ left_of was → AnswersRequest allows hears after (Some Returned)
  said_all put =
      let all : after ≡ reply_events stands.reply = put ∙ stands.in_order in
      let begun : HasBegun allows hears after = record { reply = stands.reply; replies = still; begins = ([], append-nil after ∙ all) } in
      let replied : HasReplied allows hears after = record { reply = stands.reply; replies = still; all = all } in
      record { begun = inr begun; ends = inl replied }

  -- the next event was turned away
  pub turned_away : (facts : Facts) → NotTaken kind facts heard said (left_of was) after → AnswersRequest allows hears after (Some Faulted)
  turned_away facts is =
      let begins : after ++ left_of was ≡ reply_events stands.reply = ap (λ (l : List Outgoing). l ++ left_of was) is.same ∙ stands.in_order in
      let split : reply_events stands.reply ≡ said ++ is.event ∷ is.rest = sym stands.in_order ∙ ap (λ (l : List Outgoing). said ++ l) is.next in
      let begun : HasBegun allows hears after = record { reply = stands.reply; replies = still; begins = (left_of was, begins) } in
      let turned : IsTurnedAway allows hears after = record {
        reply = stands.reply;
        replies = still;
        begins = (left_of was, begins);
        unlawful = not_lawful kind facts (reply_events stands.reply) said is.rest heard is.event stands.kind_is stands.replies.whole.connected split is.refused;
      } in
      record { begun = inr begun; ends = inr turned }
