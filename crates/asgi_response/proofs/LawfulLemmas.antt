-- A lawful list is accepted whole, and the accepted events of any list are lawful.
use Rattle.std.proofs.Common.{◌≡◌, Bool, true, false, List, [], ◌∷◌, ◌++◌, refl, sym, ap, ◌∙◌, append_assoc}
use Rattle.std.proofs.lemmas.List.{append-nil}
use Rattle.std.specs.List.{fold}
use Rattle.std.specs.Prelude.{if◌then◌else◌}
use Rattle.asgi_types.specs.declared.facts.Facts.{Facts}
use Rattle.asgi_types.specs.declared.scope.Kind.TheVariants.{Http}
use Rattle.asgi_types.specs.declared.outgoing.Outgoing.{Outgoing}
use Rattle.asgi_protocol.specs.Lawful.{IsLawful}
use Rattle.asgi_protocol.specs.Passing.{is_pass, passes}
use Rattle.asgi_protocol.specs.Verdicts.{verdict_on}
use Rattle.asgi_protocol.proofs.LawLemmas.{lawful_where_each_passes}
use Rattle.asgi_protocol.proofs.PassLemmas as judged
use Rattle.asgi_protocol.proofs.PassingLemmas.{is_passed}
use Rattle.asgi_response.specs.Accepted.{with_event, accepted}
use Rattle.asgi_response.specs.Laws.{LawfulIsAccepted}

-- ---- a lawful list

taken : (facts : Facts) (said : List Outgoing) (event : Outgoing) → passes Http facts said event ≡ true → with_event facts said event ≡ said ++ event ∷ []
taken facts said event h = ap (λ (b : Bool). if b then said ++ event ∷ [] else said) h

-- if each event passes after those sent and those before it, all of them are taken
all_taken : (facts : Facts) (said events : List Outgoing)
    → ((before after : List Outgoing) (event : Outgoing) → events ≡ before ++ event ∷ after → passes Http facts (said ++ before) event ≡ true)
    → fold (with_event facts) said events ≡ said ++ events
all_taken facts said [] each = sym (append-nil said)
all_taken facts said (e ∷ events) each =
    let here : passes Http facts said e ≡ true = ap (λ (s : List Outgoing). passes Http facts s e) (sym (append-nil said)) ∙ each [] events e refl in
    ap (λ (s : List Outgoing). fold (with_event facts) s events) (taken facts said e here)
    ∙ all_taken facts (said ++ e ∷ []) events
    (λ before after event split. ap (λ (s : List Outgoing). passes Http facts s event) (append_assoc said (e ∷ []) before)
    ∙ each (e ∷ before) after event (ap (λ (s : List Outgoing). e ∷ s) split))
    ∙ append_assoc said (e ∷ []) events

pub lawful_is_accepted : LawfulIsAccepted
lawful_is_accepted facts events lawful =
    all_taken facts [] events (λ before after event split. ap is_pass ((lawful_where_each_passes Http facts events).0 lawful before after event split))

-- ---- the accepted events

nothing_is_lawful : (facts : Facts) → IsLawful Http facts []
nothing_is_lawful facts = (lawful_where_each_passes Http facts []).1 (λ before after event split. absurd (no_split before after event split))
  where
    no_split : (before after : List Outgoing) (event : Outgoing) → [] ≡ before ++ event ∷ after → ⊥
    no_split [] after event h = cc
    no_split (b ∷ before) after event h = cc

with_event_lawful : (facts : Facts) (said : List Outgoing) (event : Outgoing) (b : Bool) → passes Http facts said event ≡ b → IsLawful Http facts said
    → IsLawful Http facts (if b then said ++ event ∷ [] else said)
with_event_lawful facts said event true h lawful =
    judged.lawful_more Http facts said event lawful (judged.passes Http facts said false event (is_passed (verdict_on Http facts said false event) h))
with_event_lawful facts said event false h lawful = lawful

all_lawful : (facts : Facts) (events said : List Outgoing) → IsLawful Http facts said → IsLawful Http facts (fold (with_event facts) said events)
all_lawful facts [] said lawful = lawful
all_lawful facts (event ∷ events) said lawful =
    all_lawful facts events (with_event facts said event) (with_event_lawful facts said event (passes Http facts said event) refl lawful)

pub accepted_is_lawful : (facts : Facts) (events : List Outgoing) → IsLawful Http facts (accepted facts events)
accepted_is_lawful facts events = all_lawful facts events [] (nothing_is_lawful facts)
