-- After a closed list nothing more is accepted, and what the end of a task adds depends on how far the response is.
use Rattle.std.proofs.Common.{◌≡◌, ◌≢◌, ℕ, Bool, true, false, ◌⊎◌, inl, inr, List, [], ◌∷◌, ◌++◌, refl, sym, ap, ◌∙◌, subst}
use Rattle.std.proofs.lemmas.List.Sums.{fold-append}
use Rattle.std.specs.List.{fold}
use Rattle.std.specs.Prelude.{if◌then◌else◌}
use Rattle.asgi_types.specs.declared.end_kind.EndKind.{EndKind}
use Rattle.asgi_types.specs.declared.end_kind.EndKind.TheVariants.{Returned, Faulted, Idle}
use Rattle.asgi_types.specs.declared.facts.Facts.{Facts}
use Rattle.asgi_types.specs.declared.scope.Kind.TheVariants.{Http}
use Rattle.asgi_types.specs.declared.outgoing.Outgoing.{Outgoing}
use Rattle.asgi_protocol.specs.Lawful.{IsClosed}
use Rattle.asgi_protocol.specs.Shapes.{is_closed}
use Rattle.asgi_protocol.proofs.PassingLemmas.{nothing_passes}
use Rattle.asgi_protocol.proofs.WordLemmas.{word_from_test}
use Rattle.asgi_response.specs.declared.progress.Progress.TheVariants.{Nothing, Begun, Complete}
use Rattle.asgi_response.specs.declared.refusal.Input.{Input}
use Rattle.asgi_response.specs.declared.refusal.Input.TheVariants.{Broken}
use Rattle.asgi_response.specs.declared.text.Phase.TheVariants as phase
use Rattle.asgi_response.specs.Accepted.{with_event, accepted}
use Rattle.asgi_response.specs.Exchange.{has_begun, replacement_text, end_text, added_by_end}
use Rattle.asgi_response.specs.Laws.{BeginsWith, ClosedTextStays, BegunResponsesGetNothingMore, UnbegunResponsesAreReplaced, AddedTextOnlyGrows}
use Rattle.asgi_response.specs.Progress.{closes_after}
use Rattle.asgi_response.specs.Response.{message_text, continue_text, response_text}
use Rattle.asgi_response.proofs.LawLemmas.{same_front}
use Rattle.asgi_response.proofs.LawfulLemmas.{lawful_is_accepted}
use Rattle.asgi_response.proofs.ProgressLemmas.{begun_at}
use Rattle.asgi_response.proofs.StandingLemmas.{not_taken}

-- ---- after a closed list

closed_stays : (facts : Facts) (more said : List Outgoing) → IsClosed Http said → fold (with_event facts) said more ≡ said
closed_stays facts [] said closed = refl
closed_stays facts (event ∷ more) said closed =
    ap (λ (s : List Outgoing). fold (with_event facts) s more) (sym (not_taken facts said event (nothing_passes.none Http facts said event closed)))
    ∙ closed_stays facts more said closed

no_more : (facts : Facts) (events more : List Outgoing) → IsClosed Http (accepted facts events) → accepted facts (events ++ more) ≡ accepted facts events
no_more facts events more closed = fold-append (with_event facts) [] events more ∙ closed_stays facts more (accepted facts events) closed

stays : (facts : Facts) (events more : List Outgoing) → IsClosed Http (accepted facts events) → response_text facts (events ++ more) ≡ response_text facts events
stays facts events more closed = ap (λ (s : List Outgoing). continue_text facts.expect ++ message_text facts s) (no_more facts events more closed)

pub closed_text_stays : ClosedTextStays
closed_text_stays = record {
  nothing_more = no_more;
  text = stays;
  lawful = λ facts events more lawful closed. stays facts events more (subst (IsClosed Http) (sym (lawful_is_accepted facts events lawful)) closed);
}

-- ---- how far the response is

begun_in : (closed begun close : Bool) → (closed ≡ true → begun ≡ true) → (if closed then Complete close else (if begun then Begun else Nothing)) ≢ Nothing → begun ≡ true
begun_in true begun close h some_progress = h refl
begun_in false true close h some_progress = refl
begun_in false false close h some_progress = absurd (some_progress refl)

waits_in : (closed begun close : Bool) → (if closed then Complete close else (if begun then Begun else Nothing)) ≡ Nothing → begun ≡ false
waits_in true begun close none = cc
waits_in false true close none = cc
waits_in false false close none = refl

-- ---- what the end of a task adds

pub nothing_added : BegunResponsesGetNothingMore
nothing_added facts events kind input some_progress = by kind
  where
    none : end_text facts events input ≡ []
    none =
        let said : List Outgoing = accepted facts events in
        ap (λ (b : Bool). if b then [] else replacement_text input)
        (begun_in (is_closed Http said) (has_begun said) (closes_after facts said)
        (λ closed. begun_at facts said [] phase.Complete (word_from_test Http said closed) refl) some_progress)

    by : (kind : EndKind) → added_by_end facts events kind input ≡ []
    by Returned = none
    by Faulted = none
    by Idle = refl

pub unbegun_are_replaced : UnbegunResponsesAreReplaced
unbegun_are_replaced facts events kind input no_limit none = by kind no_limit
  where
    answered : end_text facts events input ≡ replacement_text input
    answered =
        let said : List Outgoing = accepted facts events in
        ap (λ (b : Bool). if b then [] else replacement_text input) (waits_in (is_closed Http said) (has_begun said) (closes_after facts said) none)

    by : (kind : EndKind) → kind ≢ Idle → added_by_end facts events kind input ≡ replacement_text input
    by Returned h = answered
    by Faulted h = answered
    by Idle h = absurd (h refl)

no_answer : (begun : Bool) → (if begun then [] else replacement_text Broken) ≡ []
no_answer true = refl
no_answer false = refl

none_broken : (facts : Facts) (events : List Outgoing) (kind : EndKind) → added_by_end facts events kind Broken ≡ []
none_broken facts events Returned = no_answer (has_begun (accepted facts events))
none_broken facts events Faulted = no_answer (has_begun (accepted facts events))
none_broken facts events Idle = refl

grows : (facts : Facts) (events : List Outgoing) (kind : EndKind) (known later : Input) → (known ≡ Broken) ⊎ (known ≡ later)
    → BeginsWith (added_by_end facts events kind later) (added_by_end facts events kind known)
grows facts events kind known later (inl e) =
    let later_text : List ℕ = added_by_end facts events kind later in
    (later_text, sym (ap (λ (i : Input). added_by_end facts events kind i ++ later_text) e ∙ ap (λ (l : List ℕ). l ++ later_text) (none_broken facts events kind)))
grows facts events kind known later (inr e) =
    subst (λ (i : Input). BeginsWith (added_by_end facts events kind later) (added_by_end facts events kind i)) (sym e) (same_front (added_by_end facts events kind later))

pub added_text_only_grows : AddedTextOnlyGrows
added_text_only_grows = record { none = none_broken; grows = grows }
