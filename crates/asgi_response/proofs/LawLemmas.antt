-- The text of a longer list goes on from that of a shorter one.
use Rattle.std.proofs.Common.{◌≡◌, ℕ, Bool, true, false, List, [], ◌∷◌, ◌++◌, flat_map, refl, sym, ap, ◌∙◌, append_assoc}
use Rattle.std.specs.List.{fold}
use Rattle.std.proofs.lemmas.List.{append-nil}
use Rattle.std.proofs.lemmas.List.Concat.{flat_map-append}
use Rattle.std.proofs.lemmas.List.Sums.{fold-append}
use Rattle.std.specs.Prelude.{if◌then◌else◌}
use Rattle.asgi_types.specs.declared.facts.Facts.{Facts}
use Rattle.asgi_types.specs.declared.scope.Kind.TheVariants.{Http}
use Rattle.asgi_types.specs.declared.outgoing.Outgoing.{Outgoing}
use Rattle.asgi_types.specs.declared.outgoing.Outgoing.TheVariants.{ResponseStart}
use Rattle.asgi_protocol.specs.Passing.{passes}
use Rattle.asgi_response.specs.Accepted.{with_event, accepted}
use Rattle.asgi_response.specs.Fields.{is_chunked, closes, head_text}
use Rattle.asgi_response.specs.Response.{rest_text, message_text, event_text, continue_text, response_text}
use Rattle.asgi_response.specs.Laws.{BeginsWith, TextOnlyGrows, EventsAddTheirText}

pub same_front : (xs : List ℕ) → BeginsWith xs xs
same_front xs = ([], sym (append-nil xs))

after : (front a b : List ℕ) → BeginsWith a b → BeginsWith (front ++ a) (front ++ b)
after front a b h = (h.0, ap (λ (x : List ℕ). front ++ x) h.1 ∙ sym (append_assoc front b h.0))

longer : (a b c : List ℕ) → BeginsWith a b → BeginsWith b c → BeginsWith a c
longer a b c h k = (k.0 ++ h.0, h.1 ∙ ap (λ (x : List ℕ). x ++ h.0) k.1 ∙ append_assoc c k.0 h.0)

-- one more event adds its text
pub message_after : (facts : Facts) (said : List Outgoing) (event : Outgoing) → message_text facts (said ++ event ∷ []) ≡ message_text facts said ++ event_text facts said event
message_after facts [] (ResponseStart status headers announced) = refl
message_after facts [] _ = refl
message_after facts (ResponseStart status headers announced ∷ []) event =
    ap (λ (x : List ℕ). head_text (is_chunked facts.version status headers) (closes facts.close headers) status headers ++ x) (append-nil (rest_text facts status headers announced event))
message_after facts (ResponseStart status headers announced ∷ first ∷ events) event =
    let head : List ℕ = head_text (is_chunked facts.version status headers) (closes facts.close headers) status headers in
    let text : Outgoing → List ℕ = rest_text facts status headers announced in
    ap (λ (x : List ℕ). head ++ x) (flat_map-append text (first ∷ events) (event ∷ []) ∙ ap (λ (x : List ℕ). flat_map text (first ∷ events) ++ x) (append-nil (text event)))
    ∙ sym (append_assoc head (flat_map text (first ∷ events)) (text event))
message_after facts (_ ∷ said) event = refl

message_grows : (facts : Facts) (said : List Outgoing) (event : Outgoing) → BeginsWith (message_text facts (said ++ event ∷ [])) (message_text facts said)
message_grows facts said event = (event_text facts said event, message_after facts said event)

one_grows : (facts : Facts) (said : List Outgoing) (event : Outgoing) (b : Bool)
    → BeginsWith (message_text facts (if b then said ++ event ∷ [] else said)) (message_text facts said)
one_grows facts said event true = message_grows facts said event
one_grows facts said event false = same_front (message_text facts said)

fold_grows : (facts : Facts) (more said : List Outgoing) → BeginsWith (message_text facts (fold (with_event facts) said more)) (message_text facts said)
fold_grows facts [] said = same_front (message_text facts said)
fold_grows facts (event ∷ more) said =
    longer (message_text facts (fold (with_event facts) (with_event facts said event) more)) (message_text facts (with_event facts said event)) (message_text facts said)
    (fold_grows facts more (with_event facts said event)) (one_grows facts said event (passes Http facts said event))

along : (a a' b : List ℕ) → a ≡ a' → BeginsWith a' b → BeginsWith a b
along a a' b e h = (h.0, e ∙ h.1)

pub text_grows : TextOnlyGrows
text_grows facts events more =
    after (continue_text facts.expect) (message_text facts (accepted facts (events ++ more))) (message_text facts (accepted facts events))
    (along _ _ _ (ap (message_text facts) (fold-append (with_event facts) [] events more)) (fold_grows facts more (accepted facts events)))

-- ---- one event

at_event : (facts : Facts) (events : List Outgoing) (event : Outgoing) (b : Bool) → passes Http facts (accepted facts events) event ≡ b
    → response_text facts (events ++ event ∷ []) ≡ continue_text facts.expect ++ message_text facts (if b then accepted facts events ++ event ∷ [] else accepted facts events)
at_event facts events event b h =
    ap (λ (s : List Outgoing). continue_text facts.expect ++ message_text facts s)
    (fold-append (with_event facts) [] events (event ∷ []) ∙ ap (λ (b : Bool). if b then accepted facts events ++ event ∷ [] else accepted facts events) h)

pub events_add_their_text : EventsAddTheirText
events_add_their_text = record {
  lawful = λ facts events event h.
      at_event facts events event true h
      ∙ ap (λ (x : List ℕ). continue_text facts.expect ++ x) (message_after facts (accepted facts events) event)
      ∙ sym (append_assoc (continue_text facts.expect) (message_text facts (accepted facts events)) (event_text facts (accepted facts events) event));
  other = λ facts events event h. at_event facts events event false h;
}
