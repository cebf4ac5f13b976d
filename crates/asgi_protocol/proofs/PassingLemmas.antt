-- A list is lawful exactly if each of its events passes in turn; so are its prefixes, and nothing passes after a closed one.
use Rattle.std.proofs.Common.{◌≡◌, Bool, true, false, List, [], ◌∷◌, ◌++◌, refl, ap, sym, ◌∙◌, append_assoc, append-nil}
use Rattle.asgi_types.specs.declared.scope.Kind.{Kind}
use Rattle.asgi_types.specs.declared.scope.Kind.TheVariants.{Http, WebSocket, Lifespan}
use Rattle.asgi_types.specs.declared.facts.Facts.{Facts}
use Rattle.asgi_types.specs.declared.outgoing.Outgoing.{Outgoing}
use Rattle.asgi_protocol.specs.declared.verdict.Verdict.{Verdict}
use Rattle.asgi_protocol.specs.declared.verdict.Verdict.TheVariants.{Pass, Ignored, Refused}
use Rattle.asgi_protocol.specs.Lawful.{IsLawful, IsClosed}
use Rattle.asgi_protocol.specs.Laws.{LawfulListsAreDecided, FrontsAreLawful, NothingPassesAfterClosed}
use Rattle.asgi_protocol.specs.Passing.{is_pass, passes, each_passes, is_lawful}
use Rattle.asgi_protocol.specs.Verdicts.{verdict_on, verdict_on_closed}
use Rattle.asgi_protocol.proofs.LawLemmas.{begins_front, lawful_where_each_passes}
use Rattle.asgi_protocol.proofs.RowLemmas.{both, both_true}
use Rattle.asgi_protocol.proofs.WordLemmas.{test_of_word}

-- a verdict that tests as a pass is one
pub is_passed : (v : Verdict) → is_pass v ≡ true → v ≡ Pass
is_passed Pass h = refl
is_passed Ignored h = absurd (cc)
is_passed (Refused n) h = absurd (cc)

-- ---- lists of which each event passes

-- the event after these passed
pub each_next : (p : List Outgoing → Outgoing → Bool) (before front after : List Outgoing) (event : Outgoing)
    → each_passes p before (front ++ event ∷ after) ≡ true → p (before ++ front) event ≡ true
each_next p before [] after event h =
    ap (λ (l : List Outgoing). p l event) (append-nil before) ∙ (both (p before event) (each_passes p (before ++ event ∷ []) after) h).0
each_next p before (x ∷ front) after event h =
    ap (λ (l : List Outgoing). p l event) (sym (append_assoc before (x ∷ []) front))
    ∙ each_next p (before ++ x ∷ []) front after event (both (p before x) (each_passes p (before ++ x ∷ []) (front ++ event ∷ after)) h).1

-- one more that passes
pub each_more : (p : List Outgoing → Outgoing → Bool) (before events : List Outgoing) (event : Outgoing)
    → each_passes p before events ≡ true → p (before ++ events) event ≡ true → each_passes p before (events ++ event ∷ []) ≡ true
each_more p before [] event h i = both_true (p before event) true (ap (λ (l : List Outgoing). p l event) (sym (append-nil before)) ∙ i) refl
each_more p before (x ∷ events) event h i =
    let q = both (p before x) (each_passes p (before ++ x ∷ []) events) h in
    both_true (p before x) (each_passes p (before ++ x ∷ []) (events ++ event ∷ [])) q.0
    (each_more p (before ++ x ∷ []) events event q.1 (ap (λ (l : List Outgoing). p l event) (append_assoc before (x ∷ []) events) ∙ i))

-- if the event of each split passes, all pass in turn
pub each_of_splits : (p : List Outgoing → Outgoing → Bool) (before events : List Outgoing)
    → ((front after : List Outgoing) (event : Outgoing) → events ≡ front ++ event ∷ after → p (before ++ front) event ≡ true)
    → each_passes p before events ≡ true
each_of_splits p before [] each = refl
each_of_splits p before (x ∷ events) each =
    both_true (p before x) (each_passes p (before ++ x ∷ []) events)
    (ap (λ (l : List Outgoing). p l x) (sym (append-nil before)) ∙ each [] events x refl)
    (each_of_splits p (before ++ x ∷ []) events
    (λ front after event split. ap (λ (l : List Outgoing). p l event) (append_assoc before (x ∷ []) front)
    ∙ each (x ∷ front) after event (ap (λ (l : List Outgoing). x ∷ l) split)))

-- ---- lawful lists

pub lawful_from_test : (kind : Kind) (facts : Facts) (events : List Outgoing) → is_lawful kind facts events ≡ true → IsLawful kind facts events
lawful_from_test kind facts events h =
    (lawful_where_each_passes kind facts events).1
    (λ before after event split. is_passed (verdict_on kind facts before false event)
    (each_next (passes kind facts) [] before after event (sym (ap (is_lawful kind facts) split) ∙ h)))

pub test_of_lawful : (kind : Kind) (facts : Facts) (events : List Outgoing) → IsLawful kind facts events → is_lawful kind facts events ≡ true
test_of_lawful kind facts events lawful =
    each_of_splits (passes kind facts) [] events
    (λ before after event split. ap is_pass ((lawful_where_each_passes kind facts events).0 lawful before after event split))

pub lawful_lists_are_decided : LawfulListsAreDecided
lawful_lists_are_decided kind facts events = (lawful_from_test kind facts events, test_of_lawful kind facts events)

pub fronts_are_lawful : FrontsAreLawful
fronts_are_lawful kind facts front later lawful = record {
  begins = begins_front kind front later lawful.begins;
  each = λ before after event split.
      lawful.each before (after ++ later) event (ap (λ (l : List Outgoing). l ++ later) split ∙ append_assoc before (event ∷ after) later);
}

-- ---- after a closed list

verdict_after : (kind : Kind) (facts : Facts) (said : List Outgoing) (heard : Bool) (event : Outgoing) → IsClosed kind said
    → verdict_on kind facts said heard event ≡ verdict_on_closed kind
verdict_after kind facts said heard event closed = rw (test_of_word kind said closed) refl

no_pass : (kind : Kind) → is_pass (verdict_on_closed kind) ≡ false
no_pass Http = refl
no_pass WebSocket = refl
no_pass Lifespan = refl

pub nothing_passes : NothingPassesAfterClosed
nothing_passes = record {
  verdict = verdict_after;
  none = λ kind facts said event closed. ap is_pass (verdict_after kind facts said false event closed) ∙ no_pass kind;
}
