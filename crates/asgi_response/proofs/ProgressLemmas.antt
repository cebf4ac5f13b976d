-- The phase of a text determines how far the response is, and what the end of the task adds.
use Rattle.std.proofs.Common.{◌≡◌, ℕ, Bool, true, false, List, [], ◌∷◌, ◌++◌, map, refl, sym, ap, ◌∙◌}
use Rattle.std.proofs.lemmas.List.{append-nil, map-append}
use Rattle.std.specs.Prelude.{if◌then◌else◌, is_some}
use Rattle.asgi_types.specs.declared.facts.Facts.{Facts}
use Rattle.asgi_types.specs.declared.scope.Kind.TheVariants.{Http}
use Rattle.asgi_types.specs.declared.outgoing.Outgoing.{Outgoing}
use Rattle.asgi_types.specs.declared.outgoing.Outgoing.TheVariants.{ResponseStart, ResponseBody}
use Rattle.asgi_protocol.specs.Lawful.{trailer_events}
use Rattle.asgi_protocol.specs.Shapes.{is_closed}
use Rattle.asgi_response.specs.declared.progress.Progress.{Progress}
use Rattle.asgi_response.specs.declared.progress.Progress.TheVariants as progress
use Rattle.asgi_response.specs.declared.refusal.Input.{Input}
use Rattle.asgi_response.specs.declared.text.ResponseText.{ResponseText}
use Rattle.asgi_response.specs.declared.text.Phase.{Phase}
use Rattle.asgi_response.specs.declared.text.Phase.TheVariants.{Waiting, Started, Begun, Trailers, Complete, NotAResponse}
use Rattle.asgi_response.specs.Accepted.{accepted}
use Rattle.asgi_response.specs.Exchange.{has_begun, replacement_text, end_text}
use Rattle.asgi_response.specs.Progress.{closes_after, progress_in, progress_of}
use Rattle.asgi_response.specs.Standing.{part, section, IsPhase, HasAccepted, StandsFor}
use Rattle.asgi_response.specs.private.Steps.{is_begun, progress_at}
use Rattle.asgi_protocol.proofs.WordLemmas.{test_of_word}
use Rattle.asgi_response.proofs.AcceptedLemmas.{open_not_whole, content_not_whole}

begun_in : (closed begun close : Bool) → closed ≡ false → begun ≡ true
    → (if closed then progress.Complete close else (if begun then progress.Begun else progress.Nothing)) ≡ progress.Begun
begun_in true begun close h k = cc
begun_in false true close h k = refl
begun_in false false close h k = cc

complete_in : (closed begun close : Bool) → closed ≡ true
    → (if closed then progress.Complete close else (if begun then progress.Begun else progress.Nothing)) ≡ progress.Complete close
complete_in true begun close h = refl
complete_in false begun close h = cc

has_body : (start : Outgoing) (front : List Outgoing) (x : Outgoing) (back : List Outgoing) → has_begun (start ∷ (front ++ x ∷ back)) ≡ true
has_body start [] x back = refl
has_body start (f ∷ front) x back = refl

-- a start and a body
pub begun_at : (facts : Facts) (said : List Outgoing) (head : List ℕ) (phase : Phase) → IsPhase facts said head phase → is_begun phase ≡ true → has_begun said ≡ true
begun_at facts said head (Begun content) s h =
    let start : Outgoing = ResponseStart s.status s.headers s.announced in
    ap has_begun (s.is_open.events ∙ ap (λ (es : List Outgoing). start ∷ es) (map-append part s.front (s.last ∷ []))) ∙ has_body start (map part s.front) (part s.last) []
begun_at facts said head (Trailers sent) c h =
    ap has_begun c.events ∙ has_body (ResponseStart c.status c.headers true) (map part c.parts) (ResponseBody c.last false) (map section c.sections)
begun_at facts said head Complete r h =
    ap has_begun r.in_order ∙ has_body (ResponseStart r.status r.headers (is_some r.trailers)) (map part r.parts) (ResponseBody r.last false) (trailer_events r.trailers)
begun_at facts said head NotAResponse never h = absurd never
begun_at facts said head _ is h = absurd (cc (h))

at_phase : (facts : Facts) (said : List Outgoing) (head : List ℕ) (close : Bool) (phase : Phase) → IsPhase facts said head phase
    → close ≡ closes_after facts said → progress_at phase close ≡ progress_in facts said
at_phase facts said head close Waiting none e = sym (ap (progress_in facts) none)
at_phase facts said head close (Started content) s e = sym (ap (progress_in facts) s.is_open.events)
at_phase facts said head close (Begun content) s e =
    sym (begun_in (is_closed Http said) (has_begun said) (closes_after facts said) (open_not_whole s.is_open) (begun_at facts said head (Begun content) s refl))
at_phase facts said head close (Trailers sent) c e =
    sym (begun_in (is_closed Http said) (has_begun said) (closes_after facts said) (content_not_whole c) (begun_at facts said head (Trailers sent) c refl))
at_phase facts said head close Complete r e =
    ap (λ (b : Bool). let p : Progress = progress.Complete b in p) e
    ∙ sym (complete_in (is_closed Http said) (has_begun said) (closes_after facts said)
    (test_of_word Http said r))
at_phase facts said head close NotAResponse never e = absurd never

pub progress_in_text : (t : ResponseText) (facts : Facts) (said : List Outgoing) → HasAccepted t facts said → progress_at t.phase t.close ≡ progress_in facts said
progress_in_text t facts said at = at_phase facts said t.head t.close t.phase at.phase at.close

pub progress_is : (t : ResponseText) (facts : Facts) (events : List Outgoing) → StandsFor t facts events → progress_at t.phase t.close ≡ progress_of facts events
progress_is t facts events at = progress_in_text t facts (accepted facts events) at.has_accepted

-- ---- the end of the task

-- once a body was taken, it adds nothing
pub end_adds_nothing : (t : ResponseText) (facts : Facts) (events : List Outgoing) (input : Input) (out : List ℕ) → HasAccepted t facts (accepted facts events) → is_begun t.phase ≡ true
    → out ≡ out ++ end_text facts events input
end_adds_nothing t facts events input out at h =
    sym (ap (λ (b : Bool). out ++ (if b then [] else replacement_text input)) (begun_at facts (accepted facts events) t.head t.phase at.phase h) ∙ append-nil out)
