-- What the text of a response to an opening handshake stands for after one more event, what the event adds, and what
-- the end of the task does.
use Rattle.std.proofs.Common.{◌≡◌, ℕ, ◌+◌, Bool, true, false, List, [], ◌∷◌, ◌++◌, ◌⊎◌, inl, inr, IsTrue, length, map, refl, ap, sym, ◌∙◌, subst, length-append, arith}
use Rattle.std.proofs.lemmas.List.{append-nil, map-append}
use Rattle.std.specs.Prelude.{◌&&◌, ◌||◌, if◌then◌else◌}
use Rattle.asgi_types.specs.Fields.{HeaderField}
use Rattle.asgi_types.specs.declared.facts.Facts.{Facts}
use Rattle.asgi_types.specs.declared.outgoing.Outgoing.{Outgoing}
use Rattle.asgi_types.specs.declared.outgoing.Outgoing.TheVariants.{WsAccept, WsClose, DenialStart, DenialBody}
use Rattle.asgi_types.specs.declared.scope.Kind.TheVariants.{WebSocket}
use Rattle.asgi_types.specs.Room.{LacksRoom}
use Rattle.asgi_protocol.specs.ContentLengths.{content_length}
use Rattle.asgi_protocol.specs.Lawful.{IsLawful}
use Rattle.asgi_protocol.specs.Rules.{is_faulty}
use Rattle.asgi_protocol.specs.Shapes.{is_empty, is_denial_part, is_last_denial_part, begins_row, begins_word}
use Rattle.asgi_response.specs.declared.progress.Progress.TheVariants.{Begun}
use Rattle.asgi_response.specs.declared.refusal.Input.{Input}
use Rattle.asgi_response.specs.declared.text.ResponseText.{ResponseText}
use Rattle.asgi_response.specs.declared.text.Phase.{Phase}
use Rattle.asgi_response.specs.declared.text.Phase.TheVariants.{NotAResponse}
use Rattle.asgi_response.specs.Accepted.{accepted}
use Rattle.asgi_response.specs.Denial.{closing_facts, as_response, denial_text, is_decided, denial_end_text, denial_progress}
use Rattle.asgi_response.specs.Exchange.{end_text}
use Rattle.asgi_response.specs.Progress.{progress_of}
use Rattle.asgi_response.specs.Response.{message_text}
use Rattle.asgi_response.specs.Room.{LacksDenialMemory, is_denial_start}
use Rattle.asgi_response.specs.Standing.{opens_session, HasAccepted, IsElsewhere, IsDenying, StandsForSession, Grows}
use Rattle.asgi_response.specs.private.Steps.{may_start, is_begun, content_due, part_added, after_start, after_part, after_response_event, after_session_event, after_event}
use Rattle.asgi_response.specs.private.Steps.{added_by_response, added_by_denial, added_by, denial_starts, response_starts, starts, progress_at}
use Rattle.asgi_protocol.proofs.PassingLemmas.{fronts_are_lawful}
use Rattle.asgi_protocol.proofs.WordLemmas.{test_of_beginning}
use Rattle.asgi_response.proofs.DenialLemmas.{is_lawful_response}
use Rattle.asgi_response.proofs.LawfulLemmas.{lawful_is_accepted}
use Rattle.asgi_response.proofs.ProgressLemmas.{progress_in_text, end_adds_nothing}
use Rattle.asgi_response.proofs.StandingLemmas.{started_text, accepted_after, next_text}

-- ---- which events are after which

decided_stays : (events : List Outgoing) (event : Outgoing) → is_decided events ≡ true → is_decided (events ++ event ∷ []) ≡ true
decided_stays (WsAccept a b ∷ events) event h = refl
decided_stays (WsClose a b ∷ events) event h = refl
decided_stays _ event h = absurd (cc (h))

-- after events that decide nothing, one that decides nothing
undecided_stays : (events : List Outgoing) (event : Outgoing) → is_decided events ≡ false → is_decided (event ∷ []) ≡ false → is_decided (events ++ event ∷ []) ≡ false
undecided_stays [] event h k = k
undecided_stays (WsAccept a b ∷ events) event h k = absurd (cc (h))
undecided_stays (WsClose a b ∷ events) event h k = absurd (cc (h))
undecided_stays (_ ∷ events) event h k = refl

not_empty : (events : List Outgoing) (event : Outgoing) → is_empty (events ++ event ∷ []) ≡ false
not_empty [] event = refl
not_empty (x ∷ events) event = refl

no_row : (part last rest empty : Bool) → rest ≡ false → empty ≡ false → ((part && rest) || (last && empty)) ≡ false
no_row true true rest empty h k = ap (λ b. b || empty) h ∙ k
no_row true false rest empty h k = ap (λ b. b || false) h
no_row false true rest empty h k = k
no_row false false rest empty h k = refl

neither : (part last : Bool) → part ≡ false → last ≡ false → ((part && true) || (last && true)) ≡ false
neither false false h k = refl
neither true last h k = absurd (cc (h))
neither false true h k = absurd (cc (k))

-- after a denial's start only its bodies follow
no_stranger : (events : List Outgoing) (event : Outgoing) → is_denial_part event ≡ false → is_last_denial_part event ≡ false
    → begins_row is_denial_part is_last_denial_part is_empty (events ++ event ∷ []) ≡ false
no_stranger [] event h k = neither (is_denial_part event) (is_last_denial_part event) h k
no_stranger (x ∷ events) event h k =
    no_row (is_denial_part x) (is_last_denial_part x) (begins_row is_denial_part is_last_denial_part is_empty (events ++ event ∷ [])) (is_empty (events ++ event ∷ []))
    (no_stranger events event h k) (not_empty events event)

-- so one that is no body is the first, if nothing was decided
is_first : (events : List Outgoing) (event : Outgoing) → is_denial_part event ≡ false → is_last_denial_part event ≡ false
    → is_decided events ≡ false → begins_word WebSocket (events ++ event ∷ []) ≡ true → events ≡ []
is_first [] event h k u b = refl
is_first (WsAccept a c ∷ events) event h k u b = absurd (cc (u))
is_first (WsClose a c ∷ events) event h k u b = absurd (cc (u))
is_first (DenialStart a c ∷ events) event h k u b = absurd (cc (b, no_stranger events event h k))
is_first (_ ∷ events) event h k u b = absurd (cc (b))

-- ---- a lawful list is accepted whole

module _ (facts : Facts) where
  abbrev closing : Facts
  closing = closing_facts facts

  taken_whole : (events : List Outgoing) → is_decided events ≡ false → IsLawful WebSocket facts events → accepted closing (map as_response events) ≡ map as_response events
  taken_whole [] u lawful = refl
  taken_whole (DenialStart a b ∷ events) u lawful = lawful_is_accepted closing (map as_response (DenialStart a b ∷ events)) (is_lawful_response facts a b events lawful)
  taken_whole (WsAccept a b ∷ events) u lawful = absurd (cc (u))
  taken_whole (WsClose a b ∷ events) u lawful = absurd (cc (u))
  taken_whole (x ∷ events) u lawful = absurd (cc (test_of_beginning WebSocket (x ∷ events) lawful.begins))

  undecided_text : (events : List Outgoing) → is_decided events ≡ false → IsLawful WebSocket facts events
      → denial_text facts events ≡ message_text closing (accepted closing (map as_response events))
  undecided_text events u lawful = ap (message_text closing) (sym (taken_whole events u lawful))

  -- a session and its refusal have no text of a denial
  decided_text : (events : List Outgoing) → is_decided events ≡ true → denial_text facts events ≡ []
  decided_text (WsAccept a b ∷ events) h = refl
  decided_text (WsClose a b ∷ events) h = refl
  decided_text _ h = absurd (cc (h))

-- ---- one event

start_elsewhere : (t : ResponseText) (status : ℕ) (headers : List HeaderField) → t.phase ≡ NotAResponse → after_start t status headers false ≡ t
start_elsewhere t status headers e =
    ap (λ (p : Phase). if may_start p status (is_faulty (content_length headers)) then started_text t status headers false else t) e

part_elsewhere : (t : ResponseText) (body : List ℕ) (more_body : Bool) → t.phase ≡ NotAResponse → after_part t (content_due t.phase) body more_body ≡ t
part_elsewhere t body more_body e = ap (λ (p : Phase). after_part t (content_due p) body more_body) e

abbrev AtElsewhere : ResponseText → Type 0
AtElsewhere t = (t.session ≡ true) × (t.phase ≡ NotAResponse)

still_elsewhere : (t : ResponseText) (event : Outgoing) → AtElsewhere t → AtElsewhere (after_session_event t event)
still_elsewhere t (DenialStart status headers) at = subst AtElsewhere (sym (start_elsewhere t status headers at.1)) at
still_elsewhere t (DenialBody body more_body) at = subst AtElsewhere (sym (part_elsewhere t body more_body at.1)) at
still_elsewhere t (WsAccept a b) at = (at.0, refl)
still_elsewhere t (WsClose a b) at = (at.0, refl)
still_elsewhere t _ at = at

-- after an accept or a close nothing belongs to this text
stays_elsewhere : (t : ResponseText) (events : List Outgoing) (event : Outgoing) → IsElsewhere t events → IsElsewhere (after_session_event t event) (events ++ event ∷ [])
stays_elsewhere t events event at =
    let still : AtElsewhere (after_session_event t event) = still_elsewhere t event (at.session, at.phase) in
    record { decided = decided_stays events event at.decided; session = still.0; phase = still.1 }

nothing_elsewhere : (t : ResponseText) (event : Outgoing) → t.phase ≡ NotAResponse → added_by_denial t event ≡ []
nothing_elsewhere t (DenialBody body more_body) e = ap (λ (p : Phase). part_added t.head (content_due p) body more_body) e
nothing_elsewhere t _ e = refl

module _ (t : ResponseText) (facts : Facts) (events : List Outgoing) where
  abbrev Denies : Outgoing → Type 0
  Denies event = IsDenying (after_session_event t event) facts (events ++ event ∷ [])

  abbrev Goes : Outgoing → Type 0
  Goes event = IsElsewhere (after_session_event t event) (events ++ event ∷ []) ⊎ Denies event

  -- an event that decides nothing is that of the response
  denies : (event : Outgoing) → is_decided (event ∷ []) ≡ false → after_session_event t event ≡ after_response_event t (as_response event)
      → IsDenying t facts events → Denies event
  denies event k same d = record {
    undecided = undecided_stays events event d.undecided k;
    has_accepted =
        subst (λ (u : ResponseText). HasAccepted u (closing_facts facts) (accepted (closing_facts facts) (map as_response (events ++ event ∷ [])))) (sym same)
        (subst (λ (l : List Outgoing). HasAccepted (after_response_event t (as_response event)) (closing_facts facts) (accepted (closing_facts facts) l))
        (sym (map-append as_response events (event ∷ [])))
        (accepted_after t (closing_facts facts) (map as_response events) (as_response event) d.has_accepted));
  }

  -- an accept or a close comes first
  decides : (event : Outgoing) → is_decided (event ∷ []) ≡ true → events ≡ [] → AtElsewhere (after_session_event t event) → Goes event
  decides event k first at = inl (record { decided = ap (λ (l : List Outgoing). is_decided (l ++ event ∷ [])) first ∙ k; session = at.0; phase = at.1 })

  no_response : (event : Outgoing) → is_denial_part event ≡ false → is_last_denial_part event ≡ false → is_decided events ≡ false
      → begins_word WebSocket (events ++ event ∷ []) ≡ true → begins_word WebSocket (event ∷ []) ≡ true
  no_response event h k u b = sym (ap (λ (l : List Outgoing). begins_word WebSocket (l ++ event ∷ [])) (is_first events event h k u b)) ∙ b

  goes_on : (event : Outgoing) → begins_word WebSocket (events ++ event ∷ []) ≡ true → t.session ≡ true → IsDenying t facts events → Goes event
  goes_on (DenialStart a c) b s d = inr (denies (DenialStart a c) refl refl d)
  goes_on (DenialBody a c) b s d = inr (denies (DenialBody a c) refl refl d)
  goes_on (WsAccept a c) b s d = decides (WsAccept a c) refl (is_first events (WsAccept a c) refl refl d.undecided b) (s, refl)
  goes_on (WsClose a c) b s d = decides (WsClose a c) refl (is_first events (WsClose a c) refl refl d.undecided b) (s, refl)
  goes_on event b s d = absurd (cc (no_response event refl refl d.undecided b))

-- ---- the text after an event

session_of : (t : ResponseText) (facts : Facts) (events : List Outgoing) → StandsForSession t facts events → t.session ≡ true
session_of t facts events at = by at.taken
  where
    by : IsElsewhere t events ⊎ IsDenying t facts events → t.session ≡ true
    by (inl e) = e.session
    by (inr d) = let has : HasAccepted t (closing_facts facts) (accepted (closing_facts facts) (map as_response events)) = d.has_accepted in
        has.session ∙ ap opens_session at.opens

is_session_event : (t : ResponseText) (event : Outgoing) → t.session ≡ true → after_event t event ≡ after_session_event t event
is_session_event t event s = ap (λ (b : Bool). if b then after_session_event t event else after_response_event t event) s

pub denies_after : (t new : ResponseText) (facts : Facts) (events : List Outgoing) (event : Outgoing) → new ≡ after_event t event
    → IsLawful WebSocket facts (events ++ event ∷ []) → StandsForSession t facts events → StandsForSession new facts (events ++ event ∷ [])
denies_after t new facts events event e lawful at =
    let s : t.session ≡ true = session_of t facts events at in
    subst (λ (u : ResponseText). StandsForSession u facts (events ++ event ∷ [])) (sym (e ∙ is_session_event t event s))
    (record { opens = at.opens; taken = by s at.taken })
  where
    by : t.session ≡ true → IsElsewhere t events ⊎ IsDenying t facts events
        → IsElsewhere (after_session_event t event) (events ++ event ∷ []) ⊎ IsDenying (after_session_event t event) facts (events ++ event ∷ [])
    by s (inl x) = inl (stays_elsewhere t events event x)
    by s (inr d) = goes_on t facts events event (test_of_beginning WebSocket (events ++ event ∷ []) lawful.begins) s d

-- ---- what the event adds

module _ (t : ResponseText) (facts : Facts) (events : List Outgoing) (event : Outgoing) (lawful : IsLawful WebSocket facts (events ++ event ∷ [])) where
  before : IsLawful WebSocket facts events
  before = fronts_are_lawful WebSocket facts events (event ∷ []) lawful

  adds_elsewhere : IsElsewhere t events → denial_text facts (events ++ event ∷ []) ≡ denial_text facts events ++ added_by_denial t event
  adds_elsewhere x =
      decided_text facts (events ++ event ∷ []) (decided_stays events event x.decided)
      ∙ sym (ap (λ (l : List ℕ). l ++ added_by_denial t event) (decided_text facts events x.decided) ∙ nothing_elsewhere t event x.phase)

  adds_as_response : is_decided (event ∷ []) ≡ false → added_by_denial t event ≡ added_by_response t (as_response event) → IsDenying t facts events
      → denial_text facts (events ++ event ∷ []) ≡ denial_text facts events ++ added_by_denial t event
  adds_as_response k same d =
      undecided_text facts (events ++ event ∷ []) (undecided_stays events event d.undecided k) lawful
      ∙ ap (λ (l : List Outgoing). message_text (closing_facts facts) (accepted (closing_facts facts) l)) (map-append as_response events (event ∷ []))
      ∙ next_text t (closing_facts facts) (map as_response events) (as_response event) d.has_accepted
      ∙ ap (λ (l : List ℕ). l ++ added_by_response t (as_response event)) (sym (undecided_text facts events d.undecided before))
      ∙ ap (λ (l : List ℕ). denial_text facts events ++ l) (sym same)

  -- an accept or a close comes first, and has no text here
  adds_nothing : is_decided (event ∷ []) ≡ true → events ≡ [] → added_by_denial t event ≡ []
      → denial_text facts (events ++ event ∷ []) ≡ denial_text facts events ++ added_by_denial t event
  adds_nothing k first none =
      decided_text facts (events ++ event ∷ []) (ap (λ (l : List Outgoing). is_decided (l ++ event ∷ [])) first ∙ k)
      ∙ sym (ap (λ (l : List Outgoing). denial_text facts l ++ added_by_denial t event) first ∙ none)

adds : (t : ResponseText) (facts : Facts) (events : List Outgoing) (event : Outgoing) → IsLawful WebSocket facts (events ++ event ∷ []) → IsDenying t facts events
    → denial_text facts (events ++ event ∷ []) ≡ denial_text facts events ++ added_by_denial t event
adds t facts events (DenialStart a c) lawful d = adds_as_response t facts events (DenialStart a c) lawful refl refl d
adds t facts events (DenialBody a c) lawful d = adds_as_response t facts events (DenialBody a c) lawful refl refl d
adds t facts events (WsAccept a c) lawful d =
    adds_nothing t facts events (WsAccept a c) lawful refl (is_first events (WsAccept a c) refl refl d.undecided (test_of_beginning WebSocket (events ++ WsAccept a c ∷ []) lawful.begins)) refl
adds t facts events (WsClose a c) lawful d =
    adds_nothing t facts events (WsClose a c) lawful refl (is_first events (WsClose a c) refl refl d.undecided (test_of_beginning WebSocket (events ++ WsClose a c ∷ []) lawful.begins)) refl
adds t facts events event lawful d = absurd (cc (no_response t facts events event refl refl d.undecided (test_of_beginning WebSocket (events ++ event ∷ []) lawful.begins)))

text_after : (t : ResponseText) (facts : Facts) (events : List Outgoing) (event : Outgoing) → IsLawful WebSocket facts (events ++ event ∷ []) → StandsForSession t facts events
    → denial_text facts (events ++ event ∷ []) ≡ denial_text facts events ++ added_by t event
text_after t facts events event lawful at =
    by at.taken ∙ ap (λ (b : Bool). denial_text facts events ++ (if b then added_by_denial t event else added_by_response t event)) (sym (session_of t facts events at))
  where
    by : IsElsewhere t events ⊎ IsDenying t facts events → denial_text facts (events ++ event ∷ []) ≡ denial_text facts events ++ added_by_denial t event
    by (inl x) = adds_elsewhere t facts events event lawful x
    by (inr d) = adds t facts events event lawful d

pub denial_grows : (t : ResponseText) (facts : Facts) (events : List Outgoing) (event : Outgoing) (old new : List ℕ) → new ≡ old ++ added_by t event
    → IsLawful WebSocket facts (events ++ event ∷ []) → StandsForSession t facts events
    → Grows (denial_text facts events) (denial_text facts (events ++ event ∷ [])) old new
denial_grows t facts events event old new e lawful at = record { added = added_by t event; text = text_after t facts events event lawful at; output = e }

-- ---- lack of memory

a_start : (t : ResponseText) (event : Outgoing) → IsTrue (denial_starts t event) → IsTrue (is_denial_start event)
a_start t (DenialStart a b) h = refl
a_start t _ h = cc

pub denial_lacks : (t : ResponseText) (facts : Facts) (events : List Outgoing) (event : Outgoing) (capacity len : ℕ)
    → IsTrue (starts t event) ⊎ LacksRoom capacity len (added_by t event)
    → IsLawful WebSocket facts (events ++ event ∷ []) → StandsForSession t facts events → LacksDenialMemory capacity len facts events event
denial_lacks t facts events event capacity len (inl start) lawful at =
    inl (a_start t event (sym (ap (λ (b : Bool). if b then denial_starts t event else response_starts t event) (session_of t facts events at)) ∙ start))
denial_lacks t facts events event capacity len (inr room) lawful at =
    let longer : length (denial_text facts (events ++ event ∷ [])) ≡ length (denial_text facts events) + length (added_by t event) =
    ap (λ (x : List ℕ). length x) (text_after t facts events event lawful at) ∙ length-append (denial_text facts events) (added_by t event) in
    inr (omega (arith, room, longer))

-- ---- how far the response is, and the end of the task

pub denial_progress_is : (t : ResponseText) (facts : Facts) (events : List Outgoing) → StandsForSession t facts events
    → progress_at t.phase t.close ≡ denial_progress facts events
denial_progress_is t facts events at = by at.taken
  where
    by : IsElsewhere t events ⊎ IsDenying t facts events → progress_at t.phase t.close ≡ denial_progress facts events
    by (inl x) =
        ap (λ (p : Phase). progress_at p t.close) x.phase
        ∙ sym (ap (λ (b : Bool). if b then Begun else progress_of (closing_facts facts) (map as_response events)) x.decided)
    by (inr d) =
        progress_in_text t (closing_facts facts) (accepted (closing_facts facts) (map as_response events)) d.has_accepted
        ∙ sym (ap (λ (b : Bool). if b then Begun else progress_of (closing_facts facts) (map as_response events)) d.undecided)

pub denial_end_adds_nothing : (t : ResponseText) (facts : Facts) (events : List Outgoing) (input : Input) (out : List ℕ) → StandsForSession t facts events → is_begun t.phase ≡ true
    → out ≡ out ++ denial_end_text facts events input
denial_end_adds_nothing t facts events input out at h = by at.taken
  where
    by : IsElsewhere t events ⊎ IsDenying t facts events → out ≡ out ++ denial_end_text facts events input
    by (inl x) = sym (ap (λ (b : Bool). out ++ (if b then [] else end_text (closing_facts facts) (map as_response events) input)) x.decided ∙ append-nil out)
    by (inr d) =
        end_adds_nothing t (closing_facts facts) (map as_response events) input out d.has_accepted h
        ∙ sym (ap (λ (b : Bool). out ++ (if b then [] else end_text (closing_facts facts) (map as_response events) input)) d.undecided)
