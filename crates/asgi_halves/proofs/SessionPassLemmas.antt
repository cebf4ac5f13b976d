-- What an event that passes shows about those that were sent before it, in a session.
use Rattle.asgi_halves.proofs.SessionWords.{Bool, Closed, DenialBody, DenialStart, Facts, HeaderField, List, Open, Option, Outgoing, Payload, WebSocket, WsAccept, WsClose, WsSend, []}
use Rattle.asgi_halves.proofs.SessionWords.{accepted_session, answer_to, begins_row, both, false, fold-append, goes_on, if◌then◌else◌, inl, inr, is_close, is_closed, is_denial_part, is_empty}
use Rattle.asgi_halves.proofs.SessionWords.{is_last_denial_part, is_message, is_of, is_passed, is_row, lines_on, or_none, passes, refl, sym, true, verdict_on, with_session_event, ℕ, ◌&&◌, ◌++◌, ◌∙◌}
use Rattle.asgi_halves.proofs.SessionWords.{◌∷◌, ◌≡◌, ◌⊎◌}
use Rattle.asgi_protocol.proofs.PassLemmas as passing

-- ---- what was sent, with one more event

pub accepted_more : (facts : Facts) (events : List Outgoing) (event : Outgoing) (b : Bool) → passes WebSocket facts (accepted_session facts events) event ≡ b
    → accepted_session facts (events ++ event ∷ []) ≡ (if b then accepted_session facts events ++ event ∷ [] else accepted_session facts events)
accepted_more facts events event b h = rw (fold-append (with_session_event facts) [] events (event ∷ []), h) refl

-- ---- the last event of a row

not_empty : (events : List Outgoing) (event : Outgoing) → is_empty (events ++ event ∷ []) ≡ false
not_empty [] event = refl
not_empty (x ∷ events) event = refl

and_false : (b : Bool) → (b && false) ≡ false
and_false true = refl
and_false false = refl

-- no row ends with an event that is not of the last sort
row_open : (each last : Outgoing → Bool) (events : List Outgoing) (event : Outgoing) → last event ≡ false → is_row each last is_empty (events ++ event ∷ []) ≡ false
row_open each last [] event other = simp (other, and_false)
row_open each last (x ∷ events) event other = simp (row_open each last events event other, not_empty events event, and_false)

-- what begins a row is a whole one, if it ends with an event of the last sort
row_whole : (each last : Outgoing → Bool) (events : List Outgoing) (event : Outgoing) → last event ≡ true → begins_row each last is_empty (events ++ event ∷ []) ≡ true
    → is_row each last is_empty (events ++ event ∷ []) ≡ true
row_whole each last [] event is h = simp (is, and_false)
row_whole each last (x ∷ events) event is h =
    let q = both (each x) (begins_row each last is_empty (events ++ event ∷ [])) (simp (not_empty events event, and_false, or_none) at h) in
    rw (q.0, row_whole each last events event is q.1) refl

-- ---- by the order of events

-- neither sort of a row has such an event
no_row : {A : Type 0} (each last : Outgoing → Bool) (events : List Outgoing) (event : Outgoing) → each event ≡ false → last event ≡ false → begins_row each last is_empty (events ++ event ∷ []) ≡ true → A
no_row each last events event a b h = absurd (cc (sym (ends events) ∙ h))
  where
    ends : (events : List Outgoing) → begins_row each last is_empty (events ++ event ∷ []) ≡ false
    ends [] = rw (a, b) refl
    ends (x ∷ events) = simp (ends events, not_empty events event, and_false)

no_more : {A : Type 0} (events : List Outgoing) (event : Outgoing) → is_empty (events ++ event ∷ []) ≡ true → A
no_more events event h = absurd (cc (sym (not_empty events event) ∙ h))

-- an accept or the start of a denial is the first event
pub is_first : (said : List Outgoing) (event : Outgoing) → is_message event ≡ false → is_close event ≡ false → is_denial_part event ≡ false → is_last_denial_part event ≡ false
    → goes_on WebSocket said event ≡ true → said ≡ []
is_first [] event message close part last h = refl
is_first (WsAccept a b ∷ events) event message close part last h = no_row is_message is_close events event message close h
is_first (WsClose a b ∷ events) event message close part last h = no_more events event h
is_first (DenialStart a b ∷ events) event message close part last h = no_row is_denial_part is_last_denial_part events event part last h
is_first (_ ∷ events) event message close part last h = absurd (cc)

abbrev pub IsDenied : List Outgoing → Type 0
IsDenied said = (status : ℕ) × (headers : List HeaderField) × (events : List Outgoing) × (said ≡ DenialStart status headers ∷ events)

abbrev pub IsAccepted : List Outgoing → Type 0
IsAccepted said = (subprotocol : Option (List ℕ)) × (headers : List HeaderField) × (events : List Outgoing) × (said ≡ WsAccept subprotocol headers ∷ events)

pub body_follows : (said : List Outgoing) (body : List ℕ) (more_body : Bool) → goes_on WebSocket said (DenialBody body more_body) ≡ true → IsDenied said
body_follows (WsAccept a b ∷ events) body more_body h = no_row is_message is_close events (DenialBody body more_body) refl refl h
body_follows (WsClose a b ∷ events) body more_body h = no_more events (DenialBody body more_body) h
body_follows (DenialStart a b ∷ events) body more_body h = (a, b, events, refl)
body_follows _ body more_body h = absurd (cc)

pub message_follows : (said : List Outgoing) (payload : Payload) → goes_on WebSocket said (WsSend payload) ≡ true → IsAccepted said
message_follows (WsAccept a b ∷ events) payload h = (a, b, events, refl)
message_follows (WsClose a b ∷ events) payload h = no_more events (WsSend payload) h
message_follows (DenialStart a b ∷ events) payload h = no_row is_denial_part is_last_denial_part events (WsSend payload) refl refl h
message_follows _ payload h = absurd (cc)

pub close_follows : (said : List Outgoing) (code : ℕ) (reason : List ℕ) → goes_on WebSocket said (WsClose code reason) ≡ true → (said ≡ []) ⊎ IsAccepted said
close_follows [] code reason h = inl refl
close_follows (WsAccept a b ∷ events) code reason h = inr (a, b, events, refl)
close_follows (WsClose a b ∷ events) code reason h = no_more events (WsClose code reason) h
close_follows (DenialStart a b ∷ events) code reason h = no_row is_denial_part is_last_denial_part events (WsClose code reason) refl refl h
close_follows (_ ∷ events) code reason h = absurd (cc)

-- ---- if an event passes

met : (facts : Facts) (said : List Outgoing) (event : Outgoing) → passes WebSocket facts said event ≡ true → passing.Passes WebSocket facts said event
met facts said event h = passing.passes WebSocket facts said false event (is_passed (verdict_on WebSocket facts said false event) h)

pub goes : (facts : Facts) (said : List Outgoing) (event : Outgoing) → passes WebSocket facts said event ≡ true → goes_on WebSocket said event ≡ true
goes facts said event h = (met facts said event h).goes

pub is_in_scope : (facts : Facts) (said : List Outgoing) (event : Outgoing) → passes WebSocket facts said event ≡ true → is_of WebSocket event ≡ true
is_in_scope facts said event h = (met facts said event h).of

pub not_closed : (facts : Facts) (said : List Outgoing) (event : Outgoing) → passes WebSocket facts said event ≡ true → is_closed WebSocket said ≡ false
not_closed facts said event h = (passing.no_line WebSocket (lines_on WebSocket facts said false event) (is_passed (verdict_on WebSocket facts said false event) h)).closed

-- ---- how far the answer is

pub open_after_send : (facts : Facts) (said : List Outgoing) (payload : Payload) → passes WebSocket facts said (WsSend payload) ≡ true → answer_to (said ++ WsSend payload ∷ []) ≡ Open
open_after_send facts said payload h =
    let s = message_follows said payload (goes facts said (WsSend payload) h) in
    rw (s.3, row_open is_message is_close s.2 (WsSend payload) refl) refl

pub closed_after_close : (facts : Facts) (said : List Outgoing) (code : ℕ) (reason : List ℕ) → IsAccepted said → passes WebSocket facts said (WsClose code reason) ≡ true
    → answer_to (said ++ WsClose code reason ∷ []) ≡ Closed
closed_after_close facts said code reason s h =
    let goes = rw s.3 at (goes facts said (WsClose code reason) h) in rw (s.3, row_whole is_message is_close s.2 (WsClose code reason) refl goes) refl

pub open_is_accepted : (said : List Outgoing) → answer_to said ≡ Open → IsAccepted said
open_is_accepted (WsAccept a b ∷ events) h = (a, b, events, refl)
open_is_accepted _ h = absurd (cc)
