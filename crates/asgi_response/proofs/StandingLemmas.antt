-- What a text stands for after one more event, and what the event adds.
use Rattle.std.proofs.Common.{◌≡◌, ◌≢◌, ℕ, ◌+◌, Bool, true, false, List, [], ◌∷◌, ◌++◌, length, map, refl, sym, ap, ◌∙◌, subst, append_assoc, length-append, ◌⊎◌, inl, inr, IsTrue, arith}
use Rattle.std.proofs.lemmas.List.{append-nil, map-append}
use Rattle.std.specs.Prelude.{not, ◌&&◌, if◌then◌else◌, Some, None}
use Rattle.asgi_types.specs.Fields.{HeaderField}
use Rattle.asgi_types.specs.declared.facts.Facts.{Facts}
use Rattle.asgi_types.specs.declared.facts.Framing.{Framing}
use Rattle.asgi_types.specs.declared.facts.Framing.TheVariants.{Length, Chunked, Upgrade}
use Rattle.asgi_types.specs.declared.scope.Kind.TheVariants.{Http}
use Rattle.asgi_types.specs.declared.outgoing.Outgoing.{Outgoing}
use Rattle.asgi_types.specs.declared.outgoing.Outgoing.TheVariants.{ResponseStart, ResponseBody, ResponseTrailers}
use Rattle.asgi_protocol.specs.ContentLengths.{content_length}
use Rattle.asgi_protocol.specs.Passing.{passes}
use Rattle.asgi_protocol.specs.Rules.{is_status, is_faulty}
use Rattle.asgi_response.specs.declared.content.Content.{Content}
use Rattle.asgi_response.specs.declared.content.Trailing.{Trailing}
use Rattle.asgi_response.specs.declared.content.Trailing.TheVariants as trailing
use Rattle.asgi_response.specs.declared.text.ResponseText.{ResponseText}
use Rattle.asgi_response.specs.declared.text.Phase.{Phase}
use Rattle.asgi_response.specs.declared.text.Phase.TheVariants.{Waiting, Started, Begun, Trailers, Complete}
use Rattle.asgi_response.specs.Accepted.{with_event, accepted}
use Rattle.asgi_response.specs.Content.{part_text, section_text, has_content}
use Rattle.asgi_response.specs.Fields.{is_chunked, closes, head_text}
use Rattle.asgi_response.specs.Progress.{closes_after}
use Rattle.asgi_response.specs.Response.{sends_trailers, rest_text, message_text, event_text, continue_text, response_text}
use Rattle.asgi_types.specs.Room.{LacksRoom}
use Rattle.asgi_response.specs.Room.{LacksMemory, is_start}
use Rattle.asgi_response.specs.Standing.{coding_of, trailing_of, part, section, IsOpen, HasContent, IsPhase, HasAccepted, opens_session, StandsFor, Grows}
use Rattle.asgi_response.specs.private.Steps.{is_sent, coded_text, is_allowed, left_at_start, content_due, after_content, next_phase, trailers_due, has_framing_field, may_start, content_at_start}
use Rattle.asgi_response.specs.private.Steps.{after_part, part_added, after_section, section_added, after_response_event, response_starts, added_by_response}
use Rattle.asgi_response.specs.private.Steps.{after_session_event, denial_starts, added_by_denial, after_event, starts, added_by}
use Rattle.asgi_protocol.proofs.CountLemmas.{with_sent-zero}
use Rattle.asgi_response.proofs.AcceptedLemmas.{passes_body, promised_after, with_trailers, passes_section, no_place, first_start, other_scope, accepted-push}
use Rattle.asgi_response.proofs.LawLemmas.{message_after}

-- ---- an event that passes or not

taken : (facts : Facts) (said : List Outgoing) (event : Outgoing) (b : Bool) → passes Http facts said event ≡ b → (if b then said ++ event ∷ [] else said) ≡ with_event facts said event
taken facts said event b h = sym (ap (λ (c : Bool). if c then said ++ event ∷ [] else said) h)

pub not_taken : (facts : Facts) (said : List Outgoing) (event : Outgoing) → passes Http facts said event ≡ false → said ≡ with_event facts said event
not_taken facts said event h = taken facts said event false h

-- ---- the text of an event

is_sent_where : (sent : Bool) → is_sent (if sent then trailing.Sent else trailing.Unsent) ≡ sent
is_sent_where true = refl
is_sent_where false = refl

trailers_sent : (facts : Facts) (status : ℕ) (headers : List HeaderField) (announced : Bool)
    → is_sent (trailing_of announced (sends_trailers facts status headers announced)) ≡ sends_trailers facts status headers announced
trailers_sent facts status headers true = is_sent_where (sends_trailers facts status headers true)
trailers_sent facts status headers false = refl

coded_is : (content chunked sent : Bool) (body : List ℕ) (more : Bool)
    → (if content then part_text chunked sent body more else []) ≡ coded_text (coding_of content chunked) sent body more
coded_is true true sent body more = refl
coded_is true false sent body more = refl
coded_is false chunked sent body more = refl

-- the text of a body, from the content that is due
body_coded : {facts : Facts} {said : List Outgoing} {status : ℕ} {headers : List HeaderField} {announced : Bool} {parts : List (List ℕ)} {content : Content}
    → IsOpen facts said status headers announced parts content → (body : List ℕ) (more : Bool)
    → rest_text facts status headers announced (ResponseBody body more) ≡ coded_text content.coding (is_sent content.trailing) body more
body_coded {facts} {said} {status} {headers} {announced} {parts} {content} o body more =
    let has : Bool = has_content facts.head_only status in
    let chunked : Bool = is_chunked facts.version status headers in
    coded_is has chunked (sends_trailers facts status headers announced) body more
    ∙ sym (ap (λ c. coded_text c (is_sent content.trailing) body more) o.coding
    ∙ ap (λ (s : Bool). coded_text (coding_of has chunked) s body more) (ap is_sent o.trailing ∙ trailers_sent facts status headers announced))

-- a start that something follows has its head's text already
later_text : (facts : Facts) (status : ℕ) (headers : List HeaderField) (announced : Bool) (front : List Outgoing) (x : Outgoing) (back : List Outgoing) (event : Outgoing)
    → event_text facts (ResponseStart status headers announced ∷ (front ++ x ∷ back)) event ≡ rest_text facts status headers announced event
later_text facts status headers announced [] x back event = refl
later_text facts status headers announced (f ∷ front) x back event = refl

-- ---- a text that has accepted these events, and one more

-- the new text stands for these events, and what it added is what their text has more
record Goes (facts : Facts) (said : List Outgoing) (new : ResponseText) (added : List ℕ) (more : List Outgoing) : Type 0 where
  pub stands : HasAccepted new facts more
  pub text : message_text facts more ≡ message_text facts said ++ added

-- the phase after the last body
ends_in : (facts : Facts) (said : List Outgoing) (status : ℕ) (headers : List HeaderField) (announced : Bool) (parts : List (List ℕ)) (last : List ℕ)
    → said ≡ ResponseStart status headers announced ∷ map part parts ++ ResponseBody last false ∷ []
    → IsPhase facts said [] (after_content (trailing_of announced (sends_trailers facts status headers announced)))
ends_in facts said status headers false parts last e = record { status = status; headers = headers; parts = parts; last = last; trailers = None; in_order = e }
ends_in facts said status headers true parts last e = by (sends_trailers facts status headers true) refl
  where
    by : (sent : Bool) → sends_trailers facts status headers true ≡ sent → IsPhase facts said [] (after_content (if sent then trailing.Sent else trailing.Unsent))
    by true h = record { status = status; headers = headers; parts = parts; last = last; sections = []; events = e; are_sent = sym h }
    by false h = record { status = status; headers = headers; parts = parts; last = last; sections = []; events = e; are_sent = sym h }

abbrev pub started_text : ResponseText → ℕ → List HeaderField → (announced : Bool) → ResponseText
started_text text status headers announced = record text {
  phase = Started (content_at_start text status headers announced);
  head = head_text (is_chunked text.version status headers) (closes text.close headers) status headers;
  close = closes text.close headers;
}

module _ (t : ResponseText) (facts : Facts) (said : List Outgoing) (has : HasAccepted t facts said) where
  still : Goes facts said t [] said
  still = record { stands = has; text = sym (append-nil (message_text facts said)) }

  refused : (event : Outgoing) → passes Http facts said event ≡ false → Goes facts said t [] (with_event facts said event)
  refused event h = subst (λ (s : List Outgoing). Goes facts said t [] s) (not_taken facts said event h) still

  -- the one choice follows the other
  choose : (P : Bool → List Outgoing → Type 0) (event : Outgoing) (b : Bool) → passes Http facts said event ≡ b → (b ≡ true → P true (said ++ event ∷ [])) → P false said
      → P b (with_event facts said event)
  choose P event true e go stay = subst (P true) (taken facts said event true e) (go refl)
  choose P event false e go stay = subst (P false) (taken facts said event false e) stay

  -- after an event that is no start the fields are as before, but for the phase and the head
  moved : {status : ℕ} {headers : List HeaderField} {announced : Bool} {rest : List Outgoing} → said ≡ ResponseStart status headers announced ∷ rest
      → (event : Outgoing) (phase : Phase) (head : List ℕ) → IsPhase facts (said ++ event ∷ []) head phase → HasAccepted (record t { phase = phase; head = head }) facts (said ++ event ∷ [])
  moved e event phase head is = record {
    version = has.version;
    head_only = has.head_only;
    close = has.close ∙ ap (closes_after facts) e ∙ sym (ap (λ (s : List Outgoing). closes_after facts (s ++ event ∷ [])) e);
    expect = has.expect;
    trailers_ok = has.trailers_ok;
    session = has.session;
    phase = is;
  }

  -- ---- a start

  started : (status : ℕ) (headers : List HeaderField) (announced : Bool) → said ≡ []
      → Goes facts said (started_text t status headers announced) [] (said ++ ResponseStart status headers announced ∷ [])
  started status headers announced none =
      let close : t.close ≡ facts.close = has.close ∙ ap (closes_after facts) none in
      subst (λ (s : List Outgoing). Goes facts s (started_text t status headers announced) [] (s ++ ResponseStart status headers announced ∷ [])) (sym none) (record {
        stands = record {
          version = has.version;
          head_only = has.head_only;
          close = ap (λ (b : Bool). closes b headers) close;
          expect = has.expect;
          trailers_ok = has.trailers_ok;
          session = has.session;
          phase = record {
            status = status;
            headers = headers;
            announced = announced;
            is_open = record {
              events = refl;
              coding = rw (has.version, has.head_only) refl;
              trailing = rw (has.version, has.head_only, has.trailers_ok) refl;
              left = rw has.head_only (with_sent-zero (left_at_start facts.head_only status (content_length headers)));
            };
            text = rw (has.version, close) refl;
          };
        };
        text = refl;
      })

  start_step : (status : ℕ) (headers : List HeaderField) (announced : Bool) (phase : Phase) → IsPhase facts said t.head phase
      → Goes facts said (if may_start phase status (is_faulty (content_length headers)) then started_text t status headers announced else t) []
      (with_event facts said (ResponseStart status headers announced))
  start_step status headers announced Waiting none =
      choose (λ b s. Goes facts said (if b then started_text t status headers announced else t) [] s) (ResponseStart status headers announced)
      (is_status status && not (is_faulty (content_length headers))) (first_start facts said status headers announced none) (λ h. started status headers announced none) still
  start_step status headers announced phase is = refused (ResponseStart status headers announced) (no_place facts said t.head phase is (ResponseStart status headers announced) refl)

  -- ---- a body

  next_is : {status : ℕ} {headers : List HeaderField} {announced : Bool} {parts : List (List ℕ)} {content : Content} → IsOpen facts said status headers announced parts content
      → (body : List ℕ) (more : Bool) → is_allowed content.left (length body) more ≡ true → IsPhase facts (said ++ ResponseBody body more ∷ []) [] (next_phase content (length body) more)
  next_is {status} {headers} {announced} {parts} {content} o body true fits = record {
    status = status;
    headers = headers;
    announced = announced;
    front = parts;
    last = body;
    is_open = record {
      events = ap (λ (s : List Outgoing). s ++ part body ∷ []) o.events ∙ ap (λ (es : List Outgoing). ResponseStart status headers announced ∷ es) (sym (map-append part parts (body ∷ [])));
      coding = o.coding;
      trailing = o.trailing;
      left = promised_after o body fits;
    };
    written = refl;
  }
  next_is {status} {headers} {announced} {parts} {content} o body false fits =
      subst (λ (ends : Trailing). IsPhase facts (said ++ ResponseBody body false ∷ []) [] (after_content ends)) (sym o.trailing)
      (ends_in facts (said ++ ResponseBody body false ∷ []) status headers announced parts body (ap (λ (s : List Outgoing). s ++ ResponseBody body false ∷ []) o.events))

  open_step : {status : ℕ} {headers : List HeaderField} {announced : Bool} {parts : List (List ℕ)} {content : Content} → IsOpen facts said status headers announced parts content
      → (body : List ℕ) (more : Bool) → event_text facts said (ResponseBody body more) ≡ t.head ++ rest_text facts status headers announced (ResponseBody body more)
      → Goes facts said (after_part t (Some content) body more) (part_added t.head (Some content) body more) (with_event facts said (ResponseBody body more))
  open_step {content = content} o body more adds =
      let text : List ℕ = t.head ++ coded_text content.coding (is_sent content.trailing) body more in
      choose (λ b s. Goes facts said (if b then record t { phase = next_phase content (length body) more; head = [] } else t) (if b then text else []) s) (ResponseBody body more)
      (is_allowed content.left (length body) more) (passes_body o body more)
      (λ fits. record {
        stands = moved o.events (ResponseBody body more) (next_phase content (length body) more) [] (next_is o body more fits);
        text = message_after facts said (ResponseBody body more)
            ∙ ap (λ (x : List ℕ). message_text facts said ++ x) (adds ∙ ap (λ (x : List ℕ). t.head ++ x) (body_coded o body more));
      }) still

  body_step : (body : List ℕ) (more : Bool) (phase : Phase) → IsPhase facts said t.head phase
      → Goes facts said (after_part t (content_due phase) body more) (part_added t.head (content_due phase) body more) (with_event facts said (ResponseBody body more))
  body_step body more (Started content) s =
      let event : Outgoing = ResponseBody body more in
      open_step s.is_open body more
      (ap (λ (l : List Outgoing). event_text facts l event) s.is_open.events ∙ ap (λ (x : List ℕ). x ++ rest_text facts s.status s.headers s.announced event) (sym s.text))
  body_step body more (Begun content) s =
      let event : Outgoing = ResponseBody body more in
      open_step s.is_open body more
      (ap (λ (l : List Outgoing). event_text facts l event) (s.is_open.events ∙ ap (λ (es : List Outgoing). ResponseStart s.status s.headers s.announced ∷ es) (map-append part s.front (s.last ∷ [])))
      ∙ later_text facts s.status s.headers s.announced (map part s.front) (part s.last) [] event
      ∙ ap (λ (x : List ℕ). x ++ rest_text facts s.status s.headers s.announced event) (sym s.written))
  body_step body more phase is = refused (ResponseBody body more) (no_place facts said t.head phase is (ResponseBody body more) refl)

  -- ---- trailers

  section_is : {sent : Bool} → HasContent facts said sent → (fields : List HeaderField) (more : Bool)
      → IsPhase facts (said ++ ResponseTrailers fields more ∷ []) t.head (if more then Trailers sent else Complete)
  section_is c fields true = record {
    status = c.status;
    headers = c.headers;
    parts = c.parts;
    last = c.last;
    sections = c.sections ++ fields ∷ [];
    events = with_trailers c (section fields)
        ∙ ap (λ (es : List Outgoing). (ResponseStart c.status c.headers true ∷ map part c.parts) ++ ResponseBody c.last false ∷ es) (sym (map-append section c.sections (fields ∷ [])));
    are_sent = c.are_sent;
  }
  section_is c fields false = record {
    status = c.status;
    headers = c.headers;
    parts = c.parts;
    last = c.last;
    trailers = Some (record { parts = c.sections; last = fields });
    in_order = with_trailers c (ResponseTrailers fields false);
  }

  section_text_is : {sent : Bool} → HasContent facts said sent → (fields : List HeaderField) (more : Bool)
      → message_text facts (said ++ ResponseTrailers fields more ∷ []) ≡ message_text facts said ++ (if sent then section_text fields more else [])
  section_text_is c fields more =
      let event : Outgoing = ResponseTrailers fields more in
      message_after facts said event
      ∙ ap (λ (x : List ℕ). message_text facts said ++ x) (ap (λ (l : List Outgoing). event_text facts l event) c.events
      ∙ later_text facts c.status c.headers true (map part c.parts) (ResponseBody c.last false) (map section c.sections) event
      ∙ ap (λ (b : Bool). if b then section_text fields more else []) (sym c.are_sent))

  section_taken : (sent : Bool) → t.phase ≡ Trailers sent → HasContent facts said sent → (fields : List HeaderField) (more : Bool)
      → Goes facts said (if more then t else record t { phase = Complete }) (if sent then section_text fields more else []) (said ++ ResponseTrailers fields more ∷ [])
  section_taken sent e c fields true = record {
    stands = moved c.events (section fields) t.phase t.head (subst (IsPhase facts (said ++ section fields ∷ []) t.head) (sym e) (section_is c fields true));
    text = section_text_is c fields true;
  }
  section_taken sent e c fields false = record {
    stands = moved c.events (ResponseTrailers fields false) Complete t.head (section_is c fields false);
    text = section_text_is c fields false;
  }

  section_step : (fields : List HeaderField) (more : Bool) (phase : Phase) → t.phase ≡ phase → IsPhase facts said t.head phase
      → Goes facts said (after_section t (trailers_due phase) fields more) (section_added (trailers_due phase) fields more) (with_event facts said (ResponseTrailers fields more))
  section_step fields more (Trailers sent) e c = by (has_framing_field fields) refl
    where
      by : (bad : Bool) → has_framing_field fields ≡ bad
          → Goes facts said (if bad then t else (if more then t else record t { phase = Complete })) (if bad then [] else (if sent then section_text fields more else []))
          (with_event facts said (ResponseTrailers fields more))
      by true h = refused (ResponseTrailers fields more) (passes_section c fields more ∙ ap (λ (b : Bool). if b then false else true) h)
      by false h =
          subst (Goes facts said (if more then t else record t { phase = Complete }) (if sent then section_text fields more else []))
          (taken facts said (ResponseTrailers fields more) true (passes_section c fields more ∙ ap (λ (b : Bool). if b then false else true) h)) (section_taken sent e c fields more)
  section_step fields more phase e is = refused (ResponseTrailers fields more) (no_place facts said t.head phase is (ResponseTrailers fields more) refl)

  -- ---- any event

  event_step : (event : Outgoing) → Goes facts said (after_response_event t event) (added_by_response t event) (with_event facts said event)
  event_step (ResponseStart status headers announced) = start_step status headers announced t.phase has.phase
  event_step (ResponseBody body more) = body_step body more t.phase has.phase
  event_step (ResponseTrailers fields more) = section_step fields more t.phase refl has.phase
  event_step event = refused event (other_scope facts said event refl)

module _ (t : ResponseText) (facts : Facts) (events : List Outgoing) (event : Outgoing) (has : HasAccepted t facts (accepted facts events)) where
  next : Goes facts (accepted facts events) (after_response_event t event) (added_by_response t event) (accepted facts (events ++ event ∷ []))
  next =
      subst (Goes facts (accepted facts events) (after_response_event t event) (added_by_response t event)) (sym (accepted-push facts events event))
      (event_step t facts (accepted facts events) has event)

  pub accepted_after : HasAccepted (after_response_event t event) facts (accepted facts (events ++ event ∷ []))
  accepted_after = next.stands

  pub next_text : message_text facts (accepted facts (events ++ event ∷ [])) ≡ message_text facts (accepted facts events) ++ added_by_response t event
  next_text = next.text

no_session : (framing : Framing) → framing ≢ Upgrade → opens_session framing ≡ false
no_session (Length n) h = refl
no_session Chunked h = refl
no_session Upgrade h = absurd (h refl)

answers_request : (t : ResponseText) (facts : Facts) (events : List Outgoing) → StandsFor t facts events → t.session ≡ false
answers_request t facts events at =
    let has : HasAccepted t facts (accepted facts events) = at.has_accepted in has.session ∙ no_session facts.framing at.plain

pub stands_after : (t new : ResponseText) (facts : Facts) (events : List Outgoing) (event : Outgoing) → new ≡ after_event t event
    → StandsFor t facts events → StandsFor new facts (events ++ event ∷ [])
stands_after t new facts events event e at = record {
  plain = at.plain;
  has_accepted = subst (λ (u : ResponseText). HasAccepted u facts (accepted facts (events ++ event ∷ [])))
      (sym (e ∙ ap (λ (b : Bool). if b then after_session_event t event else after_response_event t event) (answers_request t facts events at)))
      (accepted_after t facts events event at.has_accepted);
}

text_after : (t : ResponseText) (facts : Facts) (events : List Outgoing) (event : Outgoing) → StandsFor t facts events
    → response_text facts (events ++ event ∷ []) ≡ response_text facts events ++ added_by t event
text_after t facts events event at =
    let front : List ℕ = continue_text facts.expect in
    ap (λ (x : List ℕ). front ++ x) (next_text t facts events event at.has_accepted)
    ∙ sym (append_assoc front (message_text facts (accepted facts events)) (added_by_response t event))
    ∙ ap (λ (b : Bool). response_text facts events ++ (if b then added_by_denial t event else added_by_response t event)) (sym (answers_request t facts events at))

pub grows_after : (t : ResponseText) (facts : Facts) (events : List Outgoing) (event : Outgoing) (old new : List ℕ) → new ≡ old ++ added_by t event
    → StandsFor t facts events → Grows (response_text facts events) (response_text facts (events ++ event ∷ [])) old new
grows_after t facts events event old new e at = record { added = added_by t event; text = text_after t facts events event at; output = e }

-- if a text starts, the start is lawful
first_passes : (facts : Facts) (said : List Outgoing) (head : List ℕ) (status : ℕ) (headers : List HeaderField) (announced : Bool) (phase : Phase) → IsPhase facts said head phase
    → IsTrue (may_start phase status (is_faulty (content_length headers))) → IsTrue (passes Http facts said (ResponseStart status headers announced))
first_passes facts said head status headers announced Waiting none h = first_start facts said status headers announced none ∙ h
first_passes facts said head status headers announced _ is h = cc

start_passes : (t : ResponseText) (facts : Facts) (said : List Outgoing) (event : Outgoing) → HasAccepted t facts said → IsTrue (response_starts t event)
    → IsTrue (is_start event && passes Http facts said event)
start_passes t facts said (ResponseStart status headers announced) at h = first_passes facts said t.head status headers announced t.phase at.phase h
start_passes t facts said _ at h = cc

-- an event is refused if its own head, or the output, has no room
pub lacks_after : (t : ResponseText) (facts : Facts) (events : List Outgoing) (event : Outgoing) (capacity len : ℕ)
    → IsTrue (starts t event) ⊎ LacksRoom capacity len (added_by t event) → StandsFor t facts events
    → LacksMemory capacity len facts events event
lacks_after t facts events event capacity len (inl start) at =
    inl (start_passes t facts (accepted facts events) event at.has_accepted
    (ap (λ (b : Bool). if b then denial_starts t event else response_starts t event) (sym (answers_request t facts events at)) ∙ start))
lacks_after t facts events event capacity len (inr room) at =
    let longer : length (response_text facts (events ++ event ∷ [])) ≡ length (response_text facts events) + length (added_by t event) =
    ap (λ (x : List ℕ). length x) (text_after t facts events event at) ∙ length-append (response_text facts events) (added_by t event) in
    inr (omega (arith, room, longer))
