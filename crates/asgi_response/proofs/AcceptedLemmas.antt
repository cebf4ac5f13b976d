-- What passes in each phase of a response: after a start and the parts that follow it, after the whole content, and else.
use Rattle.std.proofs.Common.{◌≡◌, ℕ, ◌+◌, Bool, true, false, List, [], ◌∷◌, ◌++◌, length, map, refl, sym, ap, ◌∙◌, append_assoc, arith}
use Rattle.std.proofs.lemmas.List.{append-nil}
use Rattle.std.proofs.lemmas.List.Sums.{fold-append}
use Rattle.std.specs.Prelude.{not, ◌&&◌, ◌||◌, if◌then◌else◌, Option}
use Rattle.asgi_types.specs.Fields.{HeaderField}
use Rattle.asgi_types.specs.declared.facts.Facts.{Facts}
use Rattle.asgi_types.specs.declared.scope.Kind.TheVariants.{Http}
use Rattle.asgi_types.specs.declared.outgoing.Outgoing.{Outgoing}
use Rattle.asgi_types.specs.declared.outgoing.Outgoing.TheVariants.{ResponseStart, ResponseBody, ResponseTrailers}
use Rattle.asgi_protocol.specs.declared.verdict.Verdict.{Verdict}
use Rattle.asgi_protocol.specs.declared.verdict.Verdict.TheVariants.{Ignored, Refused}
use Rattle.asgi_protocol.specs.BytesLeft.{is_above, is_below, left_after, with_sent}
use Rattle.asgi_protocol.specs.ContentLengths.{content_length}
use Rattle.asgi_protocol.specs.Passing.{is_pass, passes}
use Rattle.asgi_protocol.specs.Rules.{is_status, is_faulty, promised_length, body_bytes}
use Rattle.asgi_protocol.specs.Shapes.{is_part, is_last_part, is_section, is_last_section, is_empty, is_row, begins_row, is_after_content, begins_after_content, is_word, begins_word}
use Rattle.asgi_protocol.specs.Verdicts.{Lines, lines_on, first_line}
use Rattle.asgi_response.specs.declared.content.Content.{Content}
use Rattle.asgi_response.specs.declared.text.Phase.{Phase}
use Rattle.asgi_response.specs.declared.text.Phase.TheVariants.{Waiting, Started, Begun, Trailers, Complete, NotAResponse}
use Rattle.asgi_response.specs.Accepted.{with_event, accepted}
use Rattle.asgi_response.specs.Standing.{part, section, IsOpen, HasContent, IsPhase}
use Rattle.asgi_response.specs.private.Steps.{is_allowed, has_framing_field}
use Rattle.asgi_protocol.proofs.CountLemmas.{above_agrees, below_agrees, counts_down}
use Rattle.asgi_protocol.proofs.PassingLemmas.{nothing_passes}

-- ---- rows

or_false : (b : Bool) → (b || false) ≡ b
or_false true = refl
or_false false = refl

-- a test that each of these events leaves as it is depends on what comes after them
skips : {A : Type 0} (row : List Outgoing → Bool) (more : A → Outgoing) → ((x : A) (es : List Outgoing) → row (more x ∷ es) ≡ row es)
    → (xs : List A) (es : List Outgoing) → row (map more xs ++ es) ≡ row es
skips row more step [] es = refl
skips row more step (x ∷ xs) es = step x (map more xs ++ es) ∙ skips row more step xs es

skips_all : {A : Type 0} (row : List Outgoing → Bool) (more : A → Outgoing) → ((x : A) (es : List Outgoing) → row (more x ∷ es) ≡ row es)
    → (xs : List A) → row (map more xs) ≡ row []
skips_all row more step xs = ap row (sym (append-nil (map more xs))) ∙ skips row more step xs []

-- one event with which bodies go on, whatever may come after the last of them
goes_alone : (announced : Bool) (event : Outgoing)
    → begins_row is_part is_last_part (begins_after_content announced) (event ∷ []) ≡ begins_row is_part is_last_part is_empty (event ∷ [])
goes_alone true event = refl
goes_alone false event = refl

one_body : (body : List ℕ) (more : Bool) → begins_row is_part is_last_part is_empty (ResponseBody body more ∷ []) ≡ true
one_body body true = refl
one_body body false = refl

one_section : (fields : List HeaderField) (more : Bool) → begins_row is_section is_last_section is_empty (ResponseTrailers fields more ∷ []) ≡ true
one_section fields true = refl
one_section fields false = refl

-- ---- the table, when nothing was received

wrong : (a b c : Bool) (v : Verdict) → c ≡ true → is_pass (if a then Ignored else (if b then Refused 2 else (if c then Refused 3 else v))) ≡ false
wrong true b c v h = refl
wrong false true c v h = refl
wrong false false true v h = refl
wrong false false false v h = cc

wrong_scope : (l : Lines) → l.wrong_scope ≡ true → is_pass (first_line Http l) ≡ false
wrong_scope l h = wrong l.closed l.disconnected l.wrong_scope _ h

closed_or_wrong : (a b c d : Bool) (v : Verdict) → d ≡ true → is_pass (if a then Ignored else (if b then Refused 2 else (if c then Refused 3 else (if d then Refused 4 else v)))) ≡ false
closed_or_wrong true b c d v h = refl
closed_or_wrong false true c d v h = refl
closed_or_wrong false false true d v h = refl
closed_or_wrong false false false true v h = refl
closed_or_wrong false false false false v h = cc

out_of_order : (l : Lines) → l.out_of_order ≡ true → is_pass (first_line Http l) ≡ false
out_of_order l h = closed_or_wrong l.closed l.disconnected l.wrong_scope l.out_of_order _ h

-- the lines that an event of this scope can be in
abbrev table : (closed goes status header much little : Bool) → Lines
table closed goes status header much little = record {
  closed = closed;
  disconnected = false;
  wrong_scope = false;
  out_of_order = not goes;
  bad_status = not status;
  bad_header = header;
  bad_code = false;
  bad_reason = false;
  bad_subprotocol = false;
  too_much_body = much;
  too_little_body = little;
}

-- in a response that is not whole, where the event has its place
open_lines : (closed goes header much little : Bool) → closed ≡ false → goes ≡ true
    → is_pass (first_line Http (table closed goes true header much little)) ≡ (if header then false else (not much && not little))
open_lines closed goes true much little h k = rw (h, k) refl
open_lines closed goes false true little h k = rw (h, k) refl
open_lines closed goes false false true h k = rw (h, k) refl
open_lines closed goes false false false h k = rw (h, k) refl

start_lines : (status header : Bool) → is_pass (first_line Http (table false true status header false false)) ≡ (status && not header)
start_lines true true = refl
start_lines true false = refl
start_lines false header = refl

-- ---- before the start

pub first_start : (facts : Facts) (said : List Outgoing) (status : ℕ) (headers : List HeaderField) (announced : Bool) → said ≡ []
    → passes Http facts said (ResponseStart status headers announced) ≡ (is_status status && not (is_faulty (content_length headers)))
first_start facts said status headers announced e =
    ap (λ (s : List Outgoing). passes Http facts s (ResponseStart status headers announced)) e ∙ start_lines (is_status status) (is_faulty (content_length headers))

pub not_first : (facts : Facts) (said : List Outgoing) (event : Outgoing) → said ≡ [] → begins_word Http (event ∷ []) ≡ false → passes Http facts said event ≡ false
not_first facts said event e h = out_of_order (lines_on Http facts said false event) (ap not (ap (λ (s : List Outgoing). begins_word Http (s ++ event ∷ [])) e ∙ h))

pub other_scope : (facts : Facts) (said : List Outgoing) (event : Outgoing) → (lines_on Http facts said false event).wrong_scope ≡ true → passes Http facts said event ≡ false
other_scope facts said event h = wrong_scope (lines_on Http facts said false event) h

-- ---- after a start and the parts that follow it

body_bytes-parts : (parts : List (List ℕ)) (body : List ℕ) (more : Bool) → body_bytes (map part parts ++ ResponseBody body more ∷ []) ≡ body_bytes (map part parts) + length body
body_bytes-parts [] body more = omega arith
body_bytes-parts (p ∷ parts) body more = ap (λ (n : ℕ). length p + n) (body_bytes-parts parts body more) ∙ omega arith

-- a body that is allowed does not go past the bytes that are left
fits_in : (above below : Bool) → (not above && not (false && below)) ≡ true → above ≡ false
fits_in true below h = cc
fits_in false below h = refl

module _ {facts : Facts} {said : List Outgoing} {status : ℕ} {headers : List HeaderField} {announced : Bool} {parts : List (List ℕ)} {content : Content}
    (o : IsOpen facts said status headers announced parts content) where
  goes_on_open : (event : Outgoing) → begins_word Http (said ++ event ∷ []) ≡ begins_row is_part is_last_part is_empty (event ∷ [])
  goes_on_open event =
      let row : List Outgoing → Bool = begins_row is_part is_last_part (begins_after_content announced) in
      ap (λ (s : List Outgoing). begins_word Http (s ++ event ∷ [])) o.events ∙ skips row part (λ p es. or_false (row es)) parts (event ∷ []) ∙ goes_alone announced event

  pub open_not_whole : is_word Http said ≡ false
  open_not_whole =
      let row : List Outgoing → Bool = is_row is_part is_last_part (is_after_content announced) in
      ap (is_word Http) o.events ∙ skips_all row part (λ p es. or_false (row es)) parts

  pub passes_body : (body : List ℕ) (more : Bool) → passes Http facts said (ResponseBody body more) ≡ is_allowed content.left (length body) more
  passes_body body more =
      let sent : ℕ = body_bytes said in
      let n : ℕ = length body in
      let promised : Option ℕ = promised_length facts said in
      open_lines (is_word Http said) (begins_word Http (said ++ ResponseBody body more ∷ [])) false (is_above (sent + n) promised) (not more && is_below (sent + n) promised)
      open_not_whole (goes_on_open (ResponseBody body more) ∙ one_body body more)
      ∙ sym (ap (λ (b : Bool). not b && not (not more && is_below n content.left)) (above_agrees sent n content.left promised o.left)
      ∙ ap (λ (b : Bool). not (is_above (sent + n) promised) && not (not more && b)) (below_agrees sent n content.left promised o.left))

  not_in_open : (event : Outgoing) → begins_row is_part is_last_part is_empty (event ∷ []) ≡ false → passes Http facts said event ≡ false
  not_in_open event h = out_of_order (lines_on Http facts said false event) (ap not (goes_on_open event ∙ h))

  pub promised_after : (body : List ℕ) → is_allowed content.left (length body) true ≡ true
      → promised_length facts (said ++ part body ∷ []) ≡ with_sent (body_bytes (said ++ part body ∷ [])) (left_after content.left (length body))
  promised_after body fits =
      ap (λ (s : List Outgoing). promised_length facts (s ++ part body ∷ [])) o.events ∙ sym (ap (promised_length facts) o.events) ∙ o.left
      ∙ counts_down (body_bytes said) (length body) content.left (fits_in (is_above (length body) content.left) (is_below (length body) content.left) fits)
      ∙ ap (λ (n : ℕ). with_sent n (left_after content.left (length body)))
      (ap (λ (s : List Outgoing). body_bytes s + length body) o.events ∙ sym (ap (λ (s : List Outgoing). body_bytes (s ++ part body ∷ [])) o.events ∙ body_bytes-parts parts body true))

-- ---- after the content, where trailers are due

module _ {facts : Facts} {said : List Outgoing} {sent : Bool} (c : HasContent facts said sent) where
  pub with_trailers : (event : Outgoing)
      → said ++ event ∷ [] ≡ (ResponseStart c.status c.headers true ∷ map part c.parts) ++ ResponseBody c.last false ∷ (map section c.sections ++ event ∷ [])
  with_trailers event =
      ap (λ (s : List Outgoing). s ++ event ∷ []) c.events
      ∙ append_assoc (ResponseStart c.status c.headers true ∷ map part c.parts) (ResponseBody c.last false ∷ map section c.sections) (event ∷ [])

  goes_on_after : (event : Outgoing) → begins_word Http (said ++ event ∷ []) ≡ begins_row is_section is_last_section is_empty (event ∷ [])
  goes_on_after event =
      let row : List Outgoing → Bool = begins_row is_part is_last_part (begins_after_content true) in
      let rest : List Outgoing → Bool = begins_row is_section is_last_section is_empty in
      ap (begins_word Http) (with_trailers event) ∙ skips row part (λ p es. or_false (row es)) c.parts (ResponseBody c.last false ∷ (map section c.sections ++ event ∷ []))
      ∙ skips rest section (λ s es. or_false (rest es)) c.sections (event ∷ [])

  pub content_not_whole : is_word Http said ≡ false
  content_not_whole =
      let row : List Outgoing → Bool = is_row is_part is_last_part (is_after_content true) in
      let rest : List Outgoing → Bool = is_row is_section is_last_section is_empty in
      ap (is_word Http) c.events ∙ skips row part (λ p es. or_false (row es)) c.parts (ResponseBody c.last false ∷ map section c.sections)
      ∙ skips_all rest section (λ s es. or_false (rest es)) c.sections

  pub passes_section : (fields : List HeaderField) (more : Bool) → passes Http facts said (ResponseTrailers fields more) ≡ (if has_framing_field fields then false else true)
  passes_section fields more =
      open_lines (is_word Http said) (begins_word Http (said ++ ResponseTrailers fields more ∷ [])) (has_framing_field fields) false false
      content_not_whole (goes_on_after (ResponseTrailers fields more) ∙ one_section fields more)

  not_after_content : (event : Outgoing) → begins_row is_section is_last_section is_empty (event ∷ []) ≡ false → passes Http facts said event ≡ false
  not_after_content event h = out_of_order (lines_on Http facts said false event) (ap not (goes_on_after event ∙ h))

-- ---- in any phase

-- the event has a place in the phase
abbrev pub has_place : Phase → Outgoing → Bool
has_place Waiting event = begins_word Http (event ∷ [])
has_place (Started content) event = begins_row is_part is_last_part is_empty (event ∷ [])
has_place (Begun content) event = begins_row is_part is_last_part is_empty (event ∷ [])
has_place (Trailers sent) event = begins_row is_section is_last_section is_empty (event ∷ [])
has_place Complete event = false
has_place NotAResponse event = false

pub no_place : (facts : Facts) (said : List Outgoing) (head : List ℕ) (phase : Phase) → IsPhase facts said head phase
    → (event : Outgoing) → has_place phase event ≡ false → passes Http facts said event ≡ false
no_place facts said head Waiting none event h = not_first facts said event none h
no_place facts said head (Started content) s event h = not_in_open s.is_open event h
no_place facts said head (Begun content) s event h = not_in_open s.is_open event h
no_place facts said head (Trailers sent) c event h = not_after_content c event h
no_place facts said head Complete r event h = nothing_passes.none Http facts said event r
no_place facts said head NotAResponse never event h = absurd never

-- ---- the accepted events

pub accepted-push : (facts : Facts) (events : List Outgoing) (event : Outgoing) → accepted facts (events ++ event ∷ []) ≡ with_event facts (accepted facts events) event
accepted-push facts events event = fold-append (with_event facts) [] events (event ∷ [])
