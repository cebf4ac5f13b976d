-- A complete response is read back, whatever comes after it.
use Rattle.std.proofs.Common.{◌≡◌, ℕ, Bool, true, false, List, [], ◌∷◌, ◌++◌, length, map, flat_map, refl, sym, ap, ◌∙◌, subst, append_assoc, append-nil, arith, All, Option, Some, None}
use Rattle.std.proofs.Math.Bool.{and-false}
use Rattle.std.proofs.lemmas.List.Elements.{All-nil, All-cons, All-head, All-tail, All-append}
use Rattle.std.specs.Prelude.{codes, is_some}
use Rattle.std.specs.List.{concat}
use Rattle.std.specs.Fmt.{digits}
use Rattle.httparse.specs.Grammar.{ReadsResponse, ReadsSection, crlf, print_response, is_value_byte}
use Rattle.httparse.proofs.GrammarLemmas.{ReadsSection-append, response_unique, section_unique}
use Rattle.http1.specs.ChunkedBody.{ReadsChunks, print_chunks}
use Rattle.http1.specs.ChunkedDecoder.{Run}
use Rattle.http1.proofs.ChunksComplete.{run_chunks}
use Rattle.asgi_types.specs.Fields.{HeaderField}
use Rattle.asgi_types.specs.Versions.{is_v11}
use Rattle.asgi_types.specs.declared.facts.Facts.{Facts}
use Rattle.asgi_types.specs.declared.outgoing.Outgoing.{Outgoing}
use Rattle.asgi_types.specs.declared.outgoing.Outgoing.TheVariants.{ResponseStart, ResponseBody, ResponseTrailers}
use Rattle.asgi_types.specs.declared.scope.Kind.TheVariants.{Http}
use Rattle.asgi_protocol.specs.ContentLengths.{content_length}
use Rattle.asgi_protocol.specs.Lawful.{IsLawful, IsResponse, Trailers, trailer_events}
use Rattle.asgi_protocol.specs.Rules.{given_length, is_absent, is_faulty}
use Rattle.asgi_protocol.specs.declared.content_length.ContentLength.{ContentLength}
use Rattle.asgi_protocol.specs.declared.content_length.ContentLength.TheVariants.{Absent, Given, Faulty}
use Rattle.asgi_response.specs.Accepted.{accepted}
use Rattle.asgi_response.specs.Content.{has_content}
use Rattle.asgi_response.specs.Fields.{is_chunked, closes, head_text}
use Rattle.asgi_response.specs.ReadBack.{IsReadAs, IsSendable, fields_sent}
use Rattle.asgi_response.specs.ReadBackBody.{Carries, IsChunked, IsSized, trailer_fields, trailers_sent}
use Rattle.asgi_response.specs.Response.{continue_text, message_text, response_text, rest_text}
use Rattle.asgi_response.proofs.LawfulLemmas.{lawful_is_accepted}
use Rattle.asgi_response.proofs.ReadBackBodyLemmas.{response_is_read_back}
use Rattle.asgi_response.proofs.ReadBackLemmas.{all_pass, fields_are_read_back, head_is_read_back}
use Rattle.asgi_response.proofs.StartLemmas.{final_status}
use Rattle.asgi_conversation.specs.ExchangeRecord.{ExchangeRecord}
use Rattle.asgi_conversation.specs.ReadResponses.{ReadsChunked, IsDelimited, ReadsContent, ReadsContinue, ReadsAnswer, CanBeSent}
use Rattle.asgi_conversation.proofs.FieldsSentLemmas.{chunked_said, close_said, length_said}

-- ---- more bytes after what is read

read_as_more : (bytes more : List ℕ) (status : ℕ) (fields : List HeaderField) (rest : List ℕ) → IsReadAs bytes status fields rest → IsReadAs (bytes ++ more) status fields (rest ++ more)
read_as_more bytes more status fields rest a =
    let reads : ReadsResponse (bytes ++ more) a.head (rest ++ more) = (a.reads.0, ap (λ (l : List ℕ). l ++ more) a.reads.1 ∙ append_assoc (print_response a.head) rest more) in
    record {
      head = a.head;
      reads = reads;
      code = a.code;
      named = a.named;
      only = λ other after found. response_unique (bytes ++ more) other a.head after (rest ++ more) found reads;
    }

chunked_more : (bytes sent : List ℕ) (trailers : List HeaderField) (more : List ℕ) → IsChunked bytes sent trailers → ReadsChunked (bytes ++ more) sent trailers more
chunked_more bytes sent trailers more c =
    let section = c.section ++ more in
    let text : bytes ++ more ≡ print_chunks c.chunks ++ section = ap (λ (l : List ℕ). l ++ more) c.text ∙ append_assoc (print_chunks c.chunks) c.section more in
    let ends : ReadsSection section c.ends.fields crlf more = ReadsSection-append c.section c.ends.fields crlf [] more c.ends.reads in
    record {
      chunks = c.chunks;
      section = section;
      reads = (c.well_formed, text);
      carried = c.carried;
      only = λ limit other after found.
          let ours : ReadsChunks limit (bytes ++ more) c.chunks section = (
            record { full = c.well_formed.full; last = c.well_formed.last; ends = c.well_formed.ends; within_limit = omega (arith, c.well_formed.within_limit) },
            text,
          ) in
          let same = sym (run_chunks limit (bytes ++ more) other after found) ∙ run_chunks limit (bytes ++ more) c.chunks section ours in
          (ap (λ (r : Run). r.body) same ∙ c.carried, ap (λ (r : Run). r.rest) same);
      ends = record {
        fields = c.ends.fields;
        reads = ends;
        named = c.ends.named;
        only = λ other last after found. let one = section_unique section other c.ends.fields last crlf after more found ends in (one.0, one.2);
      };
    }

-- ---- 100 Continue

continue_is_read : (expect : Bool) (rest : List ℕ) → ReadsContinue expect (continue_text expect ++ rest) rest
unfolding digits
continue_is_read true rest =
    fields_are_read_back 100 (codes "Continue") [] rest (omega arith) (omega arith) (all_pass is_value_byte (codes "Continue") refl) (All-nil IsSendable)
continue_is_read false rest = refl

-- ---- a response without content

module _ (facts : Facts) (status : ℕ) (headers : List HeaderField) (announced : Bool) (none : has_content facts.head_only status ≡ false) where
  no_text : (event : Outgoing) → rest_text facts status headers announced event ≡ []
  no_text (ResponseBody body more) = rw none
  no_text (ResponseTrailers fields more) = rw none (simp and-false)
  no_text event = refl

  no_texts : (events : List Outgoing) → flat_map (rest_text facts status headers announced) events ≡ []
  no_texts [] = refl
  no_texts (event ∷ events) = rw (no_text event) (no_texts events)

  abbrev head : List ℕ
  head = head_text (is_chunked facts.version status headers) (closes facts.close headers) status headers

  bare_text : (first : List Outgoing) (event : Outgoing) (events : List Outgoing) → message_text facts (ResponseStart status headers announced ∷ first ++ event ∷ events) ≡ head
  bare_text [] event events = rw (no_texts (event ∷ events)) (append-nil head)
  bare_text (f ∷ first) event events = rw (no_texts (f ∷ first ++ event ∷ events)) (append-nil head)

-- ---- a response that is neither chunked nor sized closes

absent_of : (l : ContentLength) → is_faulty l ≡ false → given_length l ≡ None → is_absent l ≡ true
absent_of Faulty f g = cc
absent_of (Given n) f g = cc
absent_of Absent f g = refl

must_close : (facts : Facts) (status : ℕ) (headers : List HeaderField) → (facts.close ≡ false → is_v11 facts.version ≡ true) → is_faulty (content_length headers) ≡ false
    → has_content facts.head_only status ≡ true → is_chunked facts.version status headers ≡ false → given_length (content_length headers) ≡ None → closes facts.close headers ≡ true
must_close facts status headers keeps sound has plain given = grind (arith, keeps, has, plain, absent_of (content_length headers) sound given)

-- ---- what can be sent

-- parts, a last one, and what comes after them
row_sent : {A : Type 0} (event : A → Bool → Outgoing) (P : A → Type 0) → ((a : A) (more : Bool) → CanBeSent (event a more) → P a) → (parts : List A) (last : A) (after : List Outgoing)
    → All CanBeSent (map (λ part. event part true) parts ++ event last false ∷ after) → All P (parts ++ last ∷ []) × All CanBeSent after
row_sent event P gives [] last after h =
    (All-cons P last [] (gives last false (All-head CanBeSent (event last false) after h)) (All-nil P), All-tail CanBeSent (event last false) after h)
row_sent event P gives (p ∷ parts) last after h =
    let others : List Outgoing = map (λ part. event part true) parts ++ event last false ∷ after in
    let on = row_sent event P gives parts last after (All-tail CanBeSent (event p true) others h) in
    (All-cons P p (parts ++ last ∷ []) (gives p true (All-head CanBeSent (event p true) others h)) on.0, on.1)

all_joined : (parts : List (List HeaderField)) → All (All IsSendable) parts → All IsSendable (flat_map (λ fields. fields) parts)
all_joined [] h = All-nil IsSendable
all_joined (p ∷ parts) h =
    All-append IsSendable p (flat_map (λ fields. fields) parts) (All-head (All IsSendable) p parts h) (all_joined parts (All-tail (All IsSendable) p parts h))

trailers_sendable : (trailers : Option Trailers) → All CanBeSent (trailer_events trailers) → All IsSendable (trailer_fields trailers)
trailers_sendable None h = All-nil IsSendable
trailers_sendable (Some t) h = all_joined (t.parts ++ t.last ∷ []) (row_sent ResponseTrailers (All IsSendable) (λ fields more clean. clean) t.parts t.last [] h).0

-- ---- a complete response

module _ (x : ExchangeRecord) (r : IsResponse x.said) (lawful : IsLawful Http x.facts x.said) (sent : All CanBeSent x.said)
    (keeps : x.facts.close ≡ false → is_v11 x.facts.version ≡ true) (more : List ℕ) (ends : closes x.facts.close r.headers ≡ true → more ≡ []) where
  start : Outgoing
  start = ResponseStart r.status r.headers (is_some r.trailers)

  events : List Outgoing
  events = map (λ (part : List ℕ). ResponseBody part true) r.parts ++ ResponseBody r.last false ∷ trailer_events r.trailers

  all_sent : All CanBeSent (start ∷ events)
  unfolding start events
  all_sent = subst (All CanBeSent) r.in_order sent

  fields_sendable : All IsSendable r.headers
  unfolding start
  fields_sendable = All-head CanBeSent start events all_sent

  rest_sent : All IsSized (r.parts ++ r.last ∷ []) × All CanBeSent (trailer_events r.trailers)
  unfolding events
  rest_sent = row_sent ResponseBody IsSized (λ body more fits. fits) r.parts r.last (trailer_events r.trailers) (All-tail CanBeSent start events all_sent)

  whole : accepted x.facts x.said ≡ x.said
  whole = lawful_is_accepted x.facts x.said lawful

  accepted_response : IsResponse (accepted x.facts x.said)
  accepted_response = record { status = r.status; headers = r.headers; parts = r.parts; last = r.last; trailers = r.trailers; in_order = whole ∙ r.in_order }

  sound : is_faulty (content_length r.headers) ≡ false
  unfolding start events
  sound = (lawful.each [] events start r.in_order).header

  message : List ℕ
  message = message_text x.facts (accepted x.facts x.said)

  abbrev content : List ℕ
  content = concat (r.parts ++ r.last ∷ [])

  abbrev trailers : List HeaderField
  trailers = trailers_sent x.facts r.status r.headers r.trailers

  -- with content
  carried : (chunked closing : Bool) (given : Option ℕ) (body : List ℕ) → Carries chunked body content trailers
      → (chunked ≡ false → given ≡ None → closing ≡ true) → (closing ≡ true → more ≡ [])
      → ((n : ℕ) → given ≡ Some n → length content ≡ n)
      → IsDelimited true chunked closing given (body ++ more) content trailers more
  carried true closing given body c must none sizes = chunked_more body content trailers more c
  carried false closing (Some n) body c must none sizes = (c.1, sizes n refl, ap (λ (l : List ℕ). l ++ more) c.0)
  carried false closing None body c must none sizes =
      let closed = must refl refl in
      let nothing = none closed in
      (c.1, closed, rw nothing (append-nil body ∙ c.0), nothing)

  -- the recipient learns that by the fields
  fields : List HeaderField
  fields = fields_sent (is_chunked x.facts.version r.status r.headers) (closes x.facts.close r.headers) r.status r.headers

  told : (body : List ℕ) (trailers : List HeaderField) → has_content x.facts.head_only r.status ≡ true
      → IsDelimited true (is_chunked x.facts.version r.status r.headers) (closes x.facts.close r.headers) (given_length (content_length r.headers)) body content trailers more
      → ReadsContent (has_content x.facts.head_only r.status) fields body content trailers more
  unfolding fields
  told body trailers has d =
      let chunked = is_chunked x.facts.version r.status r.headers in
      let closing = closes x.facts.close r.headers in
      rw (has, chunked_said, close_said, length_said chunked closing x.facts.head_only r.status r.headers has) d

  first : ReadsContinue x.facts.expect (response_text x.facts x.said ++ more) (message ++ more)
  unfolding message
  first = rw append_assoc (continue_is_read x.facts.expect (message ++ more))

  with_content : has_content x.facts.head_only r.status ≡ true → ReadsAnswer (response_text x.facts x.said ++ more) x more
  unfolding message accepted_response fields
  with_content has =
      let back = response_is_read_back x.facts x.said accepted_response fields_sendable (trailers_sendable r.trailers rest_sent.1) rest_sent.0 has in
      record {
        response = r;
        fields = fields;
        fields_are = refl;
        final = message ++ more;
        interim = first;
        after = back.body ++ more;
        head = read_as_more message more r.status fields back.body back.head;
        body = told (back.body ++ more) trailers has
            (carried (is_chunked x.facts.version r.status r.headers) (closes x.facts.close r.headers) (given_length (content_length r.headers)) back.body back.carries
            (must_close x.facts r.status r.headers keeps sound has) ends back.sized);
      }

  bare : has_content x.facts.head_only r.status ≡ false → message ≡ head_text (is_chunked x.facts.version r.status r.headers) (closes x.facts.close r.headers) r.status r.headers
  unfolding message
  bare none =
      ap (message_text x.facts) (whole ∙ r.in_order)
      ∙ bare_text x.facts r.status r.headers (is_some r.trailers) none (map (λ (part : List ℕ). ResponseBody part true) r.parts) (ResponseBody r.last false) (trailer_events r.trailers)

  without_content : has_content x.facts.head_only r.status ≡ false → ReadsAnswer (response_text x.facts x.said ++ more) x more
  unfolding message accepted_response fields
  without_content none =
      let range = final_status x.facts x.said accepted_response in
      record {
        response = r;
        fields = fields;
        fields_are = refl;
        final = message ++ more;
        interim = first;
        after = more;
        head = rw (bare none)
            (head_is_read_back r.headers fields_sendable (is_chunked x.facts.version r.status r.headers) (closes x.facts.close r.headers) r.status more range.0 range.1);
        body = rw none (simp and-false, refl);
      }

  pub answer_is_read : ReadsAnswer (response_text x.facts x.said ++ more) x more
  answer_is_read = by (has_content x.facts.head_only r.status) refl
    where
      by : (b : Bool) → has_content x.facts.head_only r.status ≡ b → ReadsAnswer (response_text x.facts x.said ++ more) x more
      by true e = with_content e
      by false e = without_content e
