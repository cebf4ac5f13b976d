-- The content of a response is read back by the grammar of chunks, and its trailers by that of sections.
use Rattle.std.proofs.Common.{◌≡◌, ℕ, suc, ◌+◌, ◌^◌, ◌<◌, Bool, true, false, List, [], ◌∷◌, ◌++◌, length, map, flat_map, refl, sym, ap, ◌∙◌, subst, append_assoc, add-zero, arith, All, Option}
use Rattle.std.proofs.lemmas.List.{append-nil}
use Rattle.std.proofs.lemmas.List.Concat.{flat_map-append}
use Rattle.std.proofs.lemmas.List.Elements.{All-nil, All-head, All-tail, All-same}
use Rattle.std.proofs.lemmas.Bool.Decides.{nat_tests}
use Rattle.std.proofs.lemmas.Fmt.{digits_is_IsNumeral}
use Rattle.std.specs.Prelude.{if◌then◌else◌, ◌==◌, ◌&&◌, codes, Some, None, is_some}
use Rattle.std.specs.List.{concat, fold, AllByRecursion}
use Rattle.std.specs.Fmt.{digits}
use Rattle.httparse.specs.Ascii.{crlf_bytes}
use Rattle.http1.specs.ChunkedBody.{SizeLine, Chunk, Chunks, IsSizeLine, IsChunk, AreChunks, ReadsChunks, print_chunk, print_chunks, content, extension_len}
use Rattle.http1.specs.ChunkedDecoder.{Run}
use Rattle.http1.proofs.ChunksComplete.{run_chunks}
use Rattle.asgi_types.specs.Fields.{HeaderField}
use Rattle.asgi_types.specs.declared.facts.Facts.{Facts}
use Rattle.asgi_types.specs.declared.outgoing.Outgoing.{Outgoing}
use Rattle.asgi_types.specs.declared.outgoing.Outgoing.TheVariants.{ResponseStart, ResponseBody, ResponseTrailers}
use Rattle.asgi_protocol.specs.Lawful.{Trailers, trailer_events}
use Rattle.asgi_response.specs.Content.{chunk, last_chunk, content_end, section_text, part_text, has_content}
use Rattle.asgi_response.specs.Fields.{field_line, is_chunked, closes, head_text}
use Rattle.asgi_response.specs.Response.{sends_trailers, rest_text, message_text}
use Rattle.asgi_response.specs.ReadBack.{IsReadAs, IsSendable, fields_sent}
use Rattle.asgi_response.specs.ReadBackBody.{IsSectionOf, Carries, trailer_fields, trailers_sent, IsSized, ResponseIsReadBack, IsResponseReadBack}
use Rattle.asgi_response.specs.Standing.{part, section}
use Rattle.asgi_response.proofs.ReadBackLemmas.{section_is_read_back, head_is_read_back}
use Rattle.asgi_response.proofs.SizedLemmas.{content_is_sized}
use Rattle.asgi_response.proofs.StartLemmas.{final_status}

-- ---- the bodies of a response, and its trailers

-- the text of each body by itself, and what comes after the last
bodies_text : (chunked sent : Bool) → List (List ℕ) → List ℕ → (after : List ℕ) → List ℕ
bodies_text chunked sent [] last after = part_text chunked sent last false ++ after
bodies_text chunked sent (p ∷ parts) last after = part_text chunked sent p true ++ bodies_text chunked sent parts last after

-- the fields of any number of trailers are those of one section
sections_text : (text : Outgoing → List ℕ) (sent : Bool) → ((fields : List HeaderField) (more : Bool) → text (ResponseTrailers fields more) ≡ (if sent then section_text fields more else []))
    → (parts : List (List HeaderField)) (last : List HeaderField)
    → flat_map text (map section parts ++ ResponseTrailers last false ∷ []) ≡ (if sent then section_text (flat_map (λ fields. fields) (parts ++ last ∷ [])) false else [])
sections_text text true each [] last =
    append-nil (text (ResponseTrailers last false)) ∙ each last false ∙ ap (λ (fields : List HeaderField). section_text fields false) (sym (append-nil last))
sections_text text true each (p ∷ parts) last =
    let more : List HeaderField = flat_map (λ fields. fields) (parts ++ last ∷ []) in
    ap (λ (x : List ℕ). x ++ flat_map text (map section parts ++ ResponseTrailers last false ∷ [])) (each p true ∙ append-nil (flat_map field_line p))
    ∙ ap (λ (x : List ℕ). flat_map field_line p ++ x) (sections_text text true each parts last)
    ∙ sym (append_assoc (flat_map field_line p) (flat_map field_line more) crlf_bytes) ∙ ap (λ (x : List ℕ). x ++ crlf_bytes) (sym (flat_map-append field_line p more))
sections_text text false each [] last = append-nil (text (ResponseTrailers last false)) ∙ each last false
sections_text text false each (p ∷ parts) last =
    ap (λ (x : List ℕ). x ++ flat_map text (map section parts ++ ResponseTrailers last false ∷ [])) (each p true) ∙ sections_text text false each parts last

trailers_text : (facts : Facts) (status : ℕ) (headers : List HeaderField) (trailers : Option Trailers)
    → flat_map (rest_text facts status headers (is_some trailers)) (trailer_events trailers)
    ≡ (if sends_trailers facts status headers (is_some trailers) then section_text (trailer_fields trailers) false else [])
trailers_text facts status headers None = refl
trailers_text facts status headers (Some t) =
    sections_text (rest_text facts status headers true) (sends_trailers facts status headers true) (λ fields more. refl) t.parts t.last

-- only chunked content has trailers
is_chunked_if : (announced takes content chunked : Bool) → (announced && takes && content && chunked) ≡ true → chunked ≡ true
is_chunked_if announced takes content true h = refl
is_chunked_if true true true false h = cc
is_chunked_if _ _ _ false h = cc

module _ (facts : Facts) (status : ℕ) (headers : List HeaderField) (announced : Bool) where
  abbrev each_text : Outgoing → List ℕ
  each_text = rest_text facts status headers announced

  abbrev one_text : List ℕ → Bool → List ℕ
  one_text body more = part_text (is_chunked facts.version status headers) (sends_trailers facts status headers announced) body more

  message_whole : (front : List Outgoing) (x : Outgoing) (back : List Outgoing)
      → message_text facts (ResponseStart status headers announced ∷ (front ++ x ∷ back))
      ≡ head_text (is_chunked facts.version status headers) (closes facts.close headers) status headers ++ flat_map each_text (front ++ x ∷ back)
  message_whole [] x back = refl
  message_whole (f ∷ front) x back = refl

  has_text : has_content facts.head_only status ≡ true → (body : List ℕ) (more : Bool) → each_text (ResponseBody body more) ≡ one_text body more
  has_text h body more = ap (λ (b : Bool). if b then one_text body more else []) h

  all_text : has_content facts.head_only status ≡ true → (parts : List (List ℕ)) (last : List ℕ) (back : List Outgoing)
      → flat_map each_text (map part parts ++ ResponseBody last false ∷ back)
      ≡ bodies_text (is_chunked facts.version status headers) (sends_trailers facts status headers announced) parts last (flat_map each_text back)
  unfolding bodies_text
  all_text h [] last back = ap (λ (x : List ℕ). x ++ flat_map each_text back) (has_text h last false)
  all_text h (p ∷ parts) last back =
      ap (λ (x : List ℕ). x ++ flat_map each_text (map part parts ++ ResponseBody last false ∷ back)) (has_text h p true)
      ∙ ap (λ (x : List ℕ). one_text p true ++ x) (all_text h parts last back)

-- ---- as they are

not_empty : (n : ℕ) → (suc n == 0) ≡ false
not_empty n = grind (arith, nat_tests)

plain_part : (sent : Bool) (body : List ℕ) (more : Bool) → part_text false sent body more ≡ body
plain_part sent [] more = refl
plain_part sent (b ∷ body) more = ap (λ (e : Bool). (if e then [] else (b ∷ body)) ++ []) (not_empty (length body)) ∙ append-nil (b ∷ body)

plain_text : (sent : Bool) (parts : List (List ℕ)) (last : List ℕ) → bodies_text false sent parts last [] ≡ concat (parts ++ last ∷ [])
unfolding bodies_text
plain_text sent [] last = ap (λ (x : List ℕ). x ++ []) (plain_part sent last false)
plain_text sent (p ∷ parts) last =
    ap (λ (x : List ℕ). x ++ bodies_text false sent parts last []) (plain_part sent p true) ∙ ap (λ (x : List ℕ). p ++ x) (plain_text sent parts last)

-- ---- in chunks

size_line : ℕ → SizeLine
size_line n = record { digits = digits 16 false n; blanks = []; extension = None }

chunk_of : List ℕ → Chunk
chunk_of body = record { line = size_line (length body); bytes = body }

-- a body of no bytes is no chunk
chunks_of : List (List ℕ) → List Chunk
chunks_of [] = []
chunks_of ([] ∷ bodies) = chunks_of bodies
chunks_of ((b ∷ body) ∷ bodies) = chunk_of (b ∷ body) ∷ chunks_of bodies

last_line : SizeLine
last_line = record { digits = codes "0"; blanks = []; extension = None }

is_size_line : (n : ℕ) → n < 2 ^ 64 → IsSizeLine (size_line n)
unfolding size_line
is_size_line n fits =
    let numeral = digits_is_IsNumeral 16 false (omega arith) (omega arith) n (omega (arith, fits)) in
    record {
      has_digit = numeral.0.0;
      hexadecimal = numeral.0.1;
      fits = subst (λ (m : ℕ). m < 2 ^ 64) (sym numeral.1) fits;
      blank = refl;
      text = refl;
    }

is_chunk : (b : ℕ) (body : List ℕ) → IsSized (b ∷ body) → IsChunk (chunk_of (b ∷ body))
unfolding chunk_of size_line
is_chunk b body sized = record {
  line = is_size_line (length (b ∷ body)) sized;
  sized = (digits_is_IsNumeral 16 false (omega arith) (omega arith) (length (b ∷ body)) (omega (arith, sized))).1;
  not_empty = omega arith;
}

are_chunks : (bodies : List (List ℕ)) → All IsSized bodies → AllByRecursion IsChunk (chunks_of bodies)
unfolding chunks_of
are_chunks [] h = tt
are_chunks ([] ∷ bodies) h = are_chunks bodies (All-tail IsSized [] bodies h)
are_chunks ((b ∷ body) ∷ bodies) h = (is_chunk b body (All-head IsSized (b ∷ body) bodies h), are_chunks bodies (All-tail IsSized (b ∷ body) bodies h))

carried_by : (bodies : List (List ℕ)) → flat_map (λ (c : Chunk). c.bytes) (chunks_of bodies) ≡ concat bodies
unfolding chunks_of chunk_of
carried_by [] = refl
carried_by ([] ∷ bodies) = carried_by bodies
carried_by ((b ∷ body) ∷ bodies) = ap (λ (x : List ℕ). (b ∷ body) ++ x) (carried_by bodies)

no_extensions : (bodies : List (List ℕ)) (n : ℕ) → fold (λ (a : ℕ) (c : Chunk). a + extension_len c.line) n (chunks_of bodies) ≡ n
unfolding chunks_of chunk_of size_line
no_extensions [] n = refl
no_extensions ([] ∷ bodies) n = no_extensions bodies n
no_extensions ((b ∷ body) ∷ bodies) n = no_extensions bodies (n + 0) ∙ add-zero n

chunk_printed : (body : List ℕ) → print_chunk (chunk_of body) ≡ chunk body
unfolding chunk_of size_line
chunk_printed body = simp append_assoc

one_part : (body : List ℕ) → (if length body == 0 then [] else chunk body) ≡ flat_map print_chunk (chunks_of (body ∷ []))
unfolding chunks_of
one_part [] = refl
one_part (b ∷ body) =
    ap (λ (e : Bool). if e then [] else chunk (b ∷ body)) (not_empty (length body))
    ∙ sym (append-nil (print_chunk (chunk_of (b ∷ body))) ∙ chunk_printed (b ∷ body))

chunks_of-cons : (body : List ℕ) (bodies : List (List ℕ)) → flat_map print_chunk (chunks_of (body ∷ bodies)) ≡ flat_map print_chunk (chunks_of (body ∷ [])) ++ flat_map print_chunk (chunks_of bodies)
unfolding chunks_of
chunks_of-cons [] bodies = refl
chunks_of-cons (b ∷ body) bodies = sym (ap (λ (x : List ℕ). x ++ flat_map print_chunk (chunks_of bodies)) (append-nil (print_chunk (chunk_of (b ∷ body)))))

chunked_text : (sent : Bool) (parts : List (List ℕ)) (last after : List ℕ)
    → bodies_text true sent parts last after ≡ flat_map print_chunk (chunks_of (parts ++ last ∷ [])) ++ (content_end sent ++ after)
unfolding bodies_text
chunked_text sent [] last after =
    append_assoc (if length last == 0 then [] else chunk last) (content_end sent) after ∙ ap (λ (x : List ℕ). x ++ (content_end sent ++ after)) (one_part last)
chunked_text sent (p ∷ parts) last after =
    let front : List ℕ = flat_map print_chunk (chunks_of (p ∷ [])) in
    ap (λ (x : List ℕ). x ++ bodies_text true sent parts last after) (append-nil (if length p == 0 then [] else chunk p) ∙ one_part p)
    ∙ ap (λ (x : List ℕ). front ++ x) (chunked_text sent parts last after)
    ∙ sym (append_assoc front (flat_map print_chunk (chunks_of (parts ++ last ∷ []))) (content_end sent ++ after))
    ∙ ap (λ (x : List ℕ). x ++ (content_end sent ++ after)) (sym (chunks_of-cons p (parts ++ last ∷ [])))

is_last_line : IsSizeLine last_line
unfolding last_line
is_last_line = record { has_digit = omega arith; hexadecimal = (omega arith, tt); fits = omega arith; blank = refl; text = refl }

-- whatever chunks are read of the bytes, they carry the content of these and end where these end
chunks_are_one : (bytes : List ℕ) (chunks : Chunks) (section : List ℕ) → AreChunks 0 chunks → bytes ≡ print_chunks chunks ++ section
    → (limit : ℕ) (other : Chunks) (after : List ℕ) → ReadsChunks limit bytes other after → (content other ≡ content chunks) × (after ≡ section)
chunks_are_one bytes chunks section are text limit other after found =
    let ours : ReadsChunks limit bytes chunks section =
    (record { full = are.full; last = are.last; ends = are.ends; within_limit = omega (arith, are.within_limit) }, text) in
    let same = sym (run_chunks limit bytes other after found) ∙ run_chunks limit bytes chunks section ours in
    (ap (λ (r : Run). r.body) same, ap (λ (r : Run). r.rest) same)

-- the last chunk, and then a section: that of the trailers, or an empty one
end_is : (sent : Bool) (trailers : List HeaderField)
    → content_end sent ++ (if sent then section_text trailers false else []) ≡ last_chunk ++ section_text (if sent then trailers else []) false
end_is true trailers = refl
end_is false trailers = refl

sendable_if : (sent : Bool) (trailers : List HeaderField) → All IsSendable trailers → All IsSendable (if sent then trailers else [])
sendable_if true trailers clean = clean
sendable_if false trailers clean = All-nil IsSendable

carried : (chunked sent : Bool) → (sent ≡ true → chunked ≡ true) → (parts : List (List ℕ)) (last : List ℕ) (trailers : List HeaderField)
    → All IsSized (parts ++ last ∷ []) → All IsSendable trailers
    → Carries chunked (bodies_text chunked sent parts last (if sent then section_text trailers false else [])) (concat (parts ++ last ∷ [])) (if sent then trailers else [])
unfolding last_line
carried true sent framed parts last trailers sized clean =
    let chunks : Chunks = record { full = chunks_of (parts ++ last ∷ []); last = last_line } in
    let front : List ℕ = flat_map print_chunk (chunks_of (parts ++ last ∷ [])) in
    let back : List ℕ = if sent then section_text trailers false else [] in
    let fields : List HeaderField = if sent then trailers else [] in
    let are : AreChunks 0 chunks = record {
      full = are_chunks (parts ++ last ∷ []) sized;
      last = is_last_line;
      ends = refl;
      within_limit = omega (arith, no_extensions (parts ++ last ∷ []) 0);
    } in
    let text : bodies_text true sent parts last back ≡ print_chunks chunks ++ section_text fields false =
    chunked_text sent parts last back ∙ ap (λ (x : List ℕ). front ++ x) (end_is sent trailers) ∙ sym (append_assoc front last_chunk (section_text fields false)) in
    record {
      chunks = chunks;
      section = section_text fields false;
      well_formed = are;
      text = text;
      carried = carried_by (parts ++ last ∷ []);
      only = λ limit other after found.
          let one = chunks_are_one (bodies_text true sent parts last back) chunks (section_text fields false) are text limit other after found in
          (one.0 ∙ carried_by (parts ++ last ∷ []), one.1);
      ends = subst (λ (x : List ℕ). IsSectionOf x fields []) (append-nil (section_text fields false)) (section_is_read_back fields [] (sendable_if sent trailers clean));
    }
carried false true framed parts last trailers sized clean = absurd (cc (framed refl))
carried false false framed parts last trailers sized clean = (plain_text false parts last, refl)

pub response_is_read_back : ResponseIsReadBack
response_is_read_back facts events r clean trailers_clean sized has =
    let range = final_status facts events r in
    let chunked : Bool = is_chunked facts.version r.status r.headers in
    let closing : Bool = closes facts.close r.headers in
    let announced : Bool = is_some r.trailers in
    let sent : Bool = sends_trailers facts r.status r.headers announced in
    let after : List Outgoing = trailer_events r.trailers in
    let body : List ℕ = flat_map (rest_text facts r.status r.headers announced) (map part r.parts ++ ResponseBody r.last false ∷ after) in
    record {
      body = body;
      head = subst (λ (t : List ℕ). IsReadAs t r.status (fields_sent chunked closing r.status r.headers) body)
          (sym (ap (message_text facts) r.in_order ∙ message_whole facts r.status r.headers announced (map part r.parts) (ResponseBody r.last false) after))
          (head_is_read_back r.headers clean chunked closing r.status body range.0 range.1);
      carries = subst (λ (t : List ℕ). Carries chunked t (concat (r.parts ++ r.last ∷ [])) (trailers_sent facts r.status r.headers r.trailers))
          (sym (all_text facts r.status r.headers announced has r.parts r.last after
          ∙ ap (λ (x : List ℕ). bodies_text chunked sent r.parts r.last x) (trailers_text facts r.status r.headers r.trailers)))
          (carried chunked sent (is_chunked_if announced facts.trailers_ok (has_content facts.head_only r.status) chunked) r.parts r.last (trailer_fields r.trailers) sized trailers_clean);
      sized = content_is_sized facts events r has;
    }

pub response_with_is_read_back : (headers : List HeaderField) → All IsSendable headers → IsResponseReadBack headers
response_with_is_read_back headers clean facts events r same trailers_clean sized has =
    response_is_read_back facts events r (All-same IsSendable r.headers headers same clean) trailers_clean sized has
