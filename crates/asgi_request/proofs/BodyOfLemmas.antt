-- What is computed of a body is what the body is.
use Rattle.std.proofs.Common.{◌≡◌, ℕ, zero, suc, ◌+◌, ◌<◌, ◌≤◌, inl, inr, Bool, true, false, List, ◌++◌, length, take, drop, refl, sym, ap, ◌∙◌, append_assoc, append-nil, arith, subst, Option, Some, None}
use Rattle.std.specs.Prelude.{◌↔◌, nat_le, nat_lt, ◌==◌, if◌then◌else◌, bytes_eq}
use Rattle.std.proofs.lemmas.Bool.Decides.{nat_tests}
use Rattle.std.proofs.lemmas.Slice.Eq.{bytes_eq-Decides}
use Rattle.std.proofs.lemmas.List.{length-take-le, length-drop, take-append-drop, drop-drop}
use Rattle.httparse.specs.Ascii.{crlf_bytes}
use Rattle.httparse.specs.Grammar.{ChunkLine, chunk_size, print_chunk_line, print_section}
use Rattle.asgi_types.specs.declared.facts.Framing.{Framing}
use Rattle.asgi_types.specs.declared.facts.Framing.TheVariants.{Length, Chunked, Upgrade}
use Rattle.asgi_types.specs.declared.incoming.Incoming.{Incoming}
use Rattle.asgi_types.specs.declared.limits.Limits.{Limits}
use Rattle.asgi_request.specs.declared.refusal.Refusal.{Refusal}
use Rattle.asgi_request.specs.declared.refusal.Refusal.TheVariants.{BadRequest, ContentTooLarge}
use Rattle.asgi_request.specs.Texts.{IsFirstWithin}
use Rattle.asgi_request.specs.Fronts.{Front, found, too_long, unfinished, front_at, line_len, trailer_len}
use Rattle.asgi_request.specs.Parts.{ParsesSize, ParsesTrailers}
use Rattle.asgi_request.specs.ChunkedBody as body
use Rattle.asgi_request.specs.ChunkedBody.{BodyState, partial, complete, faulty, Piece, print_chunk, size_line_limit, IsSizeLine, IsChunk, total, EndsAsLine, EndsAsSection, tail_state, ReadsChunks}
use Rattle.asgi_request.specs.RequestEvents.{ReadsBody}
use Rattle.asgi_request.proofs.FrontLemmas.{IsSearch, line_search, trailer_search}
use Rattle.asgi_request.proofs.TextLemmas.{tells}
use Rattle.asgi_request.proofs.LineLemmas.{line_search_for, section_search_for}
use Rattle.asgi_request.proofs.ForwardLemmas.{yes_lt, no_lt, ended, SizeRead, size_read, chunk_first}
use Rattle.asgi_request.specs.BodyTexts.{size_in, is_section}
use Rattle.asgi_request.specs.BodyOf.{Decoded, no_piece, with_piece, trailers_at, trailers_of, chunk_of, after_size_line, at_line, chunks_from, chunks_of, body_events, body_state}
use Rattle.asgi_request.proofs.BodyGrowthLemmas.{body_grows, body_is_one}
use Rattle.asgi_request.proofs.SizeTestLemmas.{size_parses}
use Rattle.asgi_request.proofs.TrailerTestLemmas.{trailers_parse}

-- ---- a text that is found stands at the front

front_splits : (len : List ℕ → Option ℕ) → IsSearch len → (limit : ℕ) (bytes text : List ℕ) → front_at limit bytes (len bytes) ≡ found text
    → bytes ≡ text ++ drop (length text) bytes
front_splits len s limit bytes text e = on (len bytes) refl e
  where
    none : (b : Bool) → (if b then too_long else unfinished) ≡ found text → ⊥
    none true x = cc
    none false x = cc

    by : (n : ℕ) (b : Bool) → len bytes ≡ Some n → (if b then found (take n bytes) else too_long) ≡ found text → bytes ≡ text ++ drop (length text) bytes
    by n false g f = cc
    by n true g f =
        let same : take n bytes ≡ text = cc f in
        let inside = s.within bytes n g in
        let size : n ≡ length text = sym (sym (ap length same) ∙ length-take-le n bytes inside) in
        sym (take-append-drop n bytes) ∙ ap (λ (l : List ℕ). l ++ drop n bytes) same ∙ ap (λ (k : ℕ). text ++ drop k bytes) size

    on : (o : Option ℕ) → len bytes ≡ o → front_at limit bytes o ≡ found text → bytes ≡ text ++ drop (length text) bytes
    on None g f = absurd (none (nat_le limit (length bytes)) f)
    on (Some n) g f = by n (nat_le n limit) g f

-- ---- chunks

abbrev Sound : Limits → ℕ → List ℕ → Decoded → Type 0
Sound limits sum bytes c = ReadsChunks limits sum bytes c.pieces c.state

zero_is : (n : ℕ) → (n == 0) ≡ true → n ≡ 0
zero_is n h = grind (arith, nat_tests)

above : (n : ℕ) → (n == 0) ≡ false → 0 < n
above n h = grind (arith, nat_tests)

trailers_sound : (limits : Limits) (sum : ℕ) (bytes rest : List ℕ) (line : ChunkLine) → sum ≤ limits.max_body → SizeRead bytes rest line → chunk_size line ≡ 0
    → Sound limits sum bytes (no_piece (trailers_of limits rest))
trailers_sound limits sum bytes rest line h s z = by (front_at limits.max_head rest (trailer_len rest)) refl
  where
    begins : body.BeginsTrailers bytes line rest
    begins = record { splits = s.splits; line_is = s.line_is; zero_size = z }

    judged : (text : List ℕ) (b : Bool) → ParsesTrailers limits.max_headers text b → IsFirstWithin EndsAsSection limits.max_head rest text (drop (length text) rest)
        → Sound limits sum bytes (no_piece (if b then complete (drop (length text) rest) else faulty BadRequest))
    judged text false p x = ended limits sum bytes (body.bad_trailers line rest) h (begins, inr (text, drop (length text) rest, x, p))
    judged text true p x =
        let is : text ≡ print_section p.0 p.1 = p.2.reads.1 ∙ append-nil (print_section p.0 p.1) in
        ended limits sum bytes (body.last (record { line = line; fields = p.0; end = p.1 }) (drop (length text) rest)) h (
          record {
            line = s.line_is;
            zero_size = z;
            section = subst (λ (l : List ℕ). body.IsTrailerSection limits.max_headers l p.0 p.1) is p.2;
            short = subst (λ (l : List ℕ). length l ≤ limits.max_head) is x.1;
          },
          s.splits ∙ ap (λ (l : List ℕ). print_chunk_line line ++ l) (x.0.splits ∙ ap (λ (l : List ℕ). l ++ drop (length text) rest) is)
              ∙ sym (append_assoc (print_chunk_line line) (print_section p.0 p.1) (drop (length text) rest)),
        )

    by : (f : Front) → front_at limits.max_head rest (trailer_len rest) ≡ f → Sound limits sum bytes (no_piece (trailers_at limits rest f))
    by unfinished e = ended limits sum bytes (body.open_trailers line rest) h (begins, tells EndsAsSection trailer_len section_search_for limits.max_head rest unfinished e)
    by too_long e = ended limits sum bytes (body.bad_trailers line rest) h (begins, inl (tells EndsAsSection trailer_len section_search_for limits.max_head rest too_long e))
    by (found text) e =
        judged text (is_section limits.max_headers text) (trailers_parse limits.max_headers text)
        (tells EndsAsSection trailer_len section_search_for limits.max_head rest (found text) e (drop (length text) rest) (front_splits trailer_len trailer_search limits.max_head rest text e))

chunk_sound : (limits : Limits) (sum : ℕ) (bytes rest : List ℕ) (line : ChunkLine) → sum ≤ limits.max_body → SizeRead bytes rest line
    → 0 < chunk_size line → sum + chunk_size line ≤ limits.max_body → (go : List ℕ → Decoded)
    → ((more : List ℕ) → length more < length rest → Sound limits (sum + chunk_size line) more (go more))
    → Sound limits sum bytes (chunk_of (chunk_size line) rest go)
chunk_sound limits sum bytes rest line h s some fits go goes = by (nat_lt (length rest) (chunk_size line + 2)) refl
  where
    n : ℕ
    n = chunk_size line

    begins : body.BeginsChunk limits sum bytes line rest
    begins = record { splits = s.splits; line_is = s.line_is; some_data = some; fits = fits }

    first : Piece
    first = record { size = chunk_size line; data_bytes = take (chunk_size line) rest }

    paired : (b : Bool) → bytes_eq (take 2 (drop (chunk_size line) rest)) crlf_bytes ≡ b → chunk_size line + 2 ≤ length rest
        → Sound limits sum bytes (with_piece (record { size = chunk_size line; data_bytes = take (chunk_size line) rest }) (if b then go (drop (chunk_size line + 2) rest) else no_piece (faulty BadRequest)))
    paired false e there =
        ended limits sum bytes (body.bad_chunk line rest) h
        (begins, there, λ same. (let yes = (bytes_eq-Decides (take 2 (drop (chunk_size line) rest)) crlf_bytes).1 same in let both : true ≡ false = sym yes ∙ e in cc))
    paired true e there =
        let pair : take 2 (drop (chunk_size line) rest) ≡ crlf_bytes = (bytes_eq-Decides (take 2 (drop (chunk_size line) rest)) crlf_bytes).0 e in
        let more = drop (chunk_size line + 2) rest in
        let left : drop (chunk_size line) rest ≡ crlf_bytes ++ more =
        sym (take-append-drop 2 (drop (chunk_size line) rest)) ∙ ap (λ (l : List ℕ). l ++ drop 2 (drop (chunk_size line) rest)) pair
        ∙ ap (λ (l : List ℕ). crlf_bytes ++ l) (drop-drop 2 (chunk_size line) rest) in
        let split : rest ≡ take (chunk_size line) rest ++ (crlf_bytes ++ more) =
        sym (take-append-drop (chunk_size line) rest) ∙ ap (λ (l : List ℕ). take (chunk_size line) rest ++ l) left in
        let less : length more < length rest = omega (arith, there, length-drop (chunk_size line + 2) rest) in
        chunk_first limits sum bytes (take (chunk_size line) rest) more line (go more).pieces (go more).state
        (s.splits ∙ ap (λ (l : List ℕ). print_chunk_line line ++ l) split) s.line_is some (length-take-le (chunk_size line) rest (omega (arith, there))) (goes more less)

    by : (b : Bool) → nat_lt (length rest) (chunk_size line + 2) ≡ b
        → Sound limits sum bytes (with_piece (record { size = chunk_size line; data_bytes = take (chunk_size line) rest })
        (if b then no_piece partial else (if bytes_eq (take 2 (drop (chunk_size line) rest)) crlf_bytes then go (drop (chunk_size line + 2) rest) else no_piece (faulty BadRequest))))
    by true e = ended limits sum bytes (body.open_chunk line rest) h (begins, yes_lt (length rest) (chunk_size line + 2) e)
    by false e = paired (bytes_eq (take 2 (drop (chunk_size line) rest)) crlf_bytes) refl (no_lt (length rest) (chunk_size line + 2) e)

size_sound : (limits : Limits) (sum : ℕ) (bytes text rest : List ℕ) → sum ≤ limits.max_body → IsFirstWithin EndsAsLine size_line_limit bytes text rest
    → length rest ≤ length bytes → (go : ℕ → List ℕ → Decoded)
    → ((n : ℕ) (more : List ℕ) → sum + n ≤ limits.max_body → length more < length bytes → Sound limits (sum + n) more (go (sum + n) more))
    → (o : Option ℕ) → ParsesSize text o → Sound limits sum bytes (after_size_line limits sum rest go o)
size_sound limits sum bytes text rest h x shorter go goes None p = ended limits sum bytes body.bad_line h (inr (text, rest, x, p))
size_sound limits sum bytes text rest h x shorter go goes (Some n) p =
    subst (λ (k : ℕ). Sound limits sum bytes (after_size_line limits sum rest go (Some k))) (sym p.2)
    (by p.0 (size_read bytes text rest p.0 x p.1 x.0.splits) (nat_lt limits.max_body (sum + chunk_size p.0)) (chunk_size p.0 == 0) refl refl)
  where
    by : (line : ChunkLine) → SizeRead bytes rest line → (a b : Bool) → nat_lt limits.max_body (sum + chunk_size line) ≡ a → (chunk_size line == 0) ≡ b
        → Sound limits sum bytes (if a then no_piece (faulty ContentTooLarge) else (if b then no_piece (trailers_of limits rest) else chunk_of (chunk_size line) rest (go (sum + chunk_size line))))
    by line s true b e f = ended limits sum bytes (body.large_chunk line) h (rest, s.splits, s.line_is, yes_lt limits.max_body (sum + chunk_size line) e)
    by line s false true e f = trailers_sound limits sum bytes rest line h s (zero_is (chunk_size line) f)
    by line s false false e f =
        let fits = no_lt limits.max_body (sum + chunk_size line) e in
        chunk_sound limits sum bytes rest line h s (above (chunk_size line) f) fits (go (sum + chunk_size line)) (λ more less. goes (chunk_size line) more fits (omega (arith, less, shorter)))

line_sound : (limits : Limits) (sum : ℕ) (bytes : List ℕ) → sum ≤ limits.max_body → (go : ℕ → List ℕ → Decoded)
    → ((n : ℕ) (more : List ℕ) → sum + n ≤ limits.max_body → length more < length bytes → Sound limits (sum + n) more (go (sum + n) more))
    → (f : Front) → front_at size_line_limit bytes (line_len bytes) ≡ f → Sound limits sum bytes (at_line limits sum bytes go f)
line_sound limits sum bytes h go goes unfinished e = ended limits sum bytes body.open_line h (tells EndsAsLine line_len line_search_for size_line_limit bytes unfinished e)
line_sound limits sum bytes h go goes too_long e = ended limits sum bytes body.bad_line h (inl (tells EndsAsLine line_len line_search_for size_line_limit bytes too_long e))
line_sound limits sum bytes h go goes (found text) e =
    let rest = drop (length text) bytes in
    let x = tells EndsAsLine line_len line_search_for size_line_limit bytes (found text) e rest (front_splits line_len line_search size_line_limit bytes text e) in
    size_sound limits sum bytes text rest h x (omega (arith, length-drop (length text) bytes)) go goes (size_in text) (size_parses text)

chunks_sound : (count : ℕ) (limits : Limits) (sum : ℕ) (bytes : List ℕ) → length bytes < count → sum ≤ limits.max_body
    → Sound limits sum bytes (chunks_from count limits sum bytes)
chunks_sound zero limits sum bytes less h = absurd (omega (arith, less))
chunks_sound (suc count) limits sum bytes less h =
    line_sound limits sum bytes h (chunks_from count limits) (λ n more fits shorter. chunks_sound count limits (sum + n) more (omega (arith, less, shorter)) fits)
    (front_at size_line_limit bytes (line_len bytes)) refl

-- ---- a body

pub body_is_read : (limits : Limits) (framing : Framing) (bytes : List ℕ) → ReadsBody limits framing bytes (body_events limits framing bytes) (body_state limits framing bytes)
body_is_read limits (Length n) bytes = (refl, refl)
body_is_read limits Chunked bytes =
    let c = chunks_of limits bytes in
    (c.pieces, chunks_sound (suc (length bytes)) limits 0 bytes (omega arith) (omega arith), refl)
body_is_read limits Upgrade bytes = (refl, refl)

pub body_is_computed : (limits : Limits) (framing : Framing) (bytes : List ℕ) (events : List Incoming) (state : BodyState)
    → ReadsBody limits framing bytes events state ↔ ((events ≡ body_events limits framing bytes) × (state ≡ body_state limits framing bytes))
body_is_computed limits framing bytes events state = (
  λ x. body_is_one limits framing bytes events (body_events limits framing bytes) state (body_state limits framing bytes) x (body_is_read limits framing bytes),
  λ e. (
      let E : List Incoming → Type 0 = λ l. ReadsBody limits framing bytes l state in
      let S : BodyState → Type 0 = λ s. ReadsBody limits framing bytes (body_events limits framing bytes) s in
      subst E (sym e.0) (subst S (sym e.1) (body_is_read limits framing bytes))
      ),
)

-- ---- more bytes after a body that is whole or faulty

grown : (limits : Limits) (framing : Framing) (bytes : List ℕ) (events : List Incoming) (state : BodyState)
    → body_events limits framing bytes ≡ events → body_state limits framing bytes ≡ state → ReadsBody limits framing bytes events state
grown limits framing bytes events state e f = (body_is_computed limits framing bytes events state).1 (sym e, sym f)

pub whole_grows : (limits : Limits) (framing : Framing) (bytes more : List ℕ) (events : List Incoming) (after : List ℕ)
    → ReadsBody limits framing bytes events (complete after) → ReadsBody limits framing (bytes ++ more) events (complete (after ++ more))
whole_grows limits framing bytes more events after x =
    let all = bytes ++ more in
    let g = body_grows limits framing bytes more events (body_events limits framing all) (complete after) (body_state limits framing all) x (body_is_read limits framing all) in
    grown limits framing all events (complete (after ++ more)) g.stays.0 g.stays.1

pub faulty_grows : (limits : Limits) (framing : Framing) (bytes more : List ℕ) (events : List Incoming) (why : Refusal)
    → ReadsBody limits framing bytes events (faulty why) → ReadsBody limits framing (bytes ++ more) events (faulty why)
faulty_grows limits framing bytes more events why x =
    let all = bytes ++ more in
    let g = body_grows limits framing bytes more events (body_events limits framing all) (faulty why) (body_state limits framing all) x (body_is_read limits framing all) in
    grown limits framing all events (faulty why) g.stays.0 g.stays.1
