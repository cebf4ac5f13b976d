-- What the places give is what the bytes give.
use Rattle.std.proofs.Common.{◌≡◌, ℕ, suc, ◌+◌, ◌-◌, ◌<◌, ◌≤◌, ◌⊎◌, inl, inr, Bool, true, false, List, [], ◌∷◌, ◌++◌, length, take, drop, map, refl, sym, ap, ◌∙◌, append_assoc, arith, subst, Option, Some, None, flat_map}
use Rattle.std.specs.Prelude.{nat_le, nat_lt, min, ◌==◌, if◌then◌else◌, bytes_eq}
use Rattle.std.proofs.lemmas.Bool.Decides.{nat_tests, not_from_Decides}
use Rattle.std.proofs.lemmas.Slice.Eq.{bytes_eq-Decides}
use Rattle.std.proofs.lemmas.List.{append-nil, length-append, length-take-le, map-append}
use Rattle.std.proofs.lemmas.List.Elements.{All-nil, All-cons}
use Rattle.std.proofs.Math.Seq.{take-append_seam}
use Rattle.httparse.specs.Ascii.{crlf_bytes}
use Rattle.httparse.specs.Grammar.{ChunkLine, ReadsChunkLine, chunk_size, print_chunk_line, Field, LineEnd, print_section}
use Rattle.asgi_types.specs.declared.incoming.Incoming.{Incoming}
use Rattle.asgi_types.specs.declared.incoming.Incoming.TheVariants.{HttpRequest}
use Rattle.asgi_types.specs.declared.limits.Limits.{Limits}
use Rattle.asgi_request.specs.declared.next.Next.{Next}
use Rattle.asgi_request.specs.declared.next.Next.TheVariants.{Event, Whole, Bad}
use Rattle.asgi_request.specs.declared.place.Place.{Place}
use Rattle.asgi_request.specs.declared.place.Place.TheVariants.{Start, Counted, SizeLine, Chunk, ChunkEnd, Trailers, BodyEnd, HandshakeEnd, Upgraded, Stopped}
use Rattle.asgi_request.specs.Places.{Judged}
use Rattle.asgi_request.specs.declared.refusal.Refusal.{Refusal}
use Rattle.asgi_request.specs.declared.refusal.Refusal.TheVariants.{BadRequest, ContentTooLarge}
use Rattle.asgi_request.specs.Refusals.{status_of}
use Rattle.asgi_request.specs.Texts.{IsFirstWithin, IsUnfinished}
use Rattle.asgi_request.specs.Fronts.{Front, found, too_long, unfinished, first, front_text, line_len, trailer_len}
use Rattle.asgi_request.specs.Parts.{ParsesSize, ParsesTrailers}
use Rattle.asgi_request.specs.ChunkedBody as body
use Rattle.asgi_request.specs.ChunkedBody.{BodyState, partial, complete, faulty, Piece, print_chunk, size_line_limit, IsSizeLine, IsChunk, total, IsTrailerSection, EndsAsLine, EndsAsSection, IsBadSection, tail_state, ReadsChunks}
use Rattle.asgi_request.specs.RequestEvents.{more_event, length_events, length_state, closing_event, chunked_events, piece_blocks}
use Rattle.asgi_request.specs.Places.{front, bad, silent, gives, after_counted, after_size, after_chunk, after_trailers, after_too_long, JudgesText, Judges, Takes, shown}
use Rattle.asgi_request.proofs.TextLemmas.{tells}
use Rattle.asgi_request.proofs.LineLemmas.{line_search_for, section_search_for}
use Rattle.asgi_request.proofs.BlockLemmas.{length_more, state_more, length_last, length_none, rest_blocks, chunk_more, chunk_last, chunk_none}

-- ---- what is due from each place

-- what follows the events of a body; E states what the bytes after a request give
abbrev pub Follows : (List ℕ → List Next → List ℕ → Type 0) → BodyState → List Next → Option (List ℕ) → Type 0
Follows E partial tail r = (tail ≡ []) × (r ≡ None)
Follows E (complete after) tail r = (more : List Next) × (h : List ℕ) × E after more h × (tail ≡ Whole ∷ more) × (r ≡ Some h)
Follows E (faulty why) tail r = (tail ≡ Bad (status_of why) ∷ []) × (r ≡ None)

-- what follows within a chunk of which `left` bytes of data are due
abbrev pub RestOfChunk : Limits → ℕ → ℕ → List ℕ → List Piece → BodyState → Type 0
RestOfChunk limits left sum bytes pieces state =
    ((length bytes < left + 2) × (pieces ≡ []) × (state ≡ partial))
    ⊎ (((left + 2 ≤ length bytes) × ((take 2 (drop left bytes) ≡ crlf_bytes) → ⊥) × (pieces ≡ []) × (state ≡ faulty BadRequest))
    ⊎ ((d : List ℕ) × (more : List ℕ) × (bytes ≡ d ++ (crlf_bytes ++ more)) × (length d ≡ left) × ReadsChunks limits sum more pieces state))

abbrev pub TrailersAre : Limits → List ℕ → BodyState → Type 0
TrailersAre limits bytes partial = IsUnfinished EndsAsSection limits.max_head bytes
TrailersAre limits bytes (complete after) =
    (fields : List Field) × (end : LineEnd) × (bytes ≡ print_section fields end ++ after)
    × IsTrailerSection limits.max_headers (print_section fields end) fields end × (length (print_section fields end) ≤ limits.max_head)
TrailersAre limits bytes (faulty why) = IsBadSection limits bytes × (why ≡ BadRequest)

-- the events of some bytes, and what follows them
abbrev pub Gives : (List ℕ → List Next → List ℕ → Type 0) → List Incoming → BodyState → List Next → Option (List ℕ) → Type 0
Gives E events state results r = (tail : List Next) × Follows E state tail r × (results ≡ map Event events ++ tail)

abbrev pub From : (List ℕ → List Next → List ℕ → Type 0) → Limits → Place → List ℕ → List Next → Option (List ℕ) → Type 0
From E limits Start bytes results r = (h : List ℕ) × E bytes results h × (r ≡ Some h)
From E limits (Counted n) bytes results r = Gives E (length_events limits.block n bytes) (length_state n bytes) results r
From E limits (SizeLine sum) bytes results r =
    (pieces : List Piece) × (state : BodyState) × ReadsChunks limits sum bytes pieces state
    × Gives E (chunked_events limits.block pieces state) state results r
From E limits (Chunk left sum) bytes results r =
    (pieces : List Piece) × (state : BodyState) × RestOfChunk limits left sum bytes pieces state
    × Gives E (map more_event (rest_blocks limits.block left bytes) ++ chunked_events limits.block pieces state) state results r
From E limits (ChunkEnd sum) bytes results r =
    (pieces : List Piece) × (state : BodyState) × RestOfChunk limits 0 sum bytes pieces state
    × Gives E (chunked_events limits.block pieces state) state results r
From E limits Trailers bytes results r = (state : BodyState) × TrailersAre limits bytes state × Gives E (closing_event state) state results r
From E limits BodyEnd bytes results r = Follows E (complete bytes) results r
From E limits HandshakeEnd bytes results r = (results ≡ Whole ∷ []) × (r ≡ None)
From E limits Upgraded bytes results r = (results ≡ []) × (r ≡ None)
From E limits (Stopped why) bytes results r = (results ≡ []) × (r ≡ None)

-- no place counts more data than the limit
abbrev pub Fits : Limits → Place → Type 0
Fits limits Start = Unit {0}
Fits limits (Counted n) = Unit {0}
Fits limits (SizeLine sum) = sum ≤ limits.max_body
Fits limits (Chunk left sum) = (0 < left) × (sum ≤ limits.max_body)
Fits limits (ChunkEnd sum) = sum ≤ limits.max_body
Fits limits Trailers = Unit {0}
Fits limits BodyEnd = Unit {0}
Fits limits HandshakeEnd = Unit {0}
Fits limits Upgraded = Unit {0}
Fits limits (Stopped why) = Unit {0}

-- what a turn has to keep
abbrev pub Good : (List ℕ → List Next → List ℕ → Type 0) → Limits → Place → List ℕ → List ℕ → Judged → Type 0
Good E limits place bytes rest turn =
    Fits limits turn.place
    × ((results : List Next) (r : Option (List ℕ)) → From E limits turn.place rest results r → From E limits place bytes (shown (turn.item ∷ []) ++ results) r)

good : (E : List ℕ → List Next → List ℕ → Type 0) (limits : Limits) (place : Place) (bytes rest : List ℕ) (turn t : Judged)
    → turn ≡ t → Good E limits place bytes rest t → Good E limits place bytes rest turn
good E limits place bytes rest turn t e g = subst (λ (x : Judged). Good E limits place bytes rest x) (sym e) g

-- ---- numbers

pub lt_yes : (k l : ℕ) → k < l → nat_lt k l ≡ true
lt_yes k l h = grind (arith, nat_tests)

pub lt_no : (k l : ℕ) → l ≤ k → nat_lt k l ≡ false
lt_no k l h = grind (arith, nat_tests)

pub yes_lt : (k l : ℕ) → nat_lt k l ≡ true → k < l
yes_lt k l h = grind (arith, nat_tests)

pub no_lt : (k l : ℕ) → nat_lt k l ≡ false → l ≤ k
no_lt k l h = grind (arith, nat_tests)

pub yes_le : (n l : ℕ) → nat_le n l ≡ true → n ≤ l
yes_le n l h = grind (arith, nat_tests)

pub no_le : (n l : ℕ) → nat_le n l ≡ false → l < n
no_le n l h = grind (arith, nat_tests)

pub le_yes : (n l : ℕ) → n ≤ l → nat_le n l ≡ true
le_yes n l h = grind (arith, nat_tests)

pub le_no : (n l : ℕ) → l < n → nat_le n l ≡ false
le_no n l h = grind (arith, nat_tests)

zero_is : (n : ℕ) → (n == 0) ≡ true → n ≡ 0
zero_is n h = grind (arith, nat_tests)

above : (n : ℕ) → (n == 0) ≡ false → 0 < n
above n h = grind (arith, nat_tests)

-- ---- n bytes

abbrev pub FirstTells : ℕ → List ℕ → Front → Type 0
FirstTells n bytes (found text) = (text ≡ take n bytes) × (n ≤ length bytes)
FirstTells n bytes too_long = ⊥
FirstTells n bytes unfinished = length bytes < n

pub first_tells : (n : ℕ) (bytes : List ℕ) (f : Front) → first n bytes ≡ f → FirstTells n bytes f
first_tells n bytes f e = subst (λ (x : Front). FirstTells n bytes x) e (at (nat_le n (length bytes)) refl)
  where
    at : (b : Bool) → nat_le n (length bytes) ≡ b → FirstTells n bytes (if b then found (take n bytes) else unfinished)
    at true h = (refl, yes_le n (length bytes) h)
    at false h = no_le n (length bytes) h

rest_is : (n : ℕ) (bytes text rest : List ℕ) → text ≡ take n bytes → n ≤ length bytes → bytes ≡ text ++ rest → rest ≡ drop n bytes
rest_is n bytes text rest t inside split =
    let size : length text ≡ n = ap length t ∙ length-take-le n bytes inside in
    sym (drop_seam text rest) ∙ ap (drop (length text)) (sym split) ∙ ap (λ k. drop k bytes) size
  where
    drop_seam : (a b : List ℕ) → drop (length a) (a ++ b) ≡ b
    drop_seam [] b = refl
    drop_seam (x ∷ a) b = drop_seam a b

-- ---- a body of n bytes

counted_more : (E : List ℕ → List Next → List ℕ → Type 0) (limits : Limits) (n : ℕ) (bytes rest : List ℕ) → 0 < limits.block → limits.block < n
    → limits.block ≤ length bytes → rest ≡ drop limits.block bytes → (results : List Next) (r : Option (List ℕ))
    → From E limits (Counted (n - limits.block)) rest results r
    → From E limits (Counted n) bytes (Event (HttpRequest (take limits.block bytes) true) ∷ results) r
counted_more E limits n bytes rest h far there e results r from =
    let b = limits.block in
    let state : length_state (n - b) rest ≡ length_state n bytes = ap (length_state (n - b)) e ∙ sym (state_more b n bytes far there) in (
      from.0,
      subst (λ (s : BodyState). Follows E s from.0 r) state from.1,
      ap (λ (l : List Next). Event (HttpRequest (take b bytes) true) ∷ l) (from.2 ∙ ap (λ (l : List ℕ). map Event (length_events b (n - b) l) ++ from.0) e)
          ∙ sym (ap (λ (l : List Incoming). map Event l ++ from.0) (length_more b n bytes h far there)),
    )

counted_last : (E : List ℕ → List Next → List ℕ → Type 0) (limits : Limits) (n : ℕ) (bytes rest : List ℕ) → 0 < limits.block → n ≤ limits.block
    → n ≤ length bytes → rest ≡ drop n bytes → (results : List Next) (r : Option (List ℕ))
    → From E limits BodyEnd rest results r → From E limits (Counted n) bytes (Event (HttpRequest (take n bytes) false) ∷ results) r
counted_last E limits n bytes rest h near there e results r from =
    let state : complete rest ≡ length_state n bytes =
    ap (λ (l : List ℕ). complete l) e ∙ sym (ap (λ (b : Bool). if b then complete (drop n bytes) else partial) (le_yes n (length bytes) there)) in (
      results,
      subst (λ (s : BodyState). Follows E s results r) state from,
      sym (ap (λ (l : List Incoming). map Event l ++ results) (length_last limits.block n bytes h near there)),
    )

pub counted_turn_more : (n : ℕ) (text : List ℕ) (b : ℕ) → length text ≡ b → b < n → after_counted n text ≡ gives (Event (HttpRequest text true)) (Counted (n - b))
counted_turn_more n text b size h =
    ap (λ (t : Bool). if t then gives (Event (HttpRequest text true)) (Counted (n - length text)) else gives (Event (HttpRequest text false)) BodyEnd)
    (lt_yes (length text) n (omega (arith, size, h)))
    ∙ ap (λ k. gives (Event (HttpRequest text true)) (Counted (n - k))) size

pub counted_turn_last : (n : ℕ) (text : List ℕ) → length text ≡ n → after_counted n text ≡ gives (Event (HttpRequest text false)) BodyEnd
counted_turn_last n text size =
    ap (λ (t : Bool). if t then gives (Event (HttpRequest text true)) (Counted (n - length text)) else gives (Event (HttpRequest text false)) BodyEnd)
    (lt_no (length text) n (omega (arith, size)))

counted_good : (E : List ℕ → List Next → List ℕ → Type 0) (limits : Limits) → 0 < limits.block → (n : ℕ) (bytes text rest : List ℕ) (turn : Judged)
    → text ≡ take (min n limits.block) bytes → min n limits.block ≤ length bytes → bytes ≡ text ++ rest → turn ≡ after_counted n text
    → Good E limits (Counted n) bytes rest turn
counted_good E limits h n bytes text rest turn t inside split e = by (nat_lt limits.block n) refl
  where
    by : (x : Bool) → nat_lt limits.block n ≡ x → Good E limits (Counted n) bytes rest turn
    by true far =
        let b = limits.block in
        let m : min n b ≡ b = omega (arith, yes_lt b n far) in
        let text_is : text ≡ take b bytes = t ∙ ap (λ k. take k bytes) m in
        let there : b ≤ length bytes = omega (arith, inside, m) in
        let size : length text ≡ b = ap length text_is ∙ length-take-le b bytes there in
        good E limits (Counted n) bytes rest turn (gives (Event (HttpRequest text true)) (Counted (n - b))) (e ∙ counted_turn_more n text b size (yes_lt b n far)) (
          tt,
          λ results r from. subst (λ (l : List ℕ). From E limits (Counted n) bytes (Event (HttpRequest l true) ∷ results) r) (sym text_is)
              (counted_more E limits n bytes rest h (yes_lt b n far) there (rest_is b bytes text rest text_is there split) results r from),
        )
    by false far =
        let b = limits.block in
        let m : min n b ≡ n = omega (arith, no_lt b n far) in
        let text_is : text ≡ take n bytes = t ∙ ap (λ k. take k bytes) m in
        let there : n ≤ length bytes = omega (arith, inside, m) in
        let size : length text ≡ n = ap length text_is ∙ length-take-le n bytes there in
        good E limits (Counted n) bytes rest turn (gives (Event (HttpRequest text false)) BodyEnd) (e ∙ counted_turn_last n text size) (
          tt,
          λ results r from. subst (λ (l : List ℕ). From E limits (Counted n) bytes (Event (HttpRequest l false) ∷ results) r) (sym text_is)
              (counted_last E limits n bytes rest h (no_lt b n far) there (rest_is n bytes text rest text_is there split) results r from),
        )

-- ---- a size line

-- no chunk at the front
pub ended : (limits : Limits) (sum : ℕ) (bytes : List ℕ) (t : body.Tail) → sum ≤ limits.max_body → body.IsTail limits sum bytes t
    → ReadsChunks limits sum bytes (body.tail_pieces t) (tail_state t)
ended limits sum bytes t h tail =
    let none : sum ≡ sum + total [] = omega arith in
    record {
      chunks = [];
      left = bytes;
      tail = t;
      splits = refl;
      each = All-nil IsChunk;
      fits = omega (arith, h, none);
      goes_on = subst (λ k. body.IsTail limits k bytes t) none tail;
      pieces_are = refl;
      state_is = refl;
    }

refused : (E : List ℕ → List Next → List ℕ → Type 0) (limits : Limits) (sum : ℕ) (bytes rest : List ℕ) (t : body.Tail) (why : Refusal)
    → sum ≤ limits.max_body → body.IsTail limits sum bytes t → body.tail_pieces t ≡ [] → tail_state t ≡ faulty why
    → Good E limits (SizeLine sum) bytes rest (bad why)
refused E limits sum bytes rest t why h tail none state = (
  tt,
  λ results r from. (
      let read = ended limits sum bytes t h tail in
      let moved = subst (λ (s : BodyState). ReadsChunks limits sum bytes [] s) state (subst (λ (p : List Piece). ReadsChunks limits sum bytes p (tail_state t)) none read) in (
        [],
        faulty why,
        moved,
        (Bad (status_of why) ∷ results, (ap (λ (l : List Next). Bad (status_of why) ∷ l) from.0, from.1), refl),
      )
      ),
)

-- a size line was read
pub record SizeRead (bytes rest : List ℕ) (line : ChunkLine) : Type 0 where
  pub splits : bytes ≡ print_chunk_line line ++ rest
  pub line_is : IsSizeLine line

pub size_read : (bytes text rest : List ℕ) (line : ChunkLine) → IsFirstWithin EndsAsLine size_line_limit bytes text rest → ReadsChunkLine text line []
    → bytes ≡ text ++ rest → SizeRead bytes rest line
size_read bytes text rest line x reads split =
    let is : text ≡ print_chunk_line line = reads.1 ∙ append-nil (print_chunk_line line) in
    record {
      splits = split ∙ ap (λ (l : List ℕ). l ++ rest) is;
      line_is = record { valid = reads.0; short = subst (λ (l : List ℕ). length l ≤ size_line_limit) is x.1 };
    }

trailers_good : (E : List ℕ → List Next → List ℕ → Type 0) (limits : Limits) (sum : ℕ) (bytes rest : List ℕ) (line : ChunkLine)
    → sum ≤ limits.max_body → SizeRead bytes rest line → chunk_size line ≡ 0 → Good E limits (SizeLine sum) bytes rest (silent Trailers)
trailers_good E limits sum bytes rest line h s z = (tt, λ results r from. ([], from.0, chunks from.0 from.1, from.2))
  where
    chunks : (state : BodyState) → TrailersAre limits rest state → ReadsChunks limits sum bytes [] state
    chunks partial x = ended limits sum bytes (body.open_trailers line rest) h (record { splits = s.splits; line_is = s.line_is; zero_size = z }, x)
    chunks (faulty why) x =
        subst (λ (w : Refusal). ReadsChunks limits sum bytes [] (faulty w)) (sym x.1)
        (ended limits sum bytes (body.bad_trailers line rest) h (record { splits = s.splits; line_is = s.line_is; zero_size = z }, x.0))
    chunks (complete after) x =
        ended limits sum bytes (body.last (record { line = line; fields = x.0; end = x.1 }) after) h (
          record { line = s.line_is; zero_size = z; section = x.3; short = x.4 },
          s.splits ∙ ap (λ (l : List ℕ). print_chunk_line line ++ l) x.2 ∙ sym (append_assoc (print_chunk_line line) (print_section x.0 x.1) after),
        )

-- one chunk more at the front
pub chunk_first : (limits : Limits) (sum : ℕ) (bytes d more : List ℕ) (line : ChunkLine) (pieces : List Piece) (state : BodyState)
    → bytes ≡ print_chunk_line line ++ (d ++ (crlf_bytes ++ more)) → IsSizeLine line → 0 < chunk_size line → length d ≡ chunk_size line
    → ReadsChunks limits (sum + chunk_size line) more pieces state
    → ReadsChunks limits sum bytes ((let p : Piece = record { size = chunk_size line; data_bytes = d } in p) ∷ pieces) state
chunk_first limits sum bytes d more line pieces state split line_is above_zero size x =
    let c : body.Chunk = record { line = line; data_bytes = d } in
    let one : total (c ∷ x.chunks) ≡ chunk_size line + total x.chunks = refl in
    let same : sum + chunk_size line + total x.chunks ≡ sum + total (c ∷ x.chunks) = omega (arith, one) in
    record {
      chunks = c ∷ x.chunks;
      left = x.left;
      tail = x.tail;
      splits = split ∙ ap (λ (l : List ℕ). print_chunk_line line ++ (d ++ (crlf_bytes ++ l))) x.splits
          ∙ sym (regroup (print_chunk_line line) d crlf_bytes (flat_map print_chunk x.chunks) x.left);
      each = All-cons IsChunk c x.chunks (record { line = line_is; size = size; some_data = above_zero }) x.each;
      fits = omega (arith, x.fits, same);
      goes_on = subst (λ k. body.IsTail limits k x.left x.tail) same x.goes_on;
      pieces_are = ap (λ (l : List Piece). (let p : Piece = record { size = chunk_size line; data_bytes = d } in p) ∷ l) x.pieces_are;
      state_is = x.state_is;
    }
  where
    regroup : (a b c e f : List ℕ) → ((a ++ (b ++ c)) ++ e) ++ f ≡ a ++ (b ++ (c ++ (e ++ f)))
    regroup a b c e f = simp append_assoc

abbrev data_piece : ChunkLine → List ℕ → Piece
data_piece line rest = record { size = chunk_size line; data_bytes = take (chunk_size line) rest }

data_good : (E : List ℕ → List Next → List ℕ → Type 0) (limits : Limits) (sum : ℕ) (bytes rest : List ℕ) (line : ChunkLine)
    → SizeRead bytes rest line → 0 < chunk_size line → sum ≤ limits.max_body → sum + chunk_size line ≤ limits.max_body
    → Good E limits (SizeLine sum) bytes rest (silent (Chunk (chunk_size line) (sum + chunk_size line)))
data_good E limits sum bytes rest line s some_data h fits = (
  (some_data, fits),
  λ results r from. (data_piece line rest ∷ from.0, from.1, chunks from.0 from.1 from.2, (from.3.0, from.3.1, from.3.2 ∙ ap (λ (l : List Incoming). map Event l ++ from.3.0) (sym (first_piece from.0 from.1)))),
)
  where
    begins : body.BeginsChunk limits sum bytes line rest
    begins = record { splits = s.splits; line_is = s.line_is; some_data = some_data; fits = fits }

    chunks : (pieces : List Piece) (state : BodyState) → RestOfChunk limits (chunk_size line) (sum + chunk_size line) rest pieces state
        → ReadsChunks limits sum bytes (data_piece line rest ∷ pieces) state
    chunks pieces state (inl x) =
        let read = ended limits sum bytes (body.open_chunk line rest) h (begins, x.0) in
        subst (λ (l : List Piece). ReadsChunks limits sum bytes (data_piece line rest ∷ l) state) (sym x.1)
        (subst (λ (b : BodyState). ReadsChunks limits sum bytes (data_piece line rest ∷ []) b) (sym x.2) read)
    chunks pieces state (inr (inl x)) =
        let read = ended limits sum bytes (body.bad_chunk line rest) h (begins, x.0, x.1) in
        subst (λ (l : List Piece). ReadsChunks limits sum bytes (data_piece line rest ∷ l) state) (sym x.2)
        (subst (λ (b : BodyState). ReadsChunks limits sum bytes (data_piece line rest ∷ []) b) (sym x.3) read)
    chunks pieces state (inr (inr x)) =
        let d_is : x.0 ≡ take (chunk_size line) rest =
        sym (take-append_seam x.0 (crlf_bytes ++ x.1)) ∙ ap (λ k. take k (x.0 ++ (crlf_bytes ++ x.1))) x.3 ∙ ap (take (chunk_size line)) (sym x.2) in
        let read = chunk_first limits sum bytes x.0 x.1 line pieces state (s.splits ∙ ap (λ (l : List ℕ). print_chunk_line line ++ l) x.2) s.line_is some_data x.3 x.4 in
        subst (λ (d : List ℕ). ReadsChunks limits sum bytes ((let p : Piece = record { size = chunk_size line; data_bytes = d } in p) ∷ pieces) state) d_is read

    first_piece : (pieces : List Piece) (state : BodyState)
        → chunked_events limits.block (data_piece line rest ∷ pieces) state ≡ map more_event (rest_blocks limits.block (chunk_size line) rest) ++ chunked_events limits.block pieces state
    first_piece pieces state =
        ap (λ (l : List Incoming). l ++ closing_event state) (map-append more_event (piece_blocks limits.block (data_piece line rest)) (flat_map (piece_blocks limits.block) pieces))
        ∙ append_assoc (map more_event (piece_blocks limits.block (data_piece line rest))) (map more_event (flat_map (piece_blocks limits.block) pieces)) (closing_event state)

-- what a size line of this size gives
size_good : (E : List ℕ → List Next → List ℕ → Type 0) (limits : Limits) (sum : ℕ) (bytes rest : List ℕ) (line : ChunkLine) (size : ℕ)
    → SizeRead bytes rest line → size ≡ chunk_size line → sum ≤ limits.max_body → (a b : Bool) → nat_lt limits.max_body (sum + size) ≡ a → (size == 0) ≡ b
    → Good E limits (SizeLine sum) bytes rest (if a then bad ContentTooLarge else (if b then silent Trailers else silent (Chunk size (sum + size))))
size_good E limits sum bytes rest line size s e h true b x y =
    refused E limits sum bytes rest (body.large_chunk line) ContentTooLarge h
    (rest, s.splits, s.line_is, omega (arith, yes_lt limits.max_body (sum + size) x, e)) refl refl
size_good E limits sum bytes rest line size s e h false true x y =
    trailers_good E limits sum bytes rest line h s (sym e ∙ zero_is size y)
size_good E limits sum bytes rest line size s e h false false x y =
    let fits = no_lt limits.max_body (sum + size) x in
    let some = above size y in
    subst (λ k. Good E limits (SizeLine sum) bytes rest (silent (Chunk k (sum + k)))) (sym e)
    (data_good E limits sum bytes rest line s (omega (arith, some, e)) h (omega (arith, fits, e)))

line_good : (E : List ℕ → List Next → List ℕ → Type 0) (limits : Limits) (sum : ℕ) (bytes text rest : List ℕ) (turn : Judged) → sum ≤ limits.max_body
    → IsFirstWithin EndsAsLine size_line_limit bytes text rest → bytes ≡ text ++ rest → (n : Option ℕ) → ParsesSize text n
    → turn ≡ after_size limits.max_body sum n → Good E limits (SizeLine sum) bytes rest turn
line_good E limits sum bytes text rest turn h x split None parses e =
    good E limits (SizeLine sum) bytes rest turn (bad BadRequest) e
    (refused E limits sum bytes rest body.bad_line BadRequest h (inr (text, rest, x, parses)) refl refl)
line_good E limits sum bytes text rest turn h x split (Some size) parses e =
    good E limits (SizeLine sum) bytes rest turn (after_size limits.max_body sum (Some size)) e
    (size_good E limits sum bytes rest parses.0 size (size_read bytes text rest parses.0 x parses.1 split) parses.2 h
    (nat_lt limits.max_body (sum + size)) (size == 0) refl refl)

-- ---- the data of a chunk

-- some of the data at the front
rest_of_more : (limits : Limits) (left k sum : ℕ) (bytes text rest : List ℕ) (pieces : List Piece) (state : BodyState)
    → bytes ≡ text ++ rest → left ≡ length text + k → RestOfChunk limits k sum rest pieces state → RestOfChunk limits left sum bytes pieces state
rest_of_more limits left k sum bytes text rest pieces state split e (inl x) =
    let size : length bytes ≡ length text + length rest = ap length split ∙ length-append text rest in
    inl (omega (arith, size, e, x.0), x.1, x.2)
rest_of_more limits left k sum bytes text rest pieces state split e (inr (inl x)) =
    let size : length bytes ≡ length text + length rest = ap length split ∙ length-append text rest in
    let same : drop left bytes ≡ drop k rest =
    ap (drop left) split ∙ ap (λ n. drop n (text ++ rest)) e ∙ drop_over text rest k in
    inr (inl (omega (arith, size, e, x.0), (λ c. x.1 (ap (take 2) (sym same) ∙ c)), x.2, x.3))
  where
    drop_over : (a b : List ℕ) (k : ℕ) → drop (length a + k) (a ++ b) ≡ drop k b
    drop_over [] b k = ap (λ n. drop n b) (omega arith)
    drop_over (y ∷ a) b k = ap (λ n. drop n (y ∷ (a ++ b))) (let z : length (y ∷ a) + k ≡ suc (length a + k) = omega arith in z) ∙ drop_over a b k
rest_of_more limits left k sum bytes text rest pieces state split e (inr (inr x)) =
    inr (inr (
      text ++ x.0,
      x.1,
      split ∙ ap (λ (l : List ℕ). text ++ l) x.2 ∙ sym (append_assoc text x.0 (crlf_bytes ++ x.1)),
      omega (arith, length-append text x.0, x.3, e),
      x.4,
    ))

pub chunk_turn_more : (left sum : ℕ) (text : List ℕ) (b : ℕ) → length text ≡ b → b < left → after_chunk left sum text ≡ gives (Event (HttpRequest text true)) (Chunk (left - b) sum)
chunk_turn_more left sum text b size h =
    ap (λ (t : Bool). if t then gives (Event (HttpRequest text true)) (Chunk (left - length text) sum) else gives (Event (HttpRequest text true)) (ChunkEnd sum))
    (lt_yes (length text) left (omega (arith, size, h)))
    ∙ ap (λ k. gives (Event (HttpRequest text true)) (Chunk (left - k) sum)) size

pub chunk_turn_last : (left sum : ℕ) (text : List ℕ) → length text ≡ left → after_chunk left sum text ≡ gives (Event (HttpRequest text true)) (ChunkEnd sum)
chunk_turn_last left sum text size =
    ap (λ (t : Bool). if t then gives (Event (HttpRequest text true)) (Chunk (left - length text) sum) else gives (Event (HttpRequest text true)) (ChunkEnd sum))
    (lt_no (length text) left (omega (arith, size)))

chunk_good : (E : List ℕ → List Next → List ℕ → Type 0) (limits : Limits) → 0 < limits.block → (left sum : ℕ) (bytes text rest : List ℕ) (turn : Judged)
    → 0 < left → sum ≤ limits.max_body
    → text ≡ take (min left limits.block) bytes → min left limits.block ≤ length bytes → bytes ≡ text ++ rest → turn ≡ after_chunk left sum text
    → Good E limits (Chunk left sum) bytes rest turn
chunk_good E limits h left sum bytes text rest turn some fits t inside split e = by (nat_lt limits.block left) refl
  where
    by : (x : Bool) → nat_lt limits.block left ≡ x → Good E limits (Chunk left sum) bytes rest turn
    by true far =
        let b = limits.block in
        let m : min left b ≡ b = omega (arith, yes_lt b left far) in
        let text_is : text ≡ take b bytes = t ∙ ap (λ k. take k bytes) m in
        let there : b ≤ length bytes = omega (arith, inside, m) in
        let size : length text ≡ b = ap length text_is ∙ length-take-le b bytes there in
        let after : rest ≡ drop b bytes = rest_is b bytes text rest text_is there split in
        let cut = chunk_more b left bytes h (yes_lt b left far) there in
        let blocks_are : rest_blocks b left bytes ≡ text ∷ rest_blocks b (left - b) rest =
        cut ∙ ap (λ (l : List ℕ). l ∷ rest_blocks b (left - b) (drop b bytes)) (sym text_is) ∙ ap (λ (l : List ℕ). text ∷ rest_blocks b (left - b) l) (sym after) in
        good E limits (Chunk left sum) bytes rest turn (gives (Event (HttpRequest text true)) (Chunk (left - b) sum)) (e ∙ chunk_turn_more left sum text b size (yes_lt b left far)) (
          (omega (arith, yes_lt b left far), fits),
          λ results r from. (
            from.0,
            from.1,
            rest_of_more limits left (left - b) sum bytes text rest from.0 from.1 split (omega (arith, size, yes_lt b left far)) from.2,
            (
              from.3.0,
              from.3.1,
              ap (λ (l : List Next). Event (HttpRequest text true) ∷ l) from.3.2
                  ∙ sym (ap (λ (l : List (List ℕ)). map Event (map more_event l ++ chunked_events b from.0 from.1) ++ from.3.0) blocks_are),
            ),
          ),
        )
    by false far =
        let b = limits.block in
        let near = no_lt b left far in
        let m : min left b ≡ left = omega (arith, near) in
        let text_is : text ≡ take left bytes = t ∙ ap (λ k. take k bytes) m in
        let there : left ≤ length bytes = omega (arith, inside, m) in
        let size : length text ≡ left = ap length text_is ∙ length-take-le left bytes there in
        let blocks_are : rest_blocks b left bytes ≡ text ∷ [] = chunk_last b left bytes h some near there ∙ ap (λ (l : List ℕ). l ∷ []) (sym text_is) in
        good E limits (Chunk left sum) bytes rest turn (gives (Event (HttpRequest text true)) (ChunkEnd sum)) (e ∙ chunk_turn_last left sum text size) (
          fits,
          λ results r from. (
            from.0,
            from.1,
            rest_of_more limits left 0 sum bytes text rest from.0 from.1 split (omega (arith, size)) from.2,
            (
              from.3.0,
              from.3.1,
              ap (λ (l : List Next). Event (HttpRequest text true) ∷ l) from.3.2
                  ∙ sym (ap (λ (l : List (List ℕ)). map Event (map more_event l ++ chunked_events b from.0 from.1) ++ from.3.0) blocks_are),
            ),
          ),
        )

-- ---- the two bytes after a chunk

eq_yes : (a b : List ℕ) → bytes_eq a b ≡ true → a ≡ b
eq_yes a b h = (bytes_eq-Decides a b).0 h

eq_no : (a b : List ℕ) → bytes_eq a b ≡ false → a ≡ b → ⊥
eq_no a b h e = not_from_Decides (bytes_eq a b) (bytes_eq-Decides a b) h e

pair_good : (E : List ℕ → List Next → List ℕ → Type 0) (limits : Limits) (sum : ℕ) (bytes text rest : List ℕ) (turn : Judged) → sum ≤ limits.max_body
    → text ≡ take 2 bytes → 2 ≤ length bytes → bytes ≡ text ++ rest → (x : Bool) → bytes_eq text crlf_bytes ≡ x
    → turn ≡ (if x then silent (SizeLine sum) else bad BadRequest) → Good E limits (ChunkEnd sum) bytes rest turn
pair_good E limits sum bytes text rest turn h t inside split true x e =
    good E limits (ChunkEnd sum) bytes rest turn (silent (SizeLine sum)) e (
      h,
      λ results r from. (
        from.0,
        from.1,
        inr (inr ([], rest, split ∙ ap (λ (l : List ℕ). l ++ rest) (eq_yes text crlf_bytes x), refl, from.2)),
        from.3,
      ),
    )
pair_good E limits sum bytes text rest turn h t inside split false x e =
    good E limits (ChunkEnd sum) bytes rest turn (bad BadRequest) e (
      tt,
      λ results r from. (
        [],
        faulty BadRequest,
        inr (inl (omega (arith, inside), (λ c. eq_no text crlf_bytes x (t ∙ c)), refl, refl)),
        (Bad (status_of BadRequest) ∷ results, (ap (λ (l : List Next). Bad (status_of BadRequest) ∷ l) from.0, from.1), refl),
      ),
    )

-- ---- trailers

bad_trailers_good : (E : List ℕ → List Next → List ℕ → Type 0) (limits : Limits) (bytes rest : List ℕ) → IsBadSection limits bytes
    → Good E limits Trailers bytes rest (bad BadRequest)
bad_trailers_good E limits bytes rest x = (
  tt,
  λ results r from. (
    faulty BadRequest,
    (x, refl),
    (Bad (status_of BadRequest) ∷ results, (ap (λ (l : List Next). Bad (status_of BadRequest) ∷ l) from.0, from.1), refl),
  ),
)

section_good : (E : List ℕ → List Next → List ℕ → Type 0) (limits : Limits) (bytes text rest : List ℕ) (turn : Judged)
    → IsFirstWithin EndsAsSection limits.max_head bytes text rest → bytes ≡ text ++ rest → (ok : Bool) → ParsesTrailers limits.max_headers text ok
    → turn ≡ after_trailers ok → Good E limits Trailers bytes rest turn
section_good E limits bytes text rest turn x split false parses e =
    good E limits Trailers bytes rest turn (bad BadRequest) e (bad_trailers_good E limits bytes rest (inr (text, rest, x, parses)))
section_good E limits bytes text rest turn x split true parses e =
    let is : text ≡ print_section parses.0 parses.1 = parses.2.reads.1 ∙ append-nil (print_section parses.0 parses.1) in
    good E limits Trailers bytes rest turn (gives (Event (HttpRequest [] false)) BodyEnd) e (
      tt,
      λ results r from. (
        complete rest,
        (
          parses.0,
          parses.1,
          split ∙ ap (λ (l : List ℕ). l ++ rest) is,
          subst (λ (l : List ℕ). IsTrailerSection limits.max_headers l parses.0 parses.1) is parses.2,
          subst (λ (l : List ℕ). length l ≤ limits.max_head) is x.1,
        ),
        (results, from, refl),
      ),
    )

-- ---- one turn

text_good : (E : List ℕ → List Next → List ℕ → Type 0) (limits : Limits) → 0 < limits.block → (place : Place) (bytes text rest : List ℕ) (turn : Judged)
    → (place ≡ Start → ⊥) → Fits limits place → front limits place bytes ≡ found text → bytes ≡ text ++ rest → JudgesText limits place text turn
    → Good E limits place bytes rest turn
text_good E limits h Start bytes text rest turn other fits f split j = absurd (other refl)
text_good E limits h (Counted n) bytes text rest turn other fits f split j =
    let t = first_tells (min n limits.block) bytes (found text) f in
    counted_good E limits h n bytes text rest turn t.0 t.1 split j
text_good E limits h (SizeLine sum) bytes text rest turn other fits f split j =
    let t = tells EndsAsLine line_len line_search_for size_line_limit bytes (found text) f in
    line_good E limits sum bytes text rest turn fits (t rest split) split j.0 j.1 j.2
text_good E limits h (Chunk left sum) bytes text rest turn other fits f split j =
    let t = first_tells (min left limits.block) bytes (found text) f in
    chunk_good E limits h left sum bytes text rest turn fits.0 fits.1 t.0 t.1 split j
text_good E limits h (ChunkEnd sum) bytes text rest turn other fits f split j =
    let t = first_tells 2 bytes (found text) f in
    pair_good E limits sum bytes text rest turn fits t.0 t.1 split (bytes_eq text crlf_bytes) refl j
text_good E limits h Trailers bytes text rest turn other fits f split j =
    let t = tells EndsAsSection trailer_len section_search_for limits.max_head bytes (found text) f in
    section_good E limits bytes text rest turn (t rest split) split j.0 j.1 j.2
text_good E limits h BodyEnd bytes text rest turn other fits f split j =
    let none : text ≡ [] = cc in
    let same : bytes ≡ rest = split ∙ ap (λ (l : List ℕ). l ++ rest) none in
    good E limits BodyEnd bytes rest turn (gives Whole Start) j (
      tt,
      λ results r from. subst (λ (l : List ℕ). Follows E (complete l) (Whole ∷ results) r) (sym same) (results, from.0, from.1, refl, from.2),
    )
text_good E limits h HandshakeEnd bytes text rest turn other fits f split j =
    good E limits HandshakeEnd bytes rest turn (gives Whole Upgraded) j (tt, λ results r from. (ap (λ (l : List Next). Whole ∷ l) from.0, from.1))
text_good E limits h Upgraded bytes text rest turn other fits f split j = absurd j
text_good E limits h (Stopped why) bytes text rest turn other fits f split j = absurd j

long_good : (E : List ℕ → List Next → List ℕ → Type 0) (limits : Limits) (place : Place) (bytes rest : List ℕ) (turn : Judged)
    → (place ≡ Start → ⊥) → Fits limits place → front limits place bytes ≡ too_long → turn ≡ after_too_long place → Good E limits place bytes rest turn
long_good E limits Start bytes rest turn other fits f j = absurd (other refl)
long_good E limits (Counted n) bytes rest turn other fits f j = absurd (first_tells (min n limits.block) bytes too_long f)
long_good E limits (SizeLine sum) bytes rest turn other fits f j =
    good E limits (SizeLine sum) bytes rest turn (bad BadRequest) j
    (refused E limits sum bytes rest body.bad_line BadRequest fits (inl (tells EndsAsLine line_len line_search_for size_line_limit bytes too_long f)) refl refl)
long_good E limits (Chunk left sum) bytes rest turn other fits f j = absurd (first_tells (min left limits.block) bytes too_long f)
long_good E limits (ChunkEnd sum) bytes rest turn other fits f j = absurd (first_tells 2 bytes too_long f)
long_good E limits Trailers bytes rest turn other fits f j =
    good E limits Trailers bytes rest turn (bad BadRequest) j
    (bad_trailers_good E limits bytes rest (inl (tells EndsAsSection trailer_len section_search_for limits.max_head bytes too_long f)))
long_good E limits BodyEnd bytes rest turn other fits f j = absurd cc
long_good E limits HandshakeEnd bytes rest turn other fits f j = absurd cc
long_good E limits Upgraded bytes rest turn other fits f j = absurd cc
long_good E limits (Stopped why) bytes rest turn other fits f j = absurd cc

-- a turn at any place but before a head
pub turn_good : (E : List ℕ → List Next → List ℕ → Type 0) (limits : Limits) → 0 < limits.block → (place : Place) (bytes rest : List ℕ) (turn : Judged)
    → (place ≡ Start → ⊥) → Fits limits place → Takes limits place bytes turn rest → Good E limits place bytes rest turn
turn_good E limits h place bytes rest turn other fits takes = by (front limits place bytes) refl takes.splits takes.judged
  where
    by : (f : Front) → front limits place bytes ≡ f → bytes ≡ front_text f ++ rest → Judges limits place f turn → Good E limits place bytes rest turn
    by (found text) e split j = text_good E limits h place bytes text rest turn other fits e split j
    by too_long e split j = long_good E limits place bytes rest turn other fits e j
    by unfinished e split j = absurd j

-- if nothing is judged any more, nothing more is given
pub open_from : (E : List ℕ → List Next → List ℕ → Type 0) (limits : Limits) → 0 < limits.block → (place : Place) (bytes : List ℕ)
    → (place ≡ Start → ⊥) → Fits limits place → front limits place bytes ≡ unfinished → From E limits place bytes [] None
open_from E limits h Start bytes other fits f = absurd (other refl)
open_from E limits h (Counted n) bytes other fits f =
    let t = first_tells (min n limits.block) bytes unfinished f in
    let state : partial ≡ length_state n bytes = sym (ap (λ (b : Bool). if b then complete (drop n bytes) else partial) (le_no n (length bytes) (omega (arith, t)))) in (
      [],
      subst (λ (s : BodyState). Follows E s [] None) state (refl, refl),
      sym (ap (λ (l : List Incoming). map Event l ++ []) (length_none limits.block n bytes (omega (arith, t)) (omega (arith, t)))),
    )
open_from E limits h (SizeLine sum) bytes other fits f =
    let t = tells EndsAsLine line_len line_search_for size_line_limit bytes unfinished f in
    ([], partial, ended limits sum bytes body.open_line fits t, ([], (refl, refl), refl))
open_from E limits h (Chunk left sum) bytes other fits f =
    let t = first_tells (min left limits.block) bytes unfinished f in (
      [],
      partial,
      inl (omega (arith, t), refl, refl),
      ([], (refl, refl), sym (ap (λ (l : List (List ℕ)). map Event (map more_event l ++ []) ++ []) (chunk_none limits.block left bytes (omega (arith, t)) (omega (arith, t))))),
    )
open_from E limits h (ChunkEnd sum) bytes other fits f =
    let t = first_tells 2 bytes unfinished f in
    ([], partial, inl (omega (arith, t), refl, refl), ([], (refl, refl), refl))
open_from E limits h Trailers bytes other fits f =
    (partial, tells EndsAsSection trailer_len section_search_for limits.max_head bytes unfinished f, ([], (refl, refl), refl))
open_from E limits h BodyEnd bytes other fits f = absurd cc
open_from E limits h HandshakeEnd bytes other fits f = absurd cc
open_from E limits h Upgraded bytes other fits f = (refl, refl)
open_from E limits h (Stopped why) bytes other fits f = (refl, refl)
