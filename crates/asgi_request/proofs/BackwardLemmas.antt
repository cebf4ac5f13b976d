-- What the bytes give is what the places give.
use Rattle.std.proofs.Common.{◌≡◌, ℕ, zero, suc, ◌+◌, ◌-◌, ◌<◌, ◌≤◌, inl, inr, Bool, true, false, List, [], ◌∷◌, ◌++◌, length, take, drop, map, refl, sym, ap, ◌∙◌, append_assoc, arith, subst, Option, Some, None, flat_map}
use Rattle.std.specs.Prelude.{nat_le, nat_lt, min, ◌==◌, if◌then◌else◌, bytes_eq}
use Rattle.std.proofs.lemmas.Bool.Decides.{nat_tests}
use Rattle.std.proofs.lemmas.Slice.Eq.{bytes_eq-Decides}
use Rattle.std.proofs.lemmas.List.{append-nil, length-append, length-take-le, length-drop, take-append-drop, map-append, drop-drop}
use Rattle.std.proofs.Math.Seq.{take-append_seam}
use Rattle.httparse.specs.Ascii.{crlf_bytes}
use Rattle.httparse.specs.Grammar.{ChunkLine, chunk_size, print_chunk_line, print_section}
use Rattle.asgi_types.specs.declared.incoming.Incoming.{Incoming}
use Rattle.asgi_types.specs.declared.incoming.Incoming.TheVariants.{HttpRequest}
use Rattle.asgi_types.specs.declared.limits.Limits.{Limits}
use Rattle.asgi_request.specs.declared.next.Next.{Next}
use Rattle.asgi_request.specs.declared.next.Next.TheVariants.{Event, Bad}
use Rattle.asgi_request.specs.declared.place.Place.{Place}
use Rattle.asgi_request.specs.declared.place.Place.TheVariants.{Counted, SizeLine, Chunk, ChunkEnd, Trailers, BodyEnd, Stopped}
use Rattle.asgi_request.specs.Places.{Judged}
use Rattle.asgi_request.specs.declared.refusal.Refusal.{Refusal}
use Rattle.asgi_request.specs.declared.refusal.Refusal.TheVariants.{BadRequest, ContentTooLarge}
use Rattle.asgi_request.specs.Refusals.{status_of}
use Rattle.asgi_request.specs.Fronts.{Front, found, too_long, unfinished, first, front_text, line_len, trailer_len}
use Rattle.asgi_request.specs.ChunkedBody as body
use Rattle.asgi_request.specs.ChunkedBody.{BodyState, partial, complete, faulty, Piece, print_chunk, size_line_limit, IsSizeLine, IsChunk, total, chunk_piece, EndsAsLine, EndsAsSection, tail_pieces, tail_state, ReadsChunks}
use Rattle.asgi_request.specs.RequestEvents.{more_event, last_event, length_events, closing_event, piece_blocks}
use Rattle.asgi_request.specs.Places.{front, bad, silent, gives, after_size, after_trailers, after_too_long, JudgesText, Judges, Takes, Reads, shown}
use Rattle.asgi_request.proofs.TextLemmas.{found_front, long_front, open_front}
use Rattle.asgi_request.proofs.LineLemmas.{line_search_for, section_search_for}
use Rattle.asgi_request.proofs.BlockLemmas.{length_more, length_last, length_none, rest_blocks, chunk_more, chunk_last, chunk_none}
use Rattle.asgi_request.proofs.SizeLemmas.{size_front}
use Rattle.asgi_request.proofs.SectionLemmas.{trailer_front}
use Rattle.asgi_request.proofs.UniqueLemmas.{shown-append}
use Rattle.asgi_request.proofs.ForwardLemmas.{lt_yes, lt_no, yes_lt, no_lt, yes_le, no_le, le_yes, le_no, counted_turn_more, counted_turn_last, chunk_turn_more, chunk_turn_last}

-- ---- turns

pub takes_found : (limits : Limits) (place : Place) (bytes text rest : List ℕ) (turn : Judged) → front limits place bytes ≡ found text
    → bytes ≡ text ++ rest → JudgesText limits place text turn → Takes limits place bytes turn rest
takes_found limits place bytes text rest turn e s judged = record {
  splits = s ∙ ap (λ (f : Front). front_text f ++ rest) (sym e);
  judged = subst (λ (f : Front). Judges limits place f turn) (sym e) judged;
}

pub takes_long : (limits : Limits) (place : Place) (bytes : List ℕ) → front limits place bytes ≡ too_long → Takes limits place bytes (after_too_long place) bytes
takes_long limits place bytes e = record {
  splits = ap (λ (f : Front). front_text f ++ bytes) (sym e);
  judged = subst (λ (f : Front). Judges limits place f (after_too_long place)) (sym e) refl;
}

first_found : (n : ℕ) (bytes : List ℕ) → n ≤ length bytes → first n bytes ≡ found (take n bytes)
first_found n bytes h = ap (λ (b : Bool). if b then found (take n bytes) else unfinished) (le_yes n (length bytes) h)

first_open : (n : ℕ) (bytes : List ℕ) → length bytes < n → first n bytes ≡ unfinished
first_open n bytes h = ap (λ (b : Bool). if b then found (take n bytes) else unfinished) (le_no n (length bytes) h)

-- from one place to another the bytes give these results
pub record Goes (limits : Limits) (place : Place) (bytes : List ℕ) (results : List Next) (end : Place) (rest : List ℕ) : Type 0 where
  pub steps : List (Option Next)
  pub reads : Reads limits place bytes steps end rest
  pub shows : shown steps ≡ results

-- the bytes give these results, and no more
pub record Ends (limits : Limits) (place : Place) (bytes : List ℕ) (results : List Next) : Type 0 where
  pub end : Place
  pub rest : List ℕ
  pub goes : Goes limits place bytes results end rest
  pub waits : front limits end rest ≡ unfinished

Reads-then : (limits : Limits) (place : Place) (bytes : List ℕ) (a : List (Option Next)) (mid : Place) (middle : List ℕ) (b : List (Option Next)) (end : Place) (rest : List ℕ)
    → Reads limits place bytes a mid middle → Reads limits mid middle b end rest → Reads limits place bytes (a ++ b) end rest
Reads-then limits place bytes [] mid middle b end rest r q =
    let P : Place → Type 0 = λ p. Reads limits p middle b end rest in
    let R : List ℕ → Type 0 = λ l. Reads limits place l b end rest in
    subst R (sym r.1) (subst P (sym r.0) q)
Reads-then limits place bytes (x ∷ a) mid middle b end rest r q = (r.0, r.1, r.2, Reads-then limits r.0 r.1 a mid middle b end rest r.3 q)

pub here : (limits : Limits) (place : Place) (bytes : List ℕ) → Goes limits place bytes [] place bytes
here limits place bytes = record { steps = []; reads = (refl, refl); shows = refl }

pub goes_on : (limits : Limits) (place : Place) (bytes : List ℕ) (a : List Next) (mid : Place) (middle : List ℕ) (b : List Next) (end : Place) (rest : List ℕ)
    → Goes limits place bytes a mid middle → Goes limits mid middle b end rest → Goes limits place bytes (a ++ b) end rest
goes_on limits place bytes a mid middle b end rest x y = record {
  steps = x.steps ++ y.steps;
  reads = Reads-then limits place bytes x.steps mid middle y.steps end rest x.reads y.reads;
  shows = shown-append x.steps y.steps ∙ ap (λ (l : List Next). l ++ shown y.steps) x.shows ∙ ap (λ (l : List Next). a ++ l) y.shows;
}

pub then_ends : (limits : Limits) (place : Place) (bytes : List ℕ) (a : List Next) (mid : Place) (middle : List ℕ) (b : List Next)
    → Goes limits place bytes a mid middle → Ends limits mid middle b → Ends limits place bytes (a ++ b)
then_ends limits place bytes a mid middle b x y =
    record { end = y.end; rest = y.rest; goes = goes_on limits place bytes a mid middle b y.end y.rest x y.goes; waits = y.waits }

pub one : (limits : Limits) (place : Place) (bytes : List ℕ) (item : Option Next) (mid : Place) (rest : List ℕ)
    → Takes limits place bytes (record { item = item; place = mid }) rest → Goes limits place bytes (shown (item ∷ [])) mid rest
one limits place bytes item mid rest t = record { steps = item ∷ []; reads = (mid, rest, t, (refl, refl)); shows = refl }

pub waiting : (limits : Limits) (place : Place) (bytes : List ℕ) → front limits place bytes ≡ unfinished → Ends limits place bytes []
waiting limits place bytes e = record { end = place; rest = bytes; goes = here limits place bytes; waits = e }

pub refusal : (limits : Limits) (place : Place) (bytes rest : List ℕ) (why : Refusal) → Takes limits place bytes (bad why) rest
    → Ends limits place bytes (Bad (status_of why) ∷ [])
refusal limits place bytes rest why t =
    record { end = Stopped why; rest = rest; goes = one limits place bytes (Some (Bad (status_of why))) (Stopped why) rest t; waits = refl }

pub goes_as : (limits : Limits) (place : Place) (bytes : List ℕ) (a b : List Next) (end : Place) (rest : List ℕ) → a ≡ b
    → Goes limits place bytes a end rest → Goes limits place bytes b end rest
goes_as limits place bytes a b end rest e x = subst (λ (l : List Next). Goes limits place bytes l end rest) e x

pub ends_as : (limits : Limits) (place : Place) (bytes : List ℕ) (a b : List Next) → a ≡ b → Ends limits place bytes a → Ends limits place bytes b
ends_as limits place bytes a b e x = subst (λ (l : List Next). Ends limits place bytes l) e x

-- ---- a body of n bytes

counted_step : (limits : Limits) (n : ℕ) (bytes : List ℕ) → limits.block < n → limits.block ≤ length bytes
    → Goes limits (Counted n) bytes (Event (more_event (take limits.block bytes)) ∷ []) (Counted (n - limits.block)) (drop limits.block bytes)
counted_step limits n bytes far there =
    let b = limits.block in
    let m : min n b ≡ b = omega (arith, far) in
    let text = take b bytes in
    one limits (Counted n) bytes (Some (Event (more_event text))) (Counted (n - b)) (drop b bytes)
    (takes_found limits (Counted n) bytes text (drop b bytes) (gives (Event (HttpRequest text true)) (Counted (n - b)))
    (ap (λ k. first k bytes) m ∙ first_found b bytes there) (sym (take-append-drop b bytes))
    (sym (counted_turn_more n text b (length-take-le b bytes there) far)))

counted_end : (limits : Limits) (n : ℕ) (bytes : List ℕ) → n ≤ limits.block → n ≤ length bytes
    → Goes limits (Counted n) bytes (Event (last_event (take n bytes)) ∷ []) BodyEnd (drop n bytes)
counted_end limits n bytes near there =
    let m : min n limits.block ≡ n = omega (arith, near) in
    let text = take n bytes in
    one limits (Counted n) bytes (Some (Event (last_event text))) BodyEnd (drop n bytes)
    (takes_found limits (Counted n) bytes text (drop n bytes) (gives (Event (HttpRequest text false)) BodyEnd)
    (ap (λ k. first k bytes) m ∙ first_found n bytes there) (sym (take-append-drop n bytes))
    (sym (counted_turn_last n text (length-take-le n bytes there))))

-- fuel bounds the blocks
pub counted_whole : (limits : Limits) → 0 < limits.block → (fuel n : ℕ) (bytes : List ℕ) → n ≤ fuel → n ≤ length bytes
    → Goes limits (Counted n) bytes (map Event (length_events limits.block n bytes)) BodyEnd (drop n bytes)
counted_whole limits h zero n bytes f there =
    let near : n ≤ limits.block = omega (arith, f) in
    goes_as limits (Counted n) bytes (Event (last_event (take n bytes)) ∷ []) (map Event (length_events limits.block n bytes)) BodyEnd (drop n bytes)
    (sym (ap (map Event) (length_last limits.block n bytes h near there)))
    (counted_end limits n bytes near there)
counted_whole limits h (suc fuel) n bytes f there = by (nat_lt limits.block n) refl (λ less. counted_whole limits h fuel (n - limits.block) (drop limits.block bytes) (omega (arith, f, h, less)) (omega (arith, there, length-drop limits.block bytes)))
  where
    by : (x : Bool) → nat_lt limits.block n ≡ x
        → (limits.block < n → Goes limits (Counted (n - limits.block)) (drop limits.block bytes) (map Event (length_events limits.block (n - limits.block) (drop limits.block bytes))) BodyEnd (drop (n - limits.block) (drop limits.block bytes)))
        → Goes limits (Counted n) bytes (map Event (length_events limits.block n bytes)) BodyEnd (drop n bytes)
    by true x go =
        let b = limits.block in
        let far = yes_lt b n x in
        let inside : b ≤ length bytes = omega (arith, far, there) in
        let last : drop (n - b) (drop b bytes) ≡ drop n bytes = drop-drop (n - b) b bytes ∙ ap (λ k. drop k bytes) (let z : b + (n - b) ≡ n = omega (arith, far) in z) in
        goes_as limits (Counted n) bytes (Event (more_event (take b bytes)) ∷ map Event (length_events b (n - b) (drop b bytes))) (map Event (length_events b n bytes)) BodyEnd (drop n bytes)
        (sym (ap (map Event) (length_more b n bytes h far inside)))
        (goes_on limits (Counted n) bytes (Event (more_event (take b bytes)) ∷ []) (Counted (n - b)) (drop b bytes) (map Event (length_events b (n - b) (drop b bytes))) BodyEnd (drop n bytes)
        (counted_step limits n bytes far inside)
        (subst (λ (l : List ℕ). Goes limits (Counted (n - b)) (drop b bytes) (map Event (length_events b (n - b) (drop b bytes))) BodyEnd l) last (go far)))
    by false x go =
        let near = no_lt limits.block n x in
        goes_as limits (Counted n) bytes (Event (last_event (take n bytes)) ∷ []) (map Event (length_events limits.block n bytes)) BodyEnd (drop n bytes)
        (sym (ap (map Event) (length_last limits.block n bytes h near there)))
        (counted_end limits n bytes near there)

counted_none : (limits : Limits) (n : ℕ) (bytes : List ℕ) → length bytes < n → length bytes < limits.block
    → Ends limits (Counted n) bytes (map Event (length_events limits.block n bytes))
counted_none limits n bytes far below =
    ends_as limits (Counted n) bytes [] (map Event (length_events limits.block n bytes)) (sym (ap (map Event) (length_none limits.block n bytes far below)))
    (waiting limits (Counted n) bytes (first_open (min n limits.block) bytes (omega (arith, far, below))))

pub counted_open : (limits : Limits) → 0 < limits.block → (fuel n : ℕ) (bytes : List ℕ) → length bytes ≤ fuel → length bytes < n
    → Ends limits (Counted n) bytes (map Event (length_events limits.block n bytes))
counted_open limits h zero n bytes f far = counted_none limits n bytes far (omega (arith, f, h))
counted_open limits h (suc fuel) n bytes f far = by (nat_le limits.block (length bytes)) refl
    (λ there. counted_open limits h fuel (n - limits.block) (drop limits.block bytes) (omega (arith, f, h, there, length-drop limits.block bytes)) (omega (arith, there, far, length-drop limits.block bytes)))
  where
    by : (x : Bool) → nat_le limits.block (length bytes) ≡ x
        → (limits.block ≤ length bytes → Ends limits (Counted (n - limits.block)) (drop limits.block bytes) (map Event (length_events limits.block (n - limits.block) (drop limits.block bytes))))
        → Ends limits (Counted n) bytes (map Event (length_events limits.block n bytes))
    by true x go =
        let b = limits.block in
        let there = yes_le b (length bytes) x in
        let more : b < n = omega (arith, there, far) in
        ends_as limits (Counted n) bytes (Event (more_event (take b bytes)) ∷ map Event (length_events b (n - b) (drop b bytes))) (map Event (length_events b n bytes))
        (sym (ap (map Event) (length_more b n bytes h more there)))
        (then_ends limits (Counted n) bytes (Event (more_event (take b bytes)) ∷ []) (Counted (n - b)) (drop b bytes) (map Event (length_events b (n - b) (drop b bytes)))
        (counted_step limits n bytes more there) (go there))
    by false x go = counted_none limits n bytes far (no_le limits.block (length bytes) x)

-- ---- the data of a chunk

events_of : List (List ℕ) → List Next
events_of blocks = map Event (map more_event blocks)

chunk_step : (limits : Limits) (left sum : ℕ) (bytes : List ℕ) → limits.block < left → limits.block ≤ length bytes
    → Goes limits (Chunk left sum) bytes (Event (more_event (take limits.block bytes)) ∷ []) (Chunk (left - limits.block) sum) (drop limits.block bytes)
chunk_step limits left sum bytes far there =
    let b = limits.block in
    let m : min left b ≡ b = omega (arith, far) in
    let text = take b bytes in
    one limits (Chunk left sum) bytes (Some (Event (more_event text))) (Chunk (left - b) sum) (drop b bytes)
    (takes_found limits (Chunk left sum) bytes text (drop b bytes) (gives (Event (HttpRequest text true)) (Chunk (left - b) sum))
    (ap (λ k. first k bytes) m ∙ first_found b bytes there) (sym (take-append-drop b bytes))
    (sym (chunk_turn_more left sum text b (length-take-le b bytes there) far)))

chunk_end : (limits : Limits) (left sum : ℕ) (bytes : List ℕ) → left ≤ limits.block → left ≤ length bytes
    → Goes limits (Chunk left sum) bytes (Event (more_event (take left bytes)) ∷ []) (ChunkEnd sum) (drop left bytes)
chunk_end limits left sum bytes near there =
    let m : min left limits.block ≡ left = omega (arith, near) in
    let text = take left bytes in
    one limits (Chunk left sum) bytes (Some (Event (more_event text))) (ChunkEnd sum) (drop left bytes)
    (takes_found limits (Chunk left sum) bytes text (drop left bytes) (gives (Event (HttpRequest text true)) (ChunkEnd sum))
    (ap (λ k. first k bytes) m ∙ first_found left bytes there) (sym (take-append-drop left bytes))
    (sym (chunk_turn_last left sum text (length-take-le left bytes there))))

chunk_whole : (limits : Limits) → 0 < limits.block → (fuel left sum : ℕ) (bytes : List ℕ) → left ≤ fuel → 0 < left → left ≤ length bytes
    → Goes limits (Chunk left sum) bytes (events_of (rest_blocks limits.block left bytes)) (ChunkEnd sum) (drop left bytes)
unfolding events_of
chunk_whole limits h zero left sum bytes f some there = absurd (omega (arith, f, some))
chunk_whole limits h (suc fuel) left sum bytes f some there = by (nat_lt limits.block left) refl
    (λ less. chunk_whole limits h fuel (left - limits.block) sum (drop limits.block bytes) (omega (arith, f, h, less)) (omega (arith, less)) (omega (arith, there, length-drop limits.block bytes)))
  where
    by : (x : Bool) → nat_lt limits.block left ≡ x
        → (limits.block < left → Goes limits (Chunk (left - limits.block) sum) (drop limits.block bytes) (events_of (rest_blocks limits.block (left - limits.block) (drop limits.block bytes))) (ChunkEnd sum) (drop (left - limits.block) (drop limits.block bytes)))
        → Goes limits (Chunk left sum) bytes (events_of (rest_blocks limits.block left bytes)) (ChunkEnd sum) (drop left bytes)
    by true x go =
        let b = limits.block in
        let far = yes_lt b left x in
        let inside : b ≤ length bytes = omega (arith, far, there) in
        let last : drop (left - b) (drop b bytes) ≡ drop left bytes = drop-drop (left - b) b bytes ∙ ap (λ k. drop k bytes) (let z : b + (left - b) ≡ left = omega (arith, far) in z) in
        goes_as limits (Chunk left sum) bytes (Event (more_event (take b bytes)) ∷ events_of (rest_blocks b (left - b) (drop b bytes))) (events_of (rest_blocks b left bytes)) (ChunkEnd sum) (drop left bytes)
        (sym (ap events_of (chunk_more b left bytes h far inside)))
        (goes_on limits (Chunk left sum) bytes (Event (more_event (take b bytes)) ∷ []) (Chunk (left - b) sum) (drop b bytes) (events_of (rest_blocks b (left - b) (drop b bytes))) (ChunkEnd sum) (drop left bytes)
        (chunk_step limits left sum bytes far inside)
        (subst (λ (l : List ℕ). Goes limits (Chunk (left - b) sum) (drop b bytes) (events_of (rest_blocks b (left - b) (drop b bytes))) (ChunkEnd sum) l) last (go far)))
    by false x go =
        let near = no_lt limits.block left x in
        goes_as limits (Chunk left sum) bytes (Event (more_event (take left bytes)) ∷ []) (events_of (rest_blocks limits.block left bytes)) (ChunkEnd sum) (drop left bytes)
        (sym (ap events_of (chunk_last limits.block left bytes h some near there)))
        (chunk_end limits left sum bytes near there)

chunk_empty : (limits : Limits) (left sum : ℕ) (bytes : List ℕ) → length bytes < left → length bytes < limits.block
    → Ends limits (Chunk left sum) bytes (events_of (rest_blocks limits.block left bytes))
unfolding events_of
chunk_empty limits left sum bytes far below =
    ends_as limits (Chunk left sum) bytes [] (events_of (rest_blocks limits.block left bytes)) (sym (ap events_of (chunk_none limits.block left bytes far below)))
    (waiting limits (Chunk left sum) bytes (first_open (min left limits.block) bytes (omega (arith, far, below))))

chunk_open : (limits : Limits) → 0 < limits.block → (fuel left sum : ℕ) (bytes : List ℕ) → length bytes ≤ fuel → length bytes < left
    → Ends limits (Chunk left sum) bytes (events_of (rest_blocks limits.block left bytes))
unfolding events_of
chunk_open limits h zero left sum bytes f far = chunk_empty limits left sum bytes far (omega (arith, f, h))
chunk_open limits h (suc fuel) left sum bytes f far = by (nat_le limits.block (length bytes)) refl
    (λ there. chunk_open limits h fuel (left - limits.block) sum (drop limits.block bytes) (omega (arith, f, h, there, length-drop limits.block bytes)) (omega (arith, there, far, length-drop limits.block bytes)))
  where
    by : (x : Bool) → nat_le limits.block (length bytes) ≡ x
        → (limits.block ≤ length bytes → Ends limits (Chunk (left - limits.block) sum) (drop limits.block bytes) (events_of (rest_blocks limits.block (left - limits.block) (drop limits.block bytes))))
        → Ends limits (Chunk left sum) bytes (events_of (rest_blocks limits.block left bytes))
    by true x go =
        let b = limits.block in
        let there = yes_le b (length bytes) x in
        let more : b < left = omega (arith, there, far) in
        ends_as limits (Chunk left sum) bytes (Event (more_event (take b bytes)) ∷ events_of (rest_blocks b (left - b) (drop b bytes))) (events_of (rest_blocks b left bytes))
        (sym (ap events_of (chunk_more b left bytes h more there)))
        (then_ends limits (Chunk left sum) bytes (Event (more_event (take b bytes)) ∷ []) (Chunk (left - b) sum) (drop b bytes) (events_of (rest_blocks b (left - b) (drop b bytes)))
        (chunk_step limits left sum bytes more there) (go there))
    by false x go = chunk_empty limits left sum bytes far (no_le limits.block (length bytes) x)

-- ---- a size line

after_size_by : ℕ → ℕ → Bool → Bool → Judged
after_size_by sum n a b = if a then bad ContentTooLarge else (if b then silent Trailers else silent (Chunk n (sum + n)))

not_zero : (n : ℕ) → 0 < n → (n == 0) ≡ false
not_zero n h = grind (arith, nat_tests)

is_zero : (n : ℕ) → n ≡ 0 → (n == 0) ≡ true
is_zero n h = grind (arith, nat_tests)

line_takes : (limits : Limits) (sum : ℕ) (bytes after : List ℕ) (line : ChunkLine) (turn : Judged) → IsSizeLine line
    → bytes ≡ print_chunk_line line ++ after → turn ≡ after_size limits.max_body sum (Some (chunk_size line)) → Takes limits (SizeLine sum) bytes turn after
line_takes limits sum bytes after line turn is split e =
    let text = print_chunk_line line in
    let f : front limits (SizeLine sum) bytes ≡ found text = ap (front limits (SizeLine sum)) split ∙ size_front limits sum line after is.valid is.short in
    takes_found limits (SizeLine sum) bytes text after turn f split (Some (chunk_size line), (line, (is.valid, sym (append-nil text)), refl), e)

to_chunk : (limits : Limits) (sum : ℕ) (bytes after : List ℕ) (line : ChunkLine) → IsSizeLine line → bytes ≡ print_chunk_line line ++ after
    → 0 < chunk_size line → sum + chunk_size line ≤ limits.max_body
    → Goes limits (SizeLine sum) bytes [] (Chunk (chunk_size line) (sum + chunk_size line)) after
unfolding after_size_by
to_chunk limits sum bytes after line is split some fits =
    let n = chunk_size line in
    one limits (SizeLine sum) bytes None (Chunk n (sum + n)) after
    (line_takes limits sum bytes after line (silent (Chunk n (sum + n))) is split
    (sym (ap (λ (a : Bool). after_size_by sum n a (n == 0)) (lt_no limits.max_body (sum + n) fits) ∙ ap (after_size_by sum n false) (not_zero n some))))

to_trailers : (limits : Limits) (sum : ℕ) (bytes after : List ℕ) (line : ChunkLine) → IsSizeLine line → bytes ≡ print_chunk_line line ++ after
    → chunk_size line ≡ 0 → sum ≤ limits.max_body → Goes limits (SizeLine sum) bytes [] Trailers after
unfolding after_size_by
to_trailers limits sum bytes after line is split z fits =
    let n = chunk_size line in
    one limits (SizeLine sum) bytes None Trailers after
    (line_takes limits sum bytes after line (silent Trailers) is split
    (sym (ap (λ (a : Bool). after_size_by sum n a (n == 0)) (lt_no limits.max_body (sum + n) (omega (arith, fits, z))) ∙ ap (after_size_by sum n false) (is_zero n z))))

too_large : (limits : Limits) (sum : ℕ) (bytes after : List ℕ) (line : ChunkLine) → IsSizeLine line → bytes ≡ print_chunk_line line ++ after
    → limits.max_body < sum + chunk_size line → Ends limits (SizeLine sum) bytes (Bad (status_of ContentTooLarge) ∷ [])
unfolding after_size_by
too_large limits sum bytes after line is split far =
    let n = chunk_size line in
    refusal limits (SizeLine sum) bytes after ContentTooLarge
    (line_takes limits sum bytes after line (bad ContentTooLarge) is split (sym (ap (λ (a : Bool). after_size_by sum n a (n == 0)) (lt_yes limits.max_body (sum + n) far))))

-- ---- the two bytes after a chunk

eq_true : (a b : List ℕ) → a ≡ b → bytes_eq a b ≡ true
eq_true a b e = (bytes_eq-Decides a b).1 e

eq_false : (a b : List ℕ) → (a ≡ b → ⊥) → bytes_eq a b ≡ false
eq_false a b n = at (bytes_eq a b) refl
  where
    at : (x : Bool) → bytes_eq a b ≡ x → x ≡ false
    at true e = absurd (n ((bytes_eq-Decides a b).0 e))
    at false e = refl

pair_turn : ℕ → Bool → Judged
pair_turn sum x = if x then silent (SizeLine sum) else bad BadRequest

pair_goes : (limits : Limits) (sum : ℕ) (rest : List ℕ) → Goes limits (ChunkEnd sum) (crlf_bytes ++ rest) [] (SizeLine sum) rest
unfolding pair_turn
pair_goes limits sum rest =
    one limits (ChunkEnd sum) (crlf_bytes ++ rest) None (SizeLine sum) rest
    (takes_found limits (ChunkEnd sum) (crlf_bytes ++ rest) crlf_bytes rest (silent (SizeLine sum)) (first_found 2 (crlf_bytes ++ rest) (omega arith)) refl
    (sym (ap (pair_turn sum) (eq_true crlf_bytes crlf_bytes refl))))

pair_refused : (limits : Limits) (sum : ℕ) (bytes : List ℕ) → 2 ≤ length bytes → (take 2 bytes ≡ crlf_bytes → ⊥)
    → Ends limits (ChunkEnd sum) bytes (Bad (status_of BadRequest) ∷ [])
unfolding pair_turn
pair_refused limits sum bytes there other =
    refusal limits (ChunkEnd sum) bytes (drop 2 bytes) BadRequest
    (takes_found limits (ChunkEnd sum) bytes (take 2 bytes) (drop 2 bytes) (bad BadRequest) (first_found 2 bytes there) (sym (take-append-drop 2 bytes))
    (sym (ap (pair_turn sum) (eq_false (take 2 bytes) crlf_bytes other))))

-- ---- a chunk

-- the results of a body's bytes
abbrev pub BodyGoes : Limits → Place → List ℕ → List Incoming → BodyState → Type 0
BodyGoes limits place bytes events partial = Ends limits place bytes (map Event events)
BodyGoes limits place bytes events (complete rest) = Goes limits place bytes (map Event events) BodyEnd rest
BodyGoes limits place bytes events (faulty why) = Ends limits place bytes (map Event events ++ Bad (status_of why) ∷ [])

pub then_body : (limits : Limits) (place : Place) (bytes : List ℕ) (a : List Incoming) (mid : Place) (middle : List ℕ) (b : List Incoming) (state : BodyState)
    → Goes limits place bytes (map Event a) mid middle → BodyGoes limits mid middle b state → BodyGoes limits place bytes (a ++ b) state
then_body limits place bytes a mid middle b partial x y =
    ends_as limits place bytes (map Event a ++ map Event b) (map Event (a ++ b)) (sym (map-append Event a b)) (then_ends limits place bytes (map Event a) mid middle (map Event b) x y)
then_body limits place bytes a mid middle b (complete rest) x y =
    goes_as limits place bytes (map Event a ++ map Event b) (map Event (a ++ b)) BodyEnd rest (sym (map-append Event a b))
    (goes_on limits place bytes (map Event a) mid middle (map Event b) BodyEnd rest x y)
then_body limits place bytes a mid middle b (faulty why) x y =
    ends_as limits place bytes (map Event a ++ (map Event b ++ Bad (status_of why) ∷ [])) (map Event (a ++ b) ++ Bad (status_of why) ∷ [])
    (sym (append_assoc (map Event a) (map Event b) (Bad (status_of why) ∷ [])) ∙ ap (λ (l : List Next). l ++ Bad (status_of why) ∷ []) (sym (map-append Event a b)))
    (then_ends limits place bytes (map Event a) mid middle (map Event b ++ Bad (status_of why) ∷ []) x y)

unfoldable pub piece_events : Limits → Piece → List Incoming
piece_events limits p = map more_event (piece_blocks limits.block p)

-- one whole chunk
pub chunk_goes : (limits : Limits) → 0 < limits.block → (sum : ℕ) (c : body.Chunk) (rest : List ℕ) → IsChunk c → sum + chunk_size c.line ≤ limits.max_body
    → Goes limits (SizeLine sum) (print_chunk c ++ rest) (map Event (piece_events limits (chunk_piece c))) (SizeLine (sum + chunk_size c.line)) rest
unfolding events_of piece_events
chunk_goes limits h sum c rest x fits =
    let n = chunk_size c.line in
    let after = c.data_bytes ++ (crlf_bytes ++ rest) in
    let split : print_chunk c ++ rest ≡ print_chunk_line c.line ++ after =
    append_assoc (print_chunk_line c.line) (c.data_bytes ++ crlf_bytes) rest ∙ ap (λ (l : List ℕ). print_chunk_line c.line ++ l) (append_assoc c.data_bytes crlf_bytes rest) in
    let size = x.size in
    let data_is : take n after ≡ c.data_bytes = ap (λ k. take k after) (sym size) ∙ take-append_seam c.data_bytes (crlf_bytes ++ rest) in
    let left_is : drop n after ≡ crlf_bytes ++ rest = ap (λ k. drop k after) (sym size) ∙ drop_seam c.data_bytes (crlf_bytes ++ rest) in
    let first_part = to_chunk limits sum (print_chunk c ++ rest) after c.line x.line split x.some_data fits in
    let whole = chunk_whole limits h n n (sum + n) after (omega arith) x.some_data (omega (arith, size, length-append c.data_bytes (crlf_bytes ++ rest))) in
    let blocks_are : rest_blocks limits.block n after ≡ piece_blocks limits.block (chunk_piece c) =
    ap (λ (d : List ℕ). piece_blocks limits.block (let p : Piece = record { size = n; data_bytes = d } in p)) data_is in
    let moved = subst (λ (l : List ℕ). Goes limits (Chunk n (sum + n)) after (events_of (rest_blocks limits.block n after)) (ChunkEnd (sum + n)) l) left_is whole in
    let events = events_of (rest_blocks limits.block n after) in
    goes_as limits (SizeLine sum) (print_chunk c ++ rest) (events ++ []) (map Event (piece_events limits (chunk_piece c))) (SizeLine (sum + n)) rest
    (append-nil events ∙ ap events_of blocks_are)
    (goes_on limits (SizeLine sum) (print_chunk c ++ rest) [] (Chunk n (sum + n)) after (events ++ []) (SizeLine (sum + n)) rest first_part
    (goes_on limits (Chunk n (sum + n)) after events (ChunkEnd (sum + n)) (crlf_bytes ++ rest) [] (SizeLine (sum + n)) rest moved (pair_goes limits (sum + n) rest)))
  where
    drop_seam : (a b : List ℕ) → drop (length a) (a ++ b) ≡ b
    drop_seam [] b = refl
    drop_seam (x ∷ a) b = drop_seam a b

-- ---- what stands after the whole chunks

unfoldable pub tail_events : Limits → body.Tail → List Incoming
tail_events limits t = map more_event (flat_map (piece_blocks limits.block) (tail_pieces t)) ++ closing_event (tail_state t)

-- one piece
one_piece : (limits : Limits) (p : Piece) → map more_event (flat_map (piece_blocks limits.block) (p ∷ [])) ++ [] ≡ piece_events limits p
unfolding piece_events
one_piece limits p = append-nil (map more_event (piece_blocks limits.block p ++ [])) ∙ ap (map more_event) (append-nil (piece_blocks limits.block p))

open_chunk_goes : (limits : Limits) → 0 < limits.block → (sum : ℕ) (bytes after : List ℕ) (line : ChunkLine) → body.BeginsChunk limits sum bytes line after
    → length after < chunk_size line + 2 → Ends limits (SizeLine sum) bytes (events_of (rest_blocks limits.block (chunk_size line) after))
unfolding events_of
open_chunk_goes limits h sum bytes after line x below = by (nat_le (chunk_size line) (length after)) refl
  where
    by : (b : Bool) → nat_le (chunk_size line) (length after) ≡ b → Ends limits (SizeLine sum) bytes (events_of (rest_blocks limits.block (chunk_size line) after))
    by true e =
        let n = chunk_size line in
        let events = events_of (rest_blocks limits.block n after) in
        let there = yes_le n (length after) e in
        ends_as limits (SizeLine sum) bytes (events ++ []) events (append-nil events)
        (then_ends limits (SizeLine sum) bytes [] (Chunk n (sum + n)) after (events ++ []) (to_chunk limits sum bytes after line x.line_is x.splits x.some_data x.fits)
        (then_ends limits (Chunk n (sum + n)) after events (ChunkEnd (sum + n)) (drop n after) []
        (chunk_whole limits h n n (sum + n) after (omega arith) x.some_data there)
        (waiting limits (ChunkEnd (sum + n)) (drop n after) (first_open 2 (drop n after) (omega (arith, below, length-drop n after))))))
    by false e =
        let n = chunk_size line in
        let events = events_of (rest_blocks limits.block n after) in
        then_ends limits (SizeLine sum) bytes [] (Chunk n (sum + n)) after events (to_chunk limits sum bytes after line x.line_is x.splits x.some_data x.fits)
        (chunk_open limits h (length after) n (sum + n) after (omega arith) (no_le n (length after) e))

bad_chunk_goes : (limits : Limits) → 0 < limits.block → (sum : ℕ) (bytes after : List ℕ) (line : ChunkLine) → body.BeginsChunk limits sum bytes line after
    → chunk_size line + 2 ≤ length after → ((take 2 (drop (chunk_size line) after) ≡ crlf_bytes) → ⊥)
    → Ends limits (SizeLine sum) bytes (events_of (rest_blocks limits.block (chunk_size line) after) ++ Bad (status_of BadRequest) ∷ [])
unfolding events_of
bad_chunk_goes limits h sum bytes after line x there other =
    let n = chunk_size line in
    let events = events_of (rest_blocks limits.block n after) in
    then_ends limits (SizeLine sum) bytes [] (Chunk n (sum + n)) after (events ++ Bad (status_of BadRequest) ∷ []) (to_chunk limits sum bytes after line x.line_is x.splits x.some_data x.fits)
    (then_ends limits (Chunk n (sum + n)) after events (ChunkEnd (sum + n)) (drop n after) (Bad (status_of BadRequest) ∷ [])
    (chunk_whole limits h n n (sum + n) after (omega arith) x.some_data (omega (arith, there)))
    (pair_refused limits (sum + n) (drop n after) (omega (arith, there, length-drop n after)) other))

bad_line_goes : (limits : Limits) (sum : ℕ) (bytes : List ℕ) → body.IsBadLine bytes → Ends limits (SizeLine sum) bytes (Bad (status_of BadRequest) ∷ [])
bad_line_goes limits sum bytes (inl long) =
    refusal limits (SizeLine sum) bytes bytes BadRequest (takes_long limits (SizeLine sum) bytes (long_front EndsAsLine line_len line_search_for size_line_limit bytes long))
bad_line_goes limits sum bytes (inr x) =
    let f : front limits (SizeLine sum) bytes ≡ found x.0 = found_front EndsAsLine line_len line_search_for size_line_limit bytes x.0 x.1 x.2 in
    refusal limits (SizeLine sum) bytes x.1 BadRequest (takes_found limits (SizeLine sum) bytes x.0 x.1 (bad BadRequest) f x.2.0.splits (None, x.3, refl))

bad_section_goes : (limits : Limits) (bytes : List ℕ) → body.IsBadSection limits bytes → Ends limits Trailers bytes (Bad (status_of BadRequest) ∷ [])
bad_section_goes limits bytes (inl long) =
    refusal limits Trailers bytes bytes BadRequest (takes_long limits Trailers bytes (long_front EndsAsSection trailer_len section_search_for limits.max_head bytes long))
bad_section_goes limits bytes (inr x) =
    let f : front limits Trailers bytes ≡ found x.0 = found_front EndsAsSection trailer_len section_search_for limits.max_head bytes x.0 x.1 x.2 in
    refusal limits Trailers bytes x.1 BadRequest (takes_found limits Trailers bytes x.0 x.1 (bad BadRequest) f x.2.0.splits (false, x.3, refl))

last_goes : (limits : Limits) (sum : ℕ) (bytes after : List ℕ) (l : body.LastChunk) → sum ≤ limits.max_body → body.IsLastChunk limits l
    → bytes ≡ body.print_last l ++ after → Goes limits (SizeLine sum) bytes (Event (last_event []) ∷ []) BodyEnd after
last_goes limits sum bytes after l fits x split =
    let section = print_section l.fields l.end in
    let first_part = to_trailers limits sum bytes (section ++ after) l.line x.line (split ∙ append_assoc (print_chunk_line l.line) section after) x.zero_size fits in
    goes_on limits (SizeLine sum) bytes [] Trailers (section ++ after) (Event (last_event []) ∷ []) BodyEnd after first_part
    (one limits Trailers (section ++ after) (Some (Event (last_event []))) BodyEnd after
    (takes_found limits Trailers (section ++ after) section after (after_trailers true)
    (trailer_front limits l.fields l.end after x.section.reads.0 x.short) refl (true, (l.fields, l.end, x.section), refl)))

pub tail_goes : (limits : Limits) → 0 < limits.block → (sum : ℕ) (bytes : List ℕ) (t : body.Tail) → sum ≤ limits.max_body → body.IsTail limits sum bytes t
    → BodyGoes limits (SizeLine sum) bytes (tail_events limits t) (tail_state t)
unfolding tail_events events_of piece_events
tail_goes limits h sum bytes body.open_line fits x = waiting limits (SizeLine sum) bytes (open_front EndsAsLine line_len line_search_for size_line_limit bytes x)
tail_goes limits h sum bytes body.bad_line fits x = bad_line_goes limits sum bytes x
tail_goes limits h sum bytes (body.large_chunk line) fits x = too_large limits sum bytes x.0 line x.2 x.1 x.3
tail_goes limits h sum bytes (body.open_chunk line after) fits x =
    ends_as limits (SizeLine sum) bytes (events_of (rest_blocks limits.block (chunk_size line) after)) (map Event (tail_events limits (body.open_chunk line after)))
    (sym (ap (map Event) (one_piece limits (let p : Piece = record { size = chunk_size line; data_bytes = take (chunk_size line) after } in p))))
    (open_chunk_goes limits h sum bytes after line x.0 x.1)
tail_goes limits h sum bytes (body.bad_chunk line after) fits x =
    ends_as limits (SizeLine sum) bytes (events_of (rest_blocks limits.block (chunk_size line) after) ++ Bad (status_of BadRequest) ∷ [])
    (map Event (tail_events limits (body.bad_chunk line after)) ++ Bad (status_of BadRequest) ∷ [])
    (ap (λ (l : List Incoming). map Event l ++ Bad (status_of BadRequest) ∷ []) (sym (one_piece limits (let p : Piece = record { size = chunk_size line; data_bytes = take (chunk_size line) after } in p))))
    (bad_chunk_goes limits h sum bytes after line x.0 x.1 x.2)
tail_goes limits h sum bytes (body.open_trailers line after) fits x =
    then_ends limits (SizeLine sum) bytes [] Trailers after [] (to_trailers limits sum bytes after line x.0.line_is x.0.splits x.0.zero_size fits)
    (waiting limits Trailers after (open_front EndsAsSection trailer_len section_search_for limits.max_head after x.1))
tail_goes limits h sum bytes (body.bad_trailers line after) fits x =
    then_ends limits (SizeLine sum) bytes [] Trailers after (Bad (status_of BadRequest) ∷ []) (to_trailers limits sum bytes after line x.0.line_is x.0.splits x.0.zero_size fits)
    (bad_section_goes limits after x.1)
tail_goes limits h sum bytes (body.last l after) fits x = last_goes limits sum bytes after l fits x.0 x.1
