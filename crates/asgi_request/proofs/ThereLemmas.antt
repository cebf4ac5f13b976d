-- The results of bytes cannot fail to exist.
use Rattle.std.proofs.Common.{◌≡◌, ℕ, zero, suc, ◌+◌, ◌-◌, ◌*◌, ◌<◌, ◌≤◌, length, take, drop, Bool, true, false, List, [], ◌∷◌, ◌++◌, refl, sym, ap, ◌∙◌, subst, arith, Option, Some, None}
use Rattle.std.specs.Prelude.{nat_le, min, if◌then◌else◌}
use Rattle.std.proofs.lemmas.List.{length-append, length-take-le, take-append-drop}
use Rattle.httparse.specs.Grammar.{chunk_size}
use Rattle.asgi_types.specs.declared.incoming.Incoming.TheVariants.{HttpRequest}
use Rattle.asgi_types.specs.declared.limits.Limits.{Limits}
use Rattle.asgi_request.specs.declared.next.Next.{Next}
use Rattle.asgi_request.specs.declared.next.Next.TheVariants.{Event, Whole, Bad}
use Rattle.asgi_request.specs.declared.place.Place.{Place}
use Rattle.asgi_request.specs.declared.place.Place.TheVariants.{Start, Counted, SizeLine, Chunk, ChunkEnd, Trailers, BodyEnd, HandshakeEnd, Upgraded, Stopped}
use Rattle.asgi_request.specs.Places.{Judged}
use Rattle.asgi_request.specs.declared.refusal.Refusal.{Refusal}
use Rattle.asgi_request.specs.declared.refusal.Refusal.TheVariants.{BadRequest, HeaderFieldsTooLarge}
use Rattle.asgi_request.specs.Refusals.{status_of}
use Rattle.asgi_request.specs.Fronts.{Front, found, too_long, unfinished, front_at, first, head_len, line_len, trailer_len}
use Rattle.asgi_request.specs.ChunkedBody.{size_line_limit}
use Rattle.asgi_request.specs.Head.{record_of}
use Rattle.asgi_request.specs.Places.{front, bad, gives, after_head, after_counted, after_size, after_chunk, after_chunk_end, after_trailers, after_too_long, JudgesText, Takes, shown}
use Rattle.asgi_request.specs.Results.{GivesResults}
use Rattle.asgi_request.proofs.Growth.{head_len-one, line_len-one, trailer_len-one}
use Rattle.asgi_request.proofs.FrontLemmas.{IsSearch, head_search, line_search, trailer_search}
use Rattle.asgi_request.proofs.ForwardLemmas.{lt_no, first_tells}
use Rattle.asgi_request.proofs.BackwardLemmas.{Ends, takes_found, takes_long, then_ends, one, waiting, refusal}
use Rattle.asgi_request.proofs.StandardLemmas.{all_results}

-- ---- a text that is found stands at the front

-- the bytes begin with the text, which has this many bytes or more
record BeginsWith (least : ℕ) (bytes text : List ℕ) : Type 0 where
  rest : List ℕ
  splits : bytes ≡ text ++ rest
  long : least ≤ length text

cut_at : (least n : ℕ) (bytes text : List ℕ) → take n bytes ≡ text → n ≤ length bytes → least ≤ n → BeginsWith least bytes text
cut_at least n bytes text same inside low = record {
  rest = drop n bytes;
  splits = sym (take-append-drop n bytes) ∙ ap (λ (l : List ℕ). l ++ drop n bytes) same;
  long = (let size : length text ≡ n = sym (ap length same) ∙ length-take-le n bytes inside in omega (arith, low, size));
}

first_begins : (n : ℕ) (bytes text : List ℕ) → first n bytes ≡ found text → BeginsWith n bytes text
first_begins n bytes text e =
    let t = first_tells n bytes (found text) e in
    cut_at n n bytes text (sym t.0) t.1 (omega arith)

same_text : (a b : List ℕ) → found a ≡ found b → a ≡ b
same_text a b e = cc

search_begins : (len : List ℕ → Option ℕ) → IsSearch len → ((bytes : List ℕ) (n : ℕ) → len bytes ≡ Some n → 1 ≤ n)
    → (limit : ℕ) (bytes text : List ℕ) (o : Option ℕ) → len bytes ≡ o → front_at limit bytes o ≡ found text → BeginsWith 1 bytes text
search_begins len s some limit bytes text None e f = absurd (none (nat_le limit (length bytes)) f)
  where
    none : (b : Bool) → (if b then too_long else unfinished) ≡ found text → ⊥
    none true x = cc
    none false x = cc
search_begins len s some limit bytes text (Some n) e f = by (nat_le n limit) f
  where
    by : (b : Bool) → (if b then found (take n bytes) else too_long) ≡ found text → BeginsWith 1 bytes text
    by true x = cut_at 1 n bytes text (same_text (take n bytes) text x) (s.within bytes n e) (some bytes n e)
    by false x = cc

-- the fewest bytes of a text at this place
least : Limits → Place → ℕ
least limits Start = 1
least limits (Counted n) = min n limits.block
least limits (SizeLine sum) = 1
least limits (Chunk left sum) = min left limits.block
least limits (ChunkEnd sum) = 2
least limits Trailers = 1
least limits BodyEnd = 0
least limits HandshakeEnd = 0
least limits Upgraded = 0
least limits (Stopped why) = 0

text_begins : (limits : Limits) (place : Place) (bytes text : List ℕ) → front limits place bytes ≡ found text → BeginsWith (least limits place) bytes text
unfolding least
text_begins limits Start bytes text e = search_begins head_len head_search head_len-one limits.max_head bytes text (head_len bytes) refl e
text_begins limits (Counted n) bytes text e = first_begins (min n limits.block) bytes text e
text_begins limits (SizeLine sum) bytes text e = search_begins line_len line_search line_len-one size_line_limit bytes text (line_len bytes) refl e
text_begins limits (Chunk left sum) bytes text e = first_begins (min left limits.block) bytes text e
text_begins limits (ChunkEnd sum) bytes text e = first_begins 2 bytes text e
text_begins limits Trailers bytes text e = search_begins trailer_len trailer_search trailer_len-one limits.max_head bytes text (trailer_len bytes) refl e
text_begins limits BodyEnd bytes text e = record { rest = bytes; splits = ap (λ (l : List ℕ). l ++ bytes) (same_text [] text e); long = omega arith }
text_begins limits HandshakeEnd bytes text e = record { rest = bytes; splits = ap (λ (l : List ℕ). l ++ bytes) (same_text [] text e); long = omega arith }
text_begins limits Upgraded bytes text e = cc
text_begins limits (Stopped why) bytes text e = cc

-- ---- each turn reads bytes, or goes to a place of less weight

weight : Place → ℕ
weight Start = 1
weight (Counted n) = 3
weight (SizeLine sum) = 0
weight (Chunk left sum) = 2
weight (ChunkEnd sum) = 1
weight Trailers = 0
weight BodyEnd = 2
weight HandshakeEnd = 2
weight Upgraded = 0
weight (Stopped why) = 0

at_most : (place : Place) → weight place ≤ 3
unfolding weight
at_most Start = omega arith
at_most (Counted n) = omega arith
at_most (SizeLine sum) = omega arith
at_most (Chunk left sum) = omega arith
at_most (ChunkEnd sum) = omega arith
at_most Trailers = omega arith
at_most BodyEnd = omega arith
at_most HandshakeEnd = omega arith
at_most Upgraded = omega arith
at_most (Stopped why) = omega arith

no_counted : (text : List ℕ) → weight (after_counted 0 text).place ≡ 2
unfolding weight
no_counted text =
    ap (λ (b : Bool). weight (if b then gives (Event (HttpRequest text true)) (Counted (0 - length text)) else gives (Event (HttpRequest text false)) BodyEnd).place)
    (lt_no (length text) 0 (omega arith))

no_chunk : (sum : ℕ) (text : List ℕ) → weight (after_chunk 0 sum text).place ≡ 1
unfolding weight
no_chunk sum text =
    ap (λ (b : Bool). weight (if b then gives (Event (HttpRequest text true)) (Chunk (0 - length text) sum) else gives (Event (HttpRequest text true)) (ChunkEnd sum)).place)
    (lt_no (length text) 0 (omega arith))

reads_some : (place mid : Place) (n : ℕ) → 1 ≤ n → weight mid < 4 * n + weight place
reads_some place mid n h = omega (arith, h, at_most mid)

falls : (limits : Limits) (place : Place) (text : List ℕ) (turn : Judged) → least limits place ≤ length text → JudgesText limits place text turn
    → weight turn.place < 4 * length text + weight place
unfolding weight least
falls limits Start text turn h j = reads_some Start turn.place (length text) h
falls limits (Counted zero) text turn h j =
    let w : weight turn.place ≡ 2 = ap (λ (t : Judged). weight t.place) j ∙ no_counted text in omega (arith, w)
falls limits (Counted (suc n)) text turn h j =
    let low = limits.block_in_range.0 in reads_some (Counted (suc n)) turn.place (length text) (omega (arith, h, low))
falls limits (SizeLine sum) text turn h j = reads_some (SizeLine sum) turn.place (length text) h
falls limits (Chunk zero sum) text turn h j =
    let w : weight turn.place ≡ 1 = ap (λ (t : Judged). weight t.place) j ∙ no_chunk sum text in omega (arith, w)
falls limits (Chunk (suc left) sum) text turn h j =
    let low = limits.block_in_range.0 in reads_some (Chunk (suc left) sum) turn.place (length text) (omega (arith, h, low))
falls limits (ChunkEnd sum) text turn h j = reads_some (ChunkEnd sum) turn.place (length text) (omega (arith, h))
falls limits Trailers text turn h j = reads_some Trailers turn.place (length text) h
falls limits BodyEnd text turn h j =
    let w : weight turn.place ≡ 1 = ap (λ (t : Judged). weight t.place) j in omega (arith, w)
falls limits HandshakeEnd text turn h j =
    let w : weight turn.place ≡ 0 = ap (λ (t : Judged). weight t.place) j in omega (arith, w)
falls limits Upgraded text turn h j = absurd j
falls limits (Stopped why) text turn h j = absurd j

-- ---- each text is judged

judged_there : (limits : Limits) (place : Place) (text : List ℕ) → ((why : Refusal) → place ≡ Stopped why → ⊥) → (place ≡ Upgraded → ⊥)
    → ((turn : Judged) → JudgesText limits place text turn → ⊥) → ⊥
judged_there limits Start text going below deny =
    deny (after_head limits None)
    (None, (λ head is. deny (after_head limits (Some (record_of head))) (Some (record_of head), (head, is, refl), refl)), refl)
judged_there limits (Counted n) text going below deny = deny (after_counted n text) refl
judged_there limits (SizeLine sum) text going below deny =
    deny (after_size limits.max_body sum None)
    (None, (λ line is. deny (after_size limits.max_body sum (Some (chunk_size line))) (Some (chunk_size line), (line, is, refl), refl)), refl)
judged_there limits (Chunk left sum) text going below deny = deny (after_chunk left sum text) refl
judged_there limits (ChunkEnd sum) text going below deny = deny (after_chunk_end sum text) refl
judged_there limits Trailers text going below deny =
    deny (after_trailers false) (false, (λ fields last is. deny (after_trailers true) (true, (fields, last, is), refl)), refl)
judged_there limits BodyEnd text going below deny = deny (gives Whole Start) refl
judged_there limits HandshakeEnd text going below deny = deny (gives Whole Upgraded) refl
judged_there limits Upgraded text going below deny = below refl
judged_there limits (Stopped why) text going below deny = going why refl

-- ---- the results are there

long_is : (place : Place) → (why : Refusal) × (after_too_long place ≡ bad why)
long_is Start = (HeaderFieldsTooLarge, refl)
long_is (Counted n) = (BadRequest, refl)
long_is (SizeLine sum) = (BadRequest, refl)
long_is (Chunk left sum) = (BadRequest, refl)
long_is (ChunkEnd sum) = (BadRequest, refl)
long_is Trailers = (BadRequest, refl)
long_is BodyEnd = (BadRequest, refl)
long_is HandshakeEnd = (BadRequest, refl)
long_is Upgraded = (BadRequest, refl)
long_is (Stopped why) = (BadRequest, refl)

long_ends : (limits : Limits) (place : Place) (bytes : List ℕ) (why : Refusal) → after_too_long place ≡ bad why → front limits place bytes ≡ too_long
    → Ends limits place bytes (Bad (status_of why) ∷ [])
long_ends limits place bytes why is e =
    refusal limits place bytes bytes why (subst (λ (t : Judged). Takes limits place bytes t bytes) is (takes_long limits place bytes e))

turn_ends : (limits : Limits) (place : Place) (bytes : List ℕ) (turn : Judged) (rest : List ℕ) (results : List Next)
    → Takes limits place bytes turn rest → Ends limits turn.place rest results → Ends limits place bytes (shown (turn.item ∷ []) ++ results)
turn_ends limits place bytes turn rest results t ends =
    then_ends limits place bytes (shown (turn.item ∷ [])) turn.place rest results (one limits place bytes turn.item turn.place rest t) ends

not_stopped : (limits : Limits) (place : Place) (bytes text : List ℕ) → front limits place bytes ≡ found text → (why : Refusal) → place ≡ Stopped why → ⊥
not_stopped limits place bytes text e why is =
    let P : Place → Type 0 = λ p. front limits p bytes ≡ found text in
    let never : unfinished ≡ found text = subst P is e in
    cc

not_upgraded : (limits : Limits) (place : Place) (bytes text : List ℕ) → front limits place bytes ≡ found text → place ≡ Upgraded → ⊥
not_upgraded limits place bytes text e is =
    let P : Place → Type 0 = λ p. front limits p bytes ≡ found text in
    let never : unfinished ≡ found text = subst P is e in
    cc

fewer : (whole text rest : List ℕ) (a b fuel : ℕ) → whole ≡ text ++ rest → a < 4 * length text + b → 4 * length whole + b < suc fuel
    → 4 * length rest + a < fuel
fewer whole text rest a b fuel split less h =
    let size : length whole ≡ length text + length rest = ap length split ∙ length-append text rest in
    omega (arith, size, less, h)

-- fuel bounds the turns
ends_there : (limits : Limits) (fuel : ℕ) (place : Place) (bytes : List ℕ) → 4 * length bytes + weight place < fuel
    → ((results : List Next) → Ends limits place bytes results → ⊥) → ⊥
ends_there limits zero place bytes h deny = absurd (omega (arith, h))
ends_there limits (suc fuel) place bytes h deny = by (front limits place bytes) refl (λ mid rest less. ends_there limits fuel mid rest less)
  where
    by : (f : Front) → front limits place bytes ≡ f
        → ((mid : Place) (rest : List ℕ) → 4 * length rest + weight mid < fuel → ((results : List Next) → Ends limits mid rest results → ⊥) → ⊥) → ⊥
    by unfinished e go = deny [] (waiting limits place bytes e)
    by too_long e go = let t = long_is place in deny (Bad (status_of t.0) ∷ []) (long_ends limits place bytes t.0 t.1 e)
    by (found text) e go =
        let b = text_begins limits place bytes text e in
        judged_there limits place text (not_stopped limits place bytes text e) (not_upgraded limits place bytes text e)
        (λ turn judged. go turn.place b.rest
        (fewer bytes text b.rest (weight turn.place) (weight place) fuel b.splits (falls limits place text turn b.long judged) h)
        (λ results ends. deny (shown (turn.item ∷ []) ++ results)
        (turn_ends limits place bytes turn b.rest results (takes_found limits place bytes text b.rest turn e b.splits judged) ends)))

pub results_there : (limits : Limits) (bytes : List ℕ) → ((results : List Next) (rest : List ℕ) → GivesResults limits bytes results rest → ⊥) → ⊥
results_there limits bytes deny =
    ends_there limits (suc (4 * length bytes + weight Start)) Start bytes (omega arith)
    (λ results ends. (
    let all = all_results limits limits.block_in_range.0 bytes results ends.end ends.rest
    (record { steps = ends.goes.steps; reads = ends.goes.reads; shows = ends.goes.shows }) ends.waits in
    deny results all.0 all.1
    ))
