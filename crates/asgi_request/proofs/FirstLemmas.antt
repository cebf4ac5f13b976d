-- What was given are the first results of a prefix of the bytes.
use Rattle.std.proofs.Common.{◌≡◌, ℕ, zero, suc, ◌<◌, ◌≤◌, inl, inr, length, take, Bool, true, false, List, [], ◌∷◌, ◌++◌, refl, sym, ap, ◌∙◌, subst, append_assoc, arith, Option, Some, None}
use Rattle.std.specs.Prelude.{◌⊎◌, nat_le, min, if◌then◌else◌}
use Rattle.std.proofs.lemmas.List.{append-nil, length-take-le, take_all}
use Rattle.asgi_types.specs.declared.incoming.Incoming.TheVariants.{HttpRequest}
use Rattle.asgi_types.specs.declared.limits.Limits.{Limits}
use Rattle.asgi_request.specs.declared.next.Next.{Next}
use Rattle.asgi_request.specs.declared.next.Next.TheVariants.{Event, Whole}
use Rattle.asgi_request.specs.declared.place.Place.{Place}
use Rattle.asgi_request.specs.declared.place.Place.TheVariants.{Start, Counted, SizeLine, Chunk, ChunkEnd, Trailers, BodyEnd, HandshakeEnd, Upgraded, Stopped}
use Rattle.asgi_request.specs.Places.{Judged}
use Rattle.asgi_request.specs.declared.refusal.Refusal.{Refusal}
use Rattle.asgi_request.specs.declared.refusal.Refusal.TheVariants.{BadRequest, HeaderFieldsTooLarge}
use Rattle.asgi_request.specs.Fronts.{Front, found, too_long, unfinished, front_at, first, front_text, head_len, line_len, trailer_len}
use Rattle.asgi_request.specs.ChunkedBody.{size_line_limit}
use Rattle.asgi_request.specs.Places.{front, gives, after_too_long, Judges, Takes, Reads, Reaches}
use Rattle.asgi_request.specs.Results.{GivesResults, HasFirst}
use Rattle.asgi_request.proofs.FrontLemmas.{IsSearch, head_search, line_search, trailer_search, front-append}
use Rattle.asgi_request.proofs.ForwardLemmas.{yes_le, le_yes, le_no}
use Rattle.asgi_request.proofs.BackwardLemmas.{Ends, takes_found, then_ends, one, waiting}
use Rattle.asgi_request.proofs.StandardLemmas.{all_results}

-- ---- a text that was found is found in itself

same_text : (a b : List ℕ) → found a ≡ found b → a ≡ b
same_text a b e = cc

-- the first n bytes of a text and more are the text: it has n bytes
size_of : (n : ℕ) (text rest : List ℕ) → n ≤ length (text ++ rest) → take n (text ++ rest) ≡ text → length text ≡ n
size_of n text rest h e = sym (ap length e) ∙ length-take-le n (text ++ rest) h

searched_at : (len : List ℕ → Option ℕ) → IsSearch len → (limit : ℕ) (text rest : List ℕ) (n : ℕ) → len (text ++ rest) ≡ Some n
    → (b : Bool) → nat_le n limit ≡ b → (if b then found (take n (text ++ rest)) else too_long) ≡ found text
    → front_at limit text (len text) ≡ found text
searched_at len s limit text rest n e false h f = cc
searched_at len s limit text rest n e true h f =
    let size = size_of n text rest (s.within (text ++ rest) n e) (same_text (take n (text ++ rest)) text f) in
    ap (front_at limit text) (s.local text rest n e (omega (arith, size)))
    ∙ ap (λ (b : Bool). if b then found (take n text) else too_long) h
    ∙ ap found (take_all n text (omega (arith, size)))

searched_by : (len : List ℕ → Option ℕ) → IsSearch len → (limit : ℕ) (text rest : List ℕ) (o : Option ℕ) → len (text ++ rest) ≡ o
    → front_at limit (text ++ rest) o ≡ found text → front_at limit text (len text) ≡ found text
searched_by len s limit text rest None e f = absurd (none (nat_le limit (length (text ++ rest))) f)
  where
    none : (b : Bool) → (if b then too_long else unfinished) ≡ found text → ⊥
    none true x = cc
    none false x = cc
searched_by len s limit text rest (Some n) e f = searched_at len s limit text rest n e (nat_le n limit) refl f

counted_by : (n : ℕ) (text rest : List ℕ) (b : Bool) → nat_le n (length (text ++ rest)) ≡ b
    → (if b then found (take n (text ++ rest)) else unfinished) ≡ found text → first n text ≡ found text
counted_by n text rest false h f = cc
counted_by n text rest true h f =
    let size = size_of n text rest (yes_le n (length (text ++ rest)) h) (same_text (take n (text ++ rest)) text f) in
    ap (λ (b : Bool). if b then found (take n text) else unfinished) (le_yes n (length text) (omega (arith, size)))
    ∙ ap found (take_all n text (omega (arith, size)))

found_alone : (limits : Limits) (place : Place) (text rest : List ℕ) → front limits place (text ++ rest) ≡ found text
    → front limits place text ≡ found text
found_alone limits Start text rest e = searched_by head_len head_search limits.max_head text rest (head_len (text ++ rest)) refl e
found_alone limits (Counted n) text rest e = counted_by (min n limits.block) text rest (nat_le (min n limits.block) (length (text ++ rest))) refl e
found_alone limits (SizeLine sum) text rest e = searched_by line_len line_search size_line_limit text rest (line_len (text ++ rest)) refl e
found_alone limits (Chunk left sum) text rest e = counted_by (min left limits.block) text rest (nat_le (min left limits.block) (length (text ++ rest))) refl e
found_alone limits (ChunkEnd sum) text rest e = counted_by 2 text rest (nat_le 2 (length (text ++ rest))) refl e
found_alone limits Trailers text rest e = searched_by trailer_len trailer_search limits.max_head text rest (trailer_len (text ++ rest)) refl e
found_alone limits BodyEnd text rest e = e
found_alone limits HandshakeEnd text rest e = e
found_alone limits Upgraded text rest e = cc
found_alone limits (Stopped why) text rest e = cc

-- and before any other bytes
found_before : (limits : Limits) (place : Place) (text rest other : List ℕ) → front limits place (text ++ rest) ≡ found text
    → front limits place (text ++ other) ≡ found text
found_before limits place text rest other e =
    let alone = found_alone limits place text rest e in
    front-append limits place text other (λ u. let x : found text ≡ unfinished = sym alone ∙ u in cc) ∙ alone

-- ---- the bytes that were passed

IsStopped : Place → Type 0
IsStopped place = (why : Refusal) × (place ≡ Stopped why)

-- the run over the bytes without those that it left
record Passed (limits : Limits) (place : Place) (bytes : List ℕ) (steps : List (Option Next)) (end : Place) (rest : List ℕ) : Type 0 where
  pub passed : List ℕ
  pub splits : bytes ≡ passed ++ rest
  pub reads : Reads limits place passed steps end []

long_stops : (place : Place) → IsStopped (after_too_long place).place
unfolding IsStopped
long_stops Start = (HeaderFieldsTooLarge, refl)
long_stops (Counted n) = (BadRequest, refl)
long_stops (SizeLine sum) = (BadRequest, refl)
long_stops (Chunk left sum) = (BadRequest, refl)
long_stops (ChunkEnd sum) = (BadRequest, refl)
long_stops Trailers = (BadRequest, refl)
long_stops BodyEnd = (BadRequest, refl)
long_stops HandshakeEnd = (BadRequest, refl)
long_stops Upgraded = (BadRequest, refl)
long_stops (Stopped why) = (BadRequest, refl)

-- nothing follows a refusal
stays_stopped : (limits : Limits) (place : Place) (bytes : List ℕ) (steps : List (Option Next)) (end : Place) (rest : List ℕ)
    → IsStopped place → Reads limits place bytes steps end rest → IsStopped end
unfolding IsStopped
stays_stopped limits place bytes [] end rest x reads = subst IsStopped reads.0 x
stays_stopped limits place bytes (item ∷ steps) end rest x reads =
    let T : Place → Type 0 = λ p. Takes limits p bytes (record { item = item; place = reads.0 }) reads.1 in
    let t = subst T x.1 reads.2 in
    absurd t.judged

cut_step : (limits : Limits) (place : Place) (bytes : List ℕ) (item : Option Next) (steps : List (Option Next)) (mid : Place) (middle : List ℕ)
    (end : Place) (rest : List ℕ) (f : Front) → front limits place bytes ≡ f → Takes limits place bytes (record { item = item; place = mid }) middle
    → Reads limits mid middle steps end rest → IsStopped end ⊎ Passed limits mid middle steps end rest
    → IsStopped end ⊎ Passed limits place bytes (item ∷ steps) end rest
unfolding IsStopped
cut_step limits place bytes item steps mid middle end rest (found text) e t reads (inl x) = inl x
cut_step limits place bytes item steps mid middle end rest (found text) e t reads (inr x) =
    let turn : Judged = record { item = item; place = mid } in
    let split : bytes ≡ text ++ middle = t.splits ∙ ap (λ (f : Front). front_text f ++ middle) e in
    let at : front limits place (text ++ middle) ≡ found text = subst (λ (l : List ℕ). front limits place l ≡ found text) split e in
    inr (record {
      passed = text ++ x.passed;
      splits = split ∙ ap (λ (l : List ℕ). text ++ l) x.splits ∙ sym (append_assoc text x.passed rest);
      reads = (
        mid,
        x.passed,
        takes_found limits place (text ++ x.passed) text x.passed turn (found_before limits place text middle x.passed at) refl
            (subst (λ (f : Front). Judges limits place f turn) e t.judged),
        x.reads,
      );
    })
cut_step limits place bytes item steps mid middle end rest too_long e t reads before =
    let turn : Judged = record { item = item; place = mid } in
    let j : turn ≡ after_too_long place = subst (λ (f : Front). Judges limits place f turn) e t.judged in
    inl (stays_stopped limits mid middle steps end rest (subst (λ (u : Judged). IsStopped u.place) (sym j) (long_stops place)) reads)
cut_step limits place bytes item steps mid middle end rest unfinished e t reads before =
    let turn : Judged = record { item = item; place = mid } in
    absurd (subst (λ (f : Front). Judges limits place f turn) e t.judged)

-- a run ends at a refusal, or stays as it is over the bytes that it passed alone
cut_reads : (limits : Limits) (place : Place) (bytes : List ℕ) (steps : List (Option Next)) (end : Place) (rest : List ℕ)
    → Reads limits place bytes steps end rest → IsStopped end ⊎ Passed limits place bytes steps end rest
cut_reads limits place bytes [] end rest r = inr (record { passed = []; splits = r.1; reads = (r.0, refl) })
cut_reads limits place bytes (item ∷ steps) end rest r =
    cut_step limits place bytes item steps r.0 r.1 end rest (front limits place bytes) refl r.2 r.3 (cut_reads limits r.0 r.1 steps end rest r.3)

-- ---- from each place no bytes lead to a wait

none_open : (n : ℕ) → 0 < n → first n [] ≡ unfinished
none_open n h = ap (λ (b : Bool). if b then found (take n []) else unfinished) (le_no n 0 h)

head_open : (limit : ℕ) → 0 < limit → (if nat_le limit 0 then too_long else unfinished) ≡ unfinished
head_open limit h = ap (λ (b : Bool). if b then too_long else unfinished) (le_no limit 0 h)

none_found : (n : ℕ) → n ≡ 0 → first n [] ≡ found []
none_found n h = ap (λ k. first k []) h

start_waits : (limits : Limits) → Ends limits Start [] []
start_waits limits = waiting limits Start [] (let low = limits.head_in_range.0 in head_open limits.max_head (omega (arith, low)))

body_end_waits : (limits : Limits) → Ends limits BodyEnd [] (Whole ∷ [])
body_end_waits limits =
    then_ends limits BodyEnd [] (Whole ∷ []) Start [] []
    (one limits BodyEnd [] (Some Whole) Start [] (takes_found limits BodyEnd [] [] [] (gives Whole Start) refl refl refl)) (start_waits limits)

open_after : (limits : Limits) (place : Place) → (further : List Next) × Ends limits place [] further
open_after limits Start = ([], start_waits limits)
open_after limits (Counted zero) = (
  Event (HttpRequest [] false) ∷ Whole ∷ [],
  then_ends limits (Counted zero) [] (Event (HttpRequest [] false) ∷ []) BodyEnd [] (Whole ∷ [])
      (one limits (Counted zero) [] (Some (Event (HttpRequest [] false))) BodyEnd []
      (takes_found limits (Counted zero) [] [] [] (gives (Event (HttpRequest [] false)) BodyEnd) (none_found (min 0 limits.block) (omega arith)) refl refl))
      (body_end_waits limits),
)
open_after limits (Counted (suc n)) =
    ([], waiting limits (Counted (suc n)) [] (let low = limits.block_in_range.0 in none_open (min (suc n) limits.block) (omega (arith, low))))
open_after limits (SizeLine sum) = ([], waiting limits (SizeLine sum) [] refl)
open_after limits (Chunk zero sum) = (
  Event (HttpRequest [] true) ∷ [],
  then_ends limits (Chunk zero sum) [] (Event (HttpRequest [] true) ∷ []) (ChunkEnd sum) [] []
      (one limits (Chunk zero sum) [] (Some (Event (HttpRequest [] true))) (ChunkEnd sum) []
      (takes_found limits (Chunk zero sum) [] [] [] (gives (Event (HttpRequest [] true)) (ChunkEnd sum)) (none_found (min 0 limits.block) (omega arith)) refl refl))
      (waiting limits (ChunkEnd sum) [] refl),
)
open_after limits (Chunk (suc n) sum) =
    ([], waiting limits (Chunk (suc n) sum) [] (let low = limits.block_in_range.0 in none_open (min (suc n) limits.block) (omega (arith, low))))
open_after limits (ChunkEnd sum) = ([], waiting limits (ChunkEnd sum) [] refl)
open_after limits Trailers = ([], waiting limits Trailers [] (let low = limits.head_in_range.0 in head_open limits.max_head (omega (arith, low))))
open_after limits BodyEnd = (Whole ∷ [], body_end_waits limits)
open_after limits HandshakeEnd = (
  Whole ∷ [],
  then_ends limits HandshakeEnd [] (Whole ∷ []) Upgraded [] []
      (one limits HandshakeEnd [] (Some Whole) Upgraded [] (takes_found limits HandshakeEnd [] [] [] (gives Whole Upgraded) refl refl refl))
      (waiting limits Upgraded [] refl),
)
open_after limits Upgraded = ([], waiting limits Upgraded [] refl)
open_after limits (Stopped why) = ([], waiting limits (Stopped why) [] refl)

-- ---- what was given

all_of : (limits : Limits) (bytes : List ℕ) (given : List Next) (rest : List ℕ) → GivesResults limits bytes given rest → HasFirst limits bytes given
all_of limits bytes given rest x = record {
  front = bytes;
  after = [];
  further = [];
  rest = rest;
  splits = sym (append-nil bytes);
  gives = subst (λ (l : List Next). GivesResults limits bytes l rest) (sym (append-nil given)) x;
}

pub first_of : (limits : Limits) (bytes : List ℕ) (given : List Next) (place : Place) (held : List ℕ) → Reaches limits bytes given place held
    → HasFirst limits bytes given
unfolding IsStopped
first_of limits bytes given place held x = by (cut_reads limits Start bytes x.steps place held x.reads)
  where
    by : IsStopped place ⊎ Passed limits Start bytes x.steps place held → HasFirst limits bytes given
    by (inl s) =
        let P : Place → Type 0 = λ p. front limits p held ≡ unfinished in
        let all = all_results limits limits.block_in_range.0 bytes given place held x (subst P (sym s.1) refl) in
        all_of limits bytes given all.0 all.1
    by (inr p) =
        let on = open_after limits place in
        let all = then_ends limits Start p.passed given place [] on.0 (record { steps = x.steps; reads = p.reads; shows = x.shows }) on.1 in
        let results = all_results limits limits.block_in_range.0 p.passed (given ++ on.0) all.end all.rest
        (record { steps = all.goes.steps; reads = all.goes.reads; shows = all.goes.shows }) all.waits in
        record { front = p.passed; after = held; further = on.0; rest = results.0; splits = p.splits; gives = results.1 }

-- no bytes give no result
pub none_gives : (limits : Limits) → (rest : List ℕ) × GivesResults limits [] [] rest
none_gives limits =
    let all = start_waits limits in
    all_results limits limits.block_in_range.0 [] [] all.end all.rest
    (record { steps = all.goes.steps; reads = all.goes.reads; shows = all.goes.shows }) all.waits

-- whole requests give the same results without the bytes after them
pub whole_alone : (limits : Limits) (bytes : List ℕ) (given : List Next) (held : List ℕ) → Reaches limits bytes given Start held
    → (passed : List ℕ) × (bytes ≡ passed ++ held) × ((rest : List ℕ) × GivesResults limits passed given rest)
unfolding IsStopped
whole_alone limits bytes given held x = by (cut_reads limits Start bytes x.steps Start held x.reads)
  where
    start_open : front limits Start [] ≡ unfinished
    start_open = let low = limits.head_in_range.0 in head_open limits.max_head (omega (arith, low))

    by : IsStopped Start ⊎ Passed limits Start bytes x.steps Start held → (passed : List ℕ) × (bytes ≡ passed ++ held) × ((rest : List ℕ) × GivesResults limits passed given rest)
    by (inl s) = let never : Start ≡ Stopped s.0 = s.1 in cc
    by (inr p) =
        (p.passed, p.splits, all_results limits limits.block_in_range.0 p.passed given Start [] (record { steps = x.steps; reads = p.reads; shows = x.shows }) start_open)
