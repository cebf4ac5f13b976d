-- How a search goes on, by one byte or by more bytes at the end.
use Rattle.std.proofs.Common.{◌≡◌, ℕ, ◌+◌, ◌<◌, ◌≤◌, true, false, Bool, List, [], ◌∷◌, ◌++◌, length, get_or, drop, refl, sym, ap, ◌∙◌, append_assoc, arith, Option, Some, None, zero-add}
use Rattle.std.specs.Prelude.{◌==◌, ◌-◌}
use Rattle.std.specs.Option.{option_map}
use Rattle.std.proofs.lemmas.List.{at_drop_more, append-nil, length-append, drop_all, drop-append-le}
use Rattle.std.proofs.lemmas.Bool.Decides.{nat_tests}
use Rattle.asgi_request.specs.declared.place.Place.{Place}
use Rattle.asgi_request.specs.declared.place.Place.TheVariants.{Start, Counted, SizeLine, Chunk, ChunkEnd, Trailers, BodyEnd, HandshakeEnd, Upgraded, Stopped}
use Rattle.asgi_request.specs.declared.search.Search.{Search}
use Rattle.asgi_request.specs.HeadText.{is_line_break}
use Rattle.asgi_request.specs.Fronts.{empty_line_len, more, lines_len, head_len, line_len, trailer_len}
use Rattle.asgi_request.specs.private.Searches.{Continues, GoesFrom, IsClosed, head_part, ResumesTrailer, Resumes}
use Rattle.asgi_request.proofs.HeadLemmas.{more-more, lines_len-cons, head_len-cons}

pub more-zero : (o : Option ℕ) → more 0 o ≡ o
more-zero None = refl
more-zero (Some n) = ap Some (zero-add n)

pub more-none : (n : ℕ) (o : Option ℕ) → o ≡ None → more n o ≡ None
more-none n None e = refl
more-none n (Some m) e = cc

-- ---- from one place to the next

pub here : (part : List ℕ → Option ℕ) (at : ℕ) (held : List ℕ) → GoesFrom part part at at held
here part at held rest = refl

step : (whole part next : List ℕ → Option ℕ) (bytes : List ℕ) (from i : ℕ) → i < length bytes
    → ((rest : List ℕ) → part (get_or bytes i 0 ∷ (drop (i + 1) bytes ++ rest)) ≡ more 1 (next (drop (i + 1) bytes ++ rest)))
    → GoesFrom whole part from i bytes → GoesFrom whole next from (i + 1) bytes
step whole part next bytes from i below one so_far rest =
    so_far rest ∙ ap (more i) (at_drop_more (λ (l : List ℕ). part (l ++ rest)) bytes i 0 below ∙ one rest) ∙ more-more i (next (drop (i + 1) bytes ++ rest))

pub section_step : (bytes : List ℕ) (from i : ℕ) → i < length bytes
    → (get_or bytes i 0 ≡ 10 → IsClosed (drop (i + 1) bytes)) → (get_or bytes i 0 ≡ 10 → empty_line_len (drop (i + 1) bytes) ≡ 0)
    → GoesFrom lines_len lines_len from i bytes → GoesFrom lines_len lines_len from (i + 1) bytes
section_step bytes from i below closed none so_far =
    step lines_len lines_len lines_len bytes from i below
    (λ rest. lines_len-cons (get_or bytes i 0) (drop (i + 1) bytes ++ rest) (λ e. closed e rest ∙ none e)) so_far

pub head_step : (bytes : List ℕ) (from i : ℕ) → i < length bytes → is_line_break (get_or bytes i 0) ≡ true
    → GoesFrom head_len head_len from i bytes → GoesFrom head_len head_len from (i + 1) bytes
head_step bytes from i below e so_far =
    step head_len head_len head_len bytes from i below (λ rest. head_len-cons (get_or bytes i 0) (drop (i + 1) bytes ++ rest) e) so_far

head_begin : (b : ℕ) (rest : List ℕ) → is_line_break b ≡ false → head_len (b ∷ rest) ≡ more 1 (lines_len rest)
head_begin b rest h = rw h refl

pub begin_step : (bytes : List ℕ) (from i : ℕ) → i < length bytes → is_line_break (get_or bytes i 0) ≡ false
    → GoesFrom head_len head_len from i bytes → GoesFrom head_len lines_len from (i + 1) bytes
begin_step bytes from i below e so_far =
    step head_len head_len lines_len bytes from i below (λ rest. head_begin (get_or bytes i 0) (drop (i + 1) bytes ++ rest) e) so_far

line_on : (b : ℕ) (rest : List ℕ) → (b == 10) ≡ false → line_len (b ∷ rest) ≡ more 1 (line_len rest)
line_on b rest h = rw h refl

line_off : (b : ℕ) (rest : List ℕ) → (b == 10) ≡ true → line_len (b ∷ rest) ≡ Some 1
line_off b rest h = rw h refl

pub line_step : (bytes : List ℕ) (from i : ℕ) → i < length bytes → (get_or bytes i 0 == 10) ≡ false
    → GoesFrom line_len line_len from i bytes → GoesFrom line_len line_len from (i + 1) bytes
line_step bytes from i below e so_far =
    step line_len line_len line_len bytes from i below (λ rest. line_on (get_or bytes i 0) (drop (i + 1) bytes ++ rest) e) so_far

-- ---- what was found

pub at_end : (whole part : List ℕ → Option ℕ) (bytes : List ℕ) (from at : ℕ) → GoesFrom whole part from at bytes
    → more from (whole (drop from bytes)) ≡ more at (part (drop at bytes))
at_end whole part bytes from at g =
    ap (λ (l : List ℕ). more from (whole l)) (sym (append-nil (drop from bytes))) ∙ g [] ∙ ap (λ (l : List ℕ). more at (part l)) (append-nil (drop at bytes))

section_here : (b : ℕ) (s : List ℕ) → b ≡ 10 → 0 < empty_line_len s → lines_len (b ∷ s) ≡ Some (1 + empty_line_len s)
section_here b s e h = grind (arith, nat_tests)

pub section_found : (bytes : List ℕ) (from i n : ℕ) → i < length bytes → get_or bytes i 0 ≡ 10 → n ≡ empty_line_len (drop (i + 1) bytes) → 0 < n
    → GoesFrom lines_len lines_len from i bytes → Some (i + 1 + n) ≡ more from (lines_len (drop from bytes))
section_found bytes from i n below e m above g =
    let one = section_here (get_or bytes i 0) (drop (i + 1) bytes) e (omega arith) in
    let whole : more i (lines_len (drop i bytes)) ≡ Some (i + (1 + n)) =
    ap (more i) (at_drop_more lines_len bytes i 0 below ∙ one ∙ ap (λ k. Some (1 + k)) (sym m)) in
    ap Some (omega arith) ∙ sym (at_end lines_len lines_len bytes from i g ∙ whole)

pub section_open : (bytes : List ℕ) (from i : ℕ) → i < length bytes → empty_line_len (drop (i + 1) bytes) ≡ 0
    → lines_len (drop (i + 1) bytes) ≡ None
    → GoesFrom lines_len lines_len from i bytes → None ≡ more from (lines_len (drop from bytes))
section_open bytes from i below none shut g =
    let one = at_drop_more lines_len bytes i 0 below ∙ lines_len-cons (get_or bytes i 0) (drop (i + 1) bytes) (λ _. none) in
    sym (at_end lines_len lines_len bytes from i g ∙ more-none i (lines_len (drop i bytes)) (one ∙ more-none 1 (lines_len (drop (i + 1) bytes)) shut))

pub ended : (whole part : List ℕ → Option ℕ) (bytes : List ℕ) (from at : ℕ) → length bytes ≤ at → part [] ≡ None
    → GoesFrom whole part from at bytes → None ≡ more from (whole (drop from bytes))
ended whole part bytes from at far none g =
    sym (at_end whole part bytes from at g ∙ more-none at (part (drop at bytes)) (ap part (drop_all at bytes far) ∙ none))

pub line_found : (bytes : List ℕ) (from i : ℕ) → i < length bytes → (get_or bytes i 0 == 10) ≡ true
    → GoesFrom line_len line_len from i bytes → Some (i + 1) ≡ more from (line_len (drop from bytes))
line_found bytes from i below e g =
    sym (at_end line_len line_len bytes from i g ∙ ap (more i) (at_drop_more line_len bytes i 0 below ∙ line_off (get_or bytes i 0) (drop (i + 1) bytes) e))

-- ---- a search as a whole

pub whole_is : (whole part : List ℕ → Option ℕ) (at : ℕ) (bytes : List ℕ) → Continues whole part at bytes → whole bytes ≡ more at (part (drop at bytes))
whole_is whole part at bytes c =
    ap whole (sym (append-nil bytes)) ∙ c.same [] ∙ ap (λ (l : List ℕ). more at (part l)) (append-nil (drop at bytes))

pub Continues-then : (whole part next : List ℕ → Option ℕ) (at to : ℕ) (bytes : List ℕ) → Continues whole part at bytes → to ≤ length bytes
    → GoesFrom part next at to bytes → Continues whole next to bytes
Continues-then whole part next at to bytes c inside g = record { inside = inside; same = λ rest. c.same rest ∙ g rest }

drop-front : (at : ℕ) (a b : List ℕ) → at ≤ length a → drop at (a ++ b) ≡ drop at a ++ b
drop-front at a b h = drop-append-le at a b h

pub Continues-append : (whole part : List ℕ → Option ℕ) (at : ℕ) (held a : List ℕ) → Continues whole part at held → Continues whole part at (held ++ a)
Continues-append whole part at held a c = record {
  inside = omega (arith, c.inside, length-append held a);
  same = λ rest. ap whole (append_assoc held a rest) ∙ c.same (a ++ rest)
      ∙ ap (λ (l : List ℕ). more at (part l)) (sym (append_assoc (drop at held) a rest) ∙ ap (λ (l : List ℕ). l ++ rest) (sym (drop-front at held a c.inside)));
}

pub Continues-new : (whole : List ℕ → Option ℕ) (held : List ℕ) → Continues whole whole 0 held
Continues-new whole held = record { inside = omega arith; same = λ rest. sym (more-zero (whole (held ++ rest))) }

Trailer-append : (b : Bool) (at : ℕ) (held a : List ℕ) → ResumesTrailer b at held → ResumesTrailer b at (held ++ a)
Trailer-append true at held a c = Continues-append trailer_len lines_len at held a c
Trailer-append false at held a c = tt

pub Resumes-append : (place : Place) (s : Search) (held a : List ℕ) → Resumes place s held → Resumes place s (held ++ a)
Resumes-append Start s held a c = Continues-append head_len (head_part s.begun) s.at held a c
Resumes-append (Counted n) s held a c = tt
Resumes-append (SizeLine sum) s held a c = Continues-append line_len line_len s.at held a c
Resumes-append (Chunk left sum) s held a c = tt
Resumes-append (ChunkEnd sum) s held a c = tt
Resumes-append Trailers s held a c = Trailer-append s.begun s.at held a c
Resumes-append BodyEnd s held a c = tt
Resumes-append HandshakeEnd s held a c = tt
Resumes-append Upgraded s held a c = tt
Resumes-append (Stopped refusal) s held a c = tt

abbrev pub new_search : Search
new_search = record { at = 0; begun = false }

pub Resumes-new : (place : Place) (held : List ℕ) → Resumes place new_search held
Resumes-new Start held = Continues-new head_len held
Resumes-new (Counted n) held = tt
Resumes-new (SizeLine sum) held = Continues-new line_len held
Resumes-new (Chunk left sum) held = tt
Resumes-new (ChunkEnd sum) held = tt
Resumes-new Trailers held = tt
Resumes-new BodyEnd held = tt
Resumes-new HandshakeEnd held = tt
Resumes-new Upgraded held = tt
Resumes-new (Stopped refusal) held = tt

-- ---- a trailer section

less-one : (o : Option ℕ) → option_map (λ n. n - 1) (more 1 o) ≡ o
less-one None = refl
less-one (Some n) = ap Some (omega arith)

pub trailer_at_once : (bytes : List ℕ) (n : ℕ) → n ≡ empty_line_len bytes → 0 < n → Some n ≡ trailer_len bytes
trailer_at_once bytes n e h =
    let one = section_here 10 bytes refl (omega arith) in
    sym (ap (option_map (λ k. k - 1)) one ∙ ap Some (omega arith))

pub trailer_open : (bytes : List ℕ) → empty_line_len bytes ≡ 0 → lines_len bytes ≡ None → None ≡ trailer_len bytes
trailer_open bytes e none = sym (ap (option_map (λ k. k - 1)) (lines_len-cons 10 bytes (λ _. e)) ∙ less-one (lines_len bytes) ∙ none)

pub trailer_begun : (bytes : List ℕ) → empty_line_len bytes ≡ 0 → IsClosed bytes → Continues trailer_len lines_len 0 bytes
trailer_begun bytes e closed = record {
  inside = omega arith;
  same = λ rest. ap (option_map (λ k. k - 1)) (lines_len-cons 10 (bytes ++ rest) (λ _. closed rest ∙ e)) ∙ less-one (lines_len (bytes ++ rest)) ∙ sym (more-zero (lines_len (bytes ++ rest)));
}
