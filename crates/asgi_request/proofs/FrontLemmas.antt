-- What the bytes begin with stays if more bytes follow.
use Rattle.std.proofs.Common.{◌≡◌, ℕ, ◌+◌, ◌<◌, ◌≤◌, length, take, Bool, true, false, List, ◌++◌, refl, sym, ap, ◌∙◌, arith, Option, Some, None}
use Rattle.std.specs.Prelude.{IfSome, nat_le, min, if◌then◌else◌}
use Rattle.std.proofs.lemmas.Bool.Decides.{nat_tests}
use Rattle.std.proofs.lemmas.List.{take-append-le, length-append}
use Rattle.asgi_types.specs.declared.limits.Limits.{Limits}
use Rattle.asgi_request.specs.declared.place.Place.{Place}
use Rattle.asgi_request.specs.declared.place.Place.TheVariants.{Start, Counted, SizeLine, Chunk, ChunkEnd, Trailers, BodyEnd, HandshakeEnd, Upgraded, Stopped}
use Rattle.asgi_request.specs.Fronts.{Front, found, too_long, unfinished, front_at, first, head_len, line_len, trailer_len}
use Rattle.asgi_request.specs.ChunkedBody.{size_line_limit}
use Rattle.asgi_request.specs.Places.{front}
use Rattle.asgi_request.proofs.Growth.{head_len-append, head_len-local, head_len-within, line_len-append, line_len-local, line_len-within, trailer_len-append, trailer_len-local, trailer_len-within}

-- a length that more bytes at the end don't change
pub record IsSearch (len : List ℕ → Option ℕ) : Type 0 where
  pub append : (s t : List ℕ) (n : ℕ) → len s ≡ Some n → len (s ++ t) ≡ Some n
  pub local : (s t : List ℕ) (n : ℕ) → len (s ++ t) ≡ Some n → n ≤ length s → len s ≡ Some n
  pub within : (s : List ℕ) (n : ℕ) → len s ≡ Some n → n ≤ length s

pub head_search : IsSearch head_len
head_search = record { append = head_len-append; local = head_len-local; within = head_len-within }

pub line_search : IsSearch line_len
line_search = record { append = line_len-append; local = line_len-local; within = line_len-within }

pub trailer_search : IsSearch trailer_len
trailer_search = record { append = trailer_len-append; local = trailer_len-local; within = trailer_len-within }

both_long : (b c : Bool) → ((if b then too_long else unfinished) ≡ unfinished → ⊥) → (b ≡ true → c ≡ true)
    → (if c then too_long else unfinished) ≡ (if b then too_long else unfinished)
both_long true c known on = rw (on refl) refl
both_long false c known on = absurd (known refl)

late_end : (b c : Bool) (text : Front) → ((if b then too_long else unfinished) ≡ unfinished → ⊥) → (b ≡ true → c ≡ false)
    → (if c then text else too_long) ≡ (if b then too_long else unfinished)
late_end true c text known on = rw (on refl) refl
late_end false c text known on = absurd (known refl)

still_long : (m a b : ℕ) → nat_le m a ≡ true → nat_le m (a + b) ≡ true
still_long m a b h = grind (arith, nat_tests)

beyond : (n l : ℕ) → (n ≤ l → ⊥) → l < n
beyond n l h = omega arith

past_limit : (m l n : ℕ) → l < n → nat_le m l ≡ true → nat_le n m ≡ false
past_limit m l n far h = grind (arith, nat_tests)

stays : (len : List ℕ → Option ℕ) → IsSearch len → (limit : ℕ) (bytes rest : List ℕ) (o p : Option ℕ) → len bytes ≡ o → len (bytes ++ rest) ≡ p
    → (front_at limit bytes o ≡ unfinished → ⊥) → front_at limit (bytes ++ rest) p ≡ front_at limit bytes o
stays len s limit bytes rest (Some n) p e f known =
    ap (front_at limit (bytes ++ rest)) (sym f ∙ s.append bytes rest n e)
    ∙ (let inside = s.within bytes n e in ap (λ (l : List ℕ). if nat_le n limit then found l else too_long) (take-append-le n bytes rest inside))
stays len s limit bytes rest None None e f known =
    both_long (nat_le limit (length bytes)) (nat_le limit (length (bytes ++ rest))) known
    (λ h. rw length-append (still_long limit (length bytes) (length rest) h))
stays len s limit bytes rest None (Some n) e f known =
    let far = beyond n (length bytes) (λ h. let g = s.local bytes rest n f h in cc) in
    late_end (nat_le limit (length bytes)) (nat_le n limit) (found (take n (bytes ++ rest))) known
    (λ h. past_limit limit (length bytes) n far h)

searched : (len : List ℕ → Option ℕ) → IsSearch len → (limit : ℕ) (bytes rest : List ℕ)
    → (front_at limit bytes (len bytes) ≡ unfinished → ⊥) → front_at limit (bytes ++ rest) (len (bytes ++ rest)) ≡ front_at limit bytes (len bytes)
searched len s limit bytes rest known = stays len s limit bytes rest (len bytes) (len (bytes ++ rest)) refl refl known

le_of : (n l : ℕ) → nat_le n l ≡ true → n ≤ l
le_of n l h = grind (arith, nat_tests)

first_at : (n : ℕ) (bytes rest : List ℕ) (b c : Bool) → nat_le n (length bytes) ≡ b → nat_le n (length (bytes ++ rest)) ≡ c
    → ((if b then found (take n bytes) else unfinished) ≡ unfinished → ⊥)
    → (if c then found (take n (bytes ++ rest)) else unfinished) ≡ (if b then found (take n bytes) else unfinished)
first_at n bytes rest false c e f known = absurd (known refl)
first_at n bytes rest true c e f known =
    let long : nat_le n (length (bytes ++ rest)) ≡ true = rw length-append (still_long n (length bytes) (length rest) e) in
    let yes : c ≡ true = sym f ∙ long in
    rw yes (let inside = le_of n (length bytes) e in ap found (take-append-le n bytes rest inside))

pub first-append : (n : ℕ) (bytes rest : List ℕ) → (first n bytes ≡ unfinished → ⊥) → first n (bytes ++ rest) ≡ first n bytes
first-append n bytes rest known = first_at n bytes rest (nat_le n (length bytes)) (nat_le n (length (bytes ++ rest))) refl refl known

pub front-append : (limits : Limits) (place : Place) (bytes rest : List ℕ) → (front limits place bytes ≡ unfinished → ⊥)
    → front limits place (bytes ++ rest) ≡ front limits place bytes
front-append limits Start bytes rest known = searched head_len head_search limits.max_head bytes rest known
front-append limits (Counted n) bytes rest known = first-append (min n limits.block) bytes rest known
front-append limits (SizeLine sum) bytes rest known = searched line_len line_search size_line_limit bytes rest known
front-append limits (Chunk left sum) bytes rest known = first-append (min left limits.block) bytes rest known
front-append limits (ChunkEnd sum) bytes rest known = first-append 2 bytes rest known
front-append limits Trailers bytes rest known = searched trailer_len trailer_search limits.max_head bytes rest known
front-append limits BodyEnd bytes rest known = refl
front-append limits HandshakeEnd bytes rest known = refl
front-append limits Upgraded bytes rest known = absurd (known refl)
front-append limits (Stopped refusal) bytes rest known = absurd (known refl)

pub bound_of : (len : List ℕ → Option ℕ) → IsSearch len → (bytes : List ℕ) (o : Option ℕ) → o ≡ len bytes → IfSome o (λ n. n ≤ length bytes)
bound_of len s bytes None e = tt
bound_of len s bytes (Some n) e = s.within bytes n (sym e)
