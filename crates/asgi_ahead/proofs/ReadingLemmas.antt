-- What is left of a stream of which is read ahead.
use Rattle.std.proofs.Common.{◌≡◌, ℕ, ◌+◌, ◌-◌, ◌≤◌, List, [], ◌++◌, Option, None, Some, Result, Ok, Err, length, take, drop, slice_range, sym, ap, ◌∙◌, arith, drop-drop}
use Rattle.std.proofs.lemmas.List.{drop-take, length-take, length-drop}
use Rattle.std.proofs.Math.Seq.{take-append_seam}
use Rattle.std.proofs.KnownBytes.{prepend_known-nil, prepend_known-read, Keeps-refl}
use Rattle.std.specs.Io.KnownBytes.{Consumes, Keeps, IsAtEnd, ReadConsumes, prepend_known}
use Rattle.asgi_ahead.specs.Reading.{left}

slice_advance : (xs : List ℕ) (a e n : ℕ) → n ≤ e - a → slice_range xs (a + n) e ≡ drop n (slice_range xs a e)
slice_advance xs a e n few =
    let whole : n + (e - (a + n)) ≡ e - a = omega (arith, few) in
    ap (take (e - (a + n))) (sym (drop-drop n a xs)) ∙ sym (drop-take n (e - (a + n)) (drop a xs)) ∙ ap (λ k. drop n (take k (drop a xs))) whole

slice_nothing : (xs : List ℕ) (a e : ℕ) → a ≡ e → slice_range xs a e ≡ []
slice_nothing xs a e same = ap (λ n. take n (drop a xs)) {y = 0} (omega (arith, same))

-- nothing is held where what is held has no length
pub ends_meet : (xs : List ℕ) (a e : ℕ) → length (slice_range xs a e) ≡ 0 → a ≤ e → e ≤ length xs → a ≡ e
ends_meet xs a e none ordered within = omega (arith, none, ordered, within, length-take (e - a) (drop a xs), length-drop a xs)

-- what stands at the front of a buffer that was written over
pub written_front : (new rest : List ℕ) (len n : ℕ) → len ≡ length new → slice_range (take len (new ++ rest)) 0 n ≡ take n new
written_front new rest len n all =
    ap (λ k. take k (take len (new ++ rest))) {y = n} (omega arith) ∙ ap (take n) (ap (λ k. take k (new ++ rest)) all ∙ take-append_seam new rest)

pub left_nothing : (xs : List ℕ) (a e : ℕ) (known : Option (List ℕ)) → a ≡ e → left xs a e known ≡ known
left_nothing xs a e known same = rw (slice_nothing xs a e same) (prepend_known-nil known)

-- what was given is the front of what was held
pub given : {P : Type 0} (xs out : List ℕ) (a e n : ℕ) (known : Option (List ℕ)) → slice_range xs a e ≡ take n out ++ drop n (slice_range xs a e) → n ≤ e - a
    → (P → (a + n ≡ e) × IsAtEnd known) → Consumes (left xs a e known) (left xs (a + n) e known) (take n out) × (P → IsAtEnd (left xs (a + n) e known))
given {P} xs out a e n known split few end =
    prepend_known-read _ _ _ _ (take n out) P (Keeps-refl _) (split ∙ ap (λ l. take n out ++ l) (sym (slice_advance xs a e n few)))
    (λ p. (slice_nothing xs (a + n) e (end p).0, (end p).1))

-- what was read and is held is what will be given next
pub held : (before after : Option (List ℕ)) (bs : List ℕ) → Consumes before after bs → Keeps before (prepend_known bs after)
held None after bs p = tt
held (Some x) None bs p = absurd p
held (Some x) (Some y) bs p = sym p

pub after_keeping : {E : Type 0} (a b c : Option (List ℕ)) (r : Result ℕ E) (buf : List ℕ) → Keeps a b → ReadConsumes b c r buf → ReadConsumes a c r buf
after_keeping None b c (Ok n) buf kept read = (tt, read.1)
after_keeping None b c (Err e) buf kept read = tt
after_keeping (Some x) None c r buf kept read = absurd kept
after_keeping (Some x) (Some y) c r buf kept read = rw (sym kept) read
