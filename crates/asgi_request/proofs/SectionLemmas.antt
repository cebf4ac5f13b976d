-- A trailer section of the grammar ends where its text does.
use Rattle.std.proofs.Common.{◌≡◌, ℕ, suc, ◌+◌, ◌<◌, ◌≤◌, Bool, true, false, List, [], ◌∷◌, ◌++◌, length, take, refl, sym, ap, ◌∙◌, append_assoc, arith, Option, Some, None, All, flat_map}
use Rattle.std.specs.Prelude.{nat_le, nat_lt, ◌==◌, ◌&&◌, ◌-◌, if◌then◌else◌}
use Rattle.std.specs.Option.{option_map}
use Rattle.std.proofs.lemmas.Bool.Decides.{nat_tests}
use Rattle.std.proofs.lemmas.List.{take-append-le, length-append}
use Rattle.std.proofs.lemmas.List.Elements.{All-head, All-tail}
use Rattle.std.proofs.Math.Seq.{take-length}
use Rattle.httparse.specs.Grammar.{AllPass, is_token_byte, is_value_byte, LineEnd, crlf, lf, print_end, Field, IsField, print_field, print_section}
use Rattle.asgi_types.specs.declared.limits.Limits.{Limits}
use Rattle.asgi_request.specs.declared.place.Place.TheVariants.{Trailers}
use Rattle.asgi_request.specs.Fronts.{found, too_long, more, empty_line_len, lines_len, trailer_len, front_at}
use Rattle.asgi_request.specs.Places.{front}
use Rattle.httparse.proofs.GrammarLemmas.{cons-append}
use Rattle.asgi_request.proofs.SearchLemmas.{more-zero}
use Rattle.asgi_request.proofs.SizeLemmas.{NoFeed, join, passes}

-- ---- bytes without a line feed are passed over

on_byte : (t : Bool) (k : ℕ) (o : Option ℕ) → t ≡ false → (if t && nat_lt 0 k then Some (1 + k) else o) ≡ o
on_byte true k o e = cc
on_byte false k o e = refl

skip : (s t : List ℕ) → NoFeed s → lines_len (s ++ t) ≡ more (length s) (lines_len t)
skip [] t n = sym (more-zero (lines_len t))
skip (b ∷ s) t n =
    on_byte (b == 10) (empty_line_len (s ++ t)) (more 1 (lines_len (s ++ t))) n.0 ∙ ap (more 1) (skip s t n.1) ∙ twice (length s) (lines_len t)
  where
    twice : (k : ℕ) (o : Option ℕ) → more 1 (more k o) ≡ more (suc k) o
    twice k None = refl
    twice k (Some m) = ap Some (omega arith)

token_on : (b : ℕ) → is_token_byte b ≡ true → ((b == 10) ≡ false) × ((b == 13) ≡ false)
unfolding is_token_byte
token_on b h = grind (arith, nat_tests)

value_on : (b : ℕ) → is_value_byte b ≡ true → (b == 10) ≡ false
value_on b h = grind (arith, nat_tests)

-- ---- a line feed before a field, and before the empty line

no_break : (b : ℕ) (s : List ℕ) → (b == 10) ≡ false → (b == 13) ≡ false → empty_line_len (b ∷ s) ≡ 0
no_break b [] e f = rw e refl
no_break b (c ∷ s) e f = rw (e, f) refl

feed_before : (b : ℕ) (s : List ℕ) → (b == 10) ≡ false → (b == 13) ≡ false → lines_len (10 ∷ b ∷ s) ≡ more 1 (lines_len (b ∷ s))
feed_before b s e f = rw (no_break b s e f) refl

feed_name : (name s : List ℕ) → 0 < length name → AllPass is_token_byte name → lines_len (10 ∷ (name ++ s)) ≡ more 1 (lines_len (name ++ s))
feed_name [] s h all = absurd (omega (arith, h))
feed_name (b ∷ name) s h all =
    let t = token_on b (All-head (λ v. is_token_byte v ≡ true) b name all) in
    feed_before b (name ++ s) t.0 t.1

last_line : (end : LineEnd) (rest : List ℕ) → lines_len (10 ∷ (print_end end ++ rest)) ≡ Some (1 + length (print_end end))
last_line crlf rest = refl
last_line lf [] = refl
last_line lf (b ∷ rest) = refl

-- the bytes of a line end before its line feed
before_feed : LineEnd → List ℕ
before_feed crlf = 13 ∷ []
before_feed lf = []

end_splits : (end : LineEnd) (rest : List ℕ) → print_end end ++ rest ≡ before_feed end ++ 10 ∷ rest
unfolding before_feed
end_splits crlf rest = refl
end_splits lf rest = refl

end_no_feed : (end : LineEnd) → NoFeed (before_feed end)
unfolding before_feed
end_no_feed crlf = (refl, tt)
end_no_feed lf = tt

end_length : (end : LineEnd) → length (print_end end) ≡ length (before_feed end) + 1
unfolding before_feed
end_length crlf = refl
end_length lf = refl

-- a field line but its line feed
field_front : Field → List ℕ
field_front f = f.name ++ (58 ∷ (f.raw ++ before_feed f.end))

field_splits : (f : Field) (rest : List ℕ) → print_field f ++ rest ≡ field_front f ++ 10 ∷ rest
unfolding field_front
field_splits f rest =
    left f.name f.raw (print_end f.end) rest ∙ ap (λ (l : List ℕ). f.name ++ (58 ∷ (f.raw ++ l))) (end_splits f.end rest) ∙ sym (right f.name f.raw (before_feed f.end) (10 ∷ rest))
  where
    right : (a b c r : List ℕ) → (a ++ (58 ∷ (b ++ c))) ++ r ≡ a ++ (58 ∷ (b ++ (c ++ r)))
    right a b c r = append_assoc a (58 ∷ (b ++ c)) r ∙ ap (λ (l : List ℕ). a ++ (58 ∷ l)) (append_assoc b c r)

    left : (a b c r : List ℕ) → (a ++ 58 ∷ b ++ c) ++ r ≡ a ++ (58 ∷ (b ++ (c ++ r)))
    left a b c r = simp (append_assoc, cons-append)

field_length : (f : Field) → length (print_field f) ≡ length (field_front f) + 1
unfolding field_front
field_length f = simp length-append (omega (arith, end_length f.end))

field_no_feed : (f : Field) → IsField f → NoFeed (field_front f)
unfolding field_front
field_no_feed f v =
    join f.name _ (passes is_token_byte (λ b h. (token_on b h).0) f.name v.name.1)
    (refl, join f.raw (before_feed f.end) (passes is_value_byte value_on f.raw v.raw) (end_no_feed f.end))

field_first : (f : Field) (s : List ℕ) → IsField f → lines_len (10 ∷ (field_front f ++ s)) ≡ more 1 (lines_len (field_front f ++ s))
unfolding field_front
field_first f s v =
    let split = append_assoc f.name (58 ∷ (f.raw ++ before_feed f.end)) s in
    ap (λ (l : List ℕ). lines_len (10 ∷ l)) split ∙ feed_name f.name _ v.name.0 v.name.1 ∙ ap (λ (l : List ℕ). more 1 (lines_len l)) (sym split)

adds : (a b : ℕ) (o : Option ℕ) (n : ℕ) → o ≡ Some n → more 1 (more a o) ≡ Some (1 + (a + n))
adds a b o n e = ap (λ (x : Option ℕ). more 1 (more a x)) e

section_at : (fields : List Field) (last : LineEnd) (rest : List ℕ) → All IsField fields
    → lines_len (10 ∷ (print_section fields last ++ rest)) ≡ Some (1 + length (print_section fields last))
section_at [] last rest all = last_line last rest
section_at (f ∷ fields) last rest all =
    let v = All-head IsField f fields all in
    let on = section_at fields last rest (All-tail IsField f fields all) in
    let tail = print_section fields last in
    let split : print_section (f ∷ fields) last ++ rest ≡ field_front f ++ 10 ∷ (tail ++ rest) =
    ap (λ (l : List ℕ). l ++ rest) (append_assoc (print_field f) (flat_map print_field fields) (print_end last))
    ∙ append_assoc (print_field f) tail rest ∙ field_splits f (tail ++ rest) in
    let size : length (print_section (f ∷ fields) last) ≡ length (field_front f) + 1 + length tail =
    ap length (append_assoc (print_field f) (flat_map print_field fields) (print_end last)) ∙ length-append (print_field f) tail ∙ ap (λ k. k + length tail) (field_length f) in
    ap (λ (l : List ℕ). lines_len (10 ∷ l)) split ∙ field_first f (10 ∷ (tail ++ rest)) v
    ∙ ap (more 1) (skip (field_front f) (10 ∷ (tail ++ rest)) (field_no_feed f v))
    ∙ adds (length (field_front f)) 0 (lines_len (10 ∷ (tail ++ rest))) (1 + length tail) on ∙ ap Some (omega (arith, size))

section_found_at : (limit : ℕ) (text rest : List ℕ) → trailer_len (text ++ rest) ≡ Some (length text) → length text ≤ limit
    → front_at limit (text ++ rest) (trailer_len (text ++ rest)) ≡ found text
section_found_at limit text rest at short =
    ap (front_at limit (text ++ rest)) at ∙ fits (nat_le (length text) limit) (within (length text) limit short)
    ∙ ap found (take-append-le (length text) text rest (omega arith) ∙ take-length text)
  where
    within : (n m : ℕ) → n ≤ m → nat_le n m ≡ true
    within n m h = grind (arith, nat_tests)

    fits : (b : Bool) → b ≡ true → (if b then found (take (length text) (text ++ rest)) else too_long) ≡ found (take (length text) (text ++ rest))
    fits true h = refl
    fits false h = cc

pub trailer_front : (limits : Limits) (fields : List Field) (last : LineEnd) (rest : List ℕ) → All IsField fields
    → length (print_section fields last) ≤ limits.max_head → front limits Trailers (print_section fields last ++ rest) ≡ found (print_section fields last)
trailer_front limits fields last rest all short =
    let whole = section_at fields last rest all in
    let at : trailer_len (print_section fields last ++ rest) ≡ Some (length (print_section fields last)) =
    ap (option_map (λ n. n - 1)) whole ∙ ap Some (omega arith) in
    section_found_at limits.max_head (print_section fields last) rest at short
