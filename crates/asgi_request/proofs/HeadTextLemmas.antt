-- The search for the end of a head finds each text that ends as a head does, and nothing else.
use Rattle.std.proofs.Common.{◌≡◌, ℕ, suc, ◌+◌, ◌<◌, ◌≤◌, Bool, true, false, List, [], ◌∷◌, ◌++◌, length, take, refl, sym, ap, ◌∙◌, append_assoc, arith, Option, Some, None, All, subst, IsTrue}
use Rattle.std.specs.Prelude.{◌==◌, ◌&&◌, nat_lt, if◌then◌else◌}
use Rattle.std.proofs.lemmas.Bool.Decides.{nat_tests}
use Rattle.std.proofs.lemmas.List.{length-append}
use Rattle.std.proofs.lemmas.List.Elements.{All-nil, All-cons, All-head, All-tail}
use Rattle.httparse.specs.Grammar.{LineEnd, crlf, lf, print_end}
use Rattle.asgi_request.specs.HeadText.{is_line_break, EndsAsHead}
use Rattle.asgi_request.specs.Fronts.{empty_line_len, more, lines_len, head_len}

-- ---- what a `more` was made of

more-some : (k : ℕ) (o : Option ℕ) (n : ℕ) → more k o ≡ Some n → (m : ℕ) × (o ≡ Some m) × (n ≡ k + m)
more-some k None n e = cc
more-some k (Some m) n e = (m, refl, cc)

-- ---- each text that ends as a head does is found

empty_line_len-bound : (s : List ℕ) → empty_line_len s ≤ 2
empty_line_len-bound [] = omega arith
empty_line_len-bound (a ∷ []) = grind (arith, nat_tests)
empty_line_len-bound (a ∷ b ∷ s) = short (a == 10) (a == 13 && b == 10)
  where
    short : (x y : Bool) → (if x then 1 else (if y then 2 else 0)) ≤ 2
    short true y = omega arith
    short false true = omega arith
    short false false = omega arith

-- a length was found, and it is at most k
unfoldable pub Finds : Option ℕ → ℕ → Type 0
Finds o k = (m : ℕ) × (o ≡ Some m) × (m ≤ k)

Finds-more : (o : Option ℕ) (k : ℕ) → Finds o k → Finds (more 1 o) (1 + k)
unfolding Finds
Finds-more o k (m, e, below) = (1 + m, ap (more 1) e, omega (arith, below))

ends_at_once : (last : LineEnd) (rest : List ℕ) → Finds (lines_len (10 ∷ (print_end last ++ rest))) (1 + length (print_end last))
unfolding Finds
ends_at_once crlf rest = (3, refl, omega arith)
ends_at_once lf [] = (2, refl, omega arith)
ends_at_once lf (b ∷ rest) = (2, refl, omega arith)

lines_len-cons : (x : Bool) (k : ℕ) (o : Option ℕ) (n : ℕ) → k ≤ 2 → 2 ≤ n → Finds o n → Finds (if x then Some (1 + k) else more 1 o) (1 + n)
unfolding Finds
lines_len-cons true k o n small long found = (1 + k, refl, omega arith)
lines_len-cons false k o n small long found = Finds-more o n found

print_end-long : (last : LineEnd) → 1 ≤ length (print_end last)
print_end-long crlf = omega arith
print_end-long lf = omega arith

pub lines_found : (lines : List ℕ) (last : LineEnd) (rest : List ℕ)
    → Finds (lines_len (lines ++ (10 ∷ (print_end last ++ rest)))) (length lines + (1 + length (print_end last)))
lines_found [] last rest =
    subst (λ k. Finds (lines_len (10 ∷ (print_end last ++ rest))) k) (omega arith) (ends_at_once last rest)
lines_found (b ∷ lines) last rest =
    let s = lines ++ (10 ∷ (print_end last ++ rest)) in
    let size : 1 + (length lines + (1 + length (print_end last))) ≡ length (b ∷ lines) + (1 + length (print_end last)) = omega arith in
    subst (λ k. Finds (lines_len (b ∷ s)) k) size
    (lines_len-cons (b == 10 && nat_lt 0 (empty_line_len s)) (empty_line_len s) (lines_len s) (length lines + (1 + length (print_end last)))
    (empty_line_len-bound s) (omega (arith, print_end-long last)) (lines_found lines last rest))

head_found : (blank : List ℕ) (first : ℕ) (lines : List ℕ) (last : LineEnd) (rest : List ℕ)
    → All (λ b. IsTrue (is_line_break b)) blank → is_line_break first ≡ false
    → Finds (head_len (blank ++ (first ∷ (lines ++ (10 ∷ (print_end last ++ rest)))))) (length blank + (1 + (length lines + (1 + length (print_end last)))))
head_found [] first lines last rest all e =
    let s = lines ++ (10 ∷ (print_end last ++ rest)) in
    let k = length lines + (1 + length (print_end last)) in
    let on : Finds (more 1 (lines_len s)) (1 + k) = Finds-more (lines_len s) k (lines_found lines last rest) in
    let there : more 1 (if is_line_break first then head_len s else lines_len s) ≡ more 1 (lines_len s) =
    ap (λ (x : Bool). more 1 (if x then head_len s else lines_len s)) e in
    let size : 1 + k ≡ 0 + (1 + k) = omega arith in
    subst (λ n. Finds (head_len (first ∷ s)) n) size (subst (λ (o : Option ℕ). Finds o (1 + k)) (sym there) on)
head_found (b ∷ blank) first lines last rest all e =
    let s = blank ++ (first ∷ (lines ++ (10 ∷ (print_end last ++ rest)))) in
    let k = length blank + (1 + (length lines + (1 + length (print_end last)))) in
    let on : Finds (more 1 (head_len s)) (1 + k) =
    Finds-more (head_len s) k (head_found blank first lines last rest (All-tail (λ b. IsTrue (is_line_break b)) b blank all) e) in
    let there : more 1 (if is_line_break b then head_len s else lines_len s) ≡ more 1 (head_len s) =
    ap (λ (x : Bool). more 1 (if x then head_len s else lines_len s)) (All-head (λ b. IsTrue (is_line_break b)) b blank all) in
    let size : 1 + k ≡ length (b ∷ blank) + (1 + (length lines + (1 + length (print_end last)))) = omega arith in
    subst (λ n. Finds (head_len (b ∷ s)) n) size (subst (λ (o : Option ℕ). Finds o (1 + k)) (sym there) on)

-- if a text that the bytes begin with ends as a head does, a length is found, and it is at most the text's
pub text_found : (text rest : List ℕ) → EndsAsHead text → Finds (head_len (text ++ rest)) (length text)
text_found text rest h =
    let found = head_found h.blank h.first h.lines h.last rest h.only_breaks h.no_break in
    let at : h.blank ++ (h.first ∷ (h.lines ++ (10 ∷ (print_end h.last ++ rest)))) ≡ text ++ rest =
    regroup h.blank h.first h.lines (print_end h.last) rest ∙ ap (λ (l : List ℕ). l ++ rest) (sym h.text_is) in
    let size : length h.blank + (1 + (length h.lines + (1 + length (print_end h.last)))) ≡ length text =
    sizes h.blank h.first h.lines (print_end h.last) ∙ ap length (sym h.text_is) in
    subst (λ n. Finds (head_len (text ++ rest)) n) size
    (subst (λ (l : List ℕ). Finds (head_len l) (length h.blank + (1 + (length h.lines + (1 + length (print_end h.last)))))) at found)
  where
    regroup : (a : List ℕ) (b : ℕ) (c d r : List ℕ) → a ++ (b ∷ (c ++ (10 ∷ (d ++ r)))) ≡ (a ++ b ∷ c ++ 10 ∷ d) ++ r
    regroup a b c d r = sym (append_assoc (a ++ b ∷ c) (10 ∷ d) r ∙ append_assoc a (b ∷ c) (10 ∷ (d ++ r)))

    sizes : (a : List ℕ) (b : ℕ) (c d : List ℕ) → length a + (1 + (length c + (1 + length d))) ≡ length (a ++ b ∷ c ++ 10 ∷ d)
    sizes a b c d = simp length-append (omega arith)

-- ---- what was found ends as a head does

-- the first n of the bytes are there, and end an empty line after a line feed
pub record EndsLines (s : List ℕ) (n : ℕ) : Type 0 where
  pub lines : List ℕ
  pub last : LineEnd
  pub inside : n ≤ length s
  pub text_is : take n s ≡ lines ++ 10 ∷ print_end last

ten : (b : ℕ) → (b == 10) ≡ true → b ≡ 10
ten b e = grind (arith, nat_tests)

thirteen : (b : ℕ) → (b == 13) ≡ true → b ≡ 13
thirteen b e = grind (arith, nat_tests)

both : (x y : Bool) → (x && y) ≡ true → (x ≡ true) × (y ≡ true)
both true y e = (refl, e)
both false y e = cc

empty_line_is : (s : List ℕ) → 0 < empty_line_len s
    → (last : LineEnd) × (empty_line_len s ≤ length s) × (take (empty_line_len s) s ≡ print_end last)
empty_line_is [] h = absurd (omega (arith, h))
empty_line_is (a ∷ []) h = at (a == 10) refl h
  where
    at : (x : Bool) → (a == 10) ≡ x → 0 < (if x then 1 else 0)
        → (last : LineEnd) × ((if x then 1 else 0) ≤ 1) × (take (if x then 1 else 0) (a ∷ []) ≡ print_end last)
    at true e h = (lf, omega arith, ap (λ b. b ∷ []) (ten a e))
    at false e h = absurd (omega (arith, h))
empty_line_is (a ∷ b ∷ s) h = at (a == 10) (a == 13 && b == 10) refl refl h
  where
    at : (x y : Bool) → (a == 10) ≡ x → (a == 13 && b == 10) ≡ y → 0 < (if x then 1 else (if y then 2 else 0))
        → (last : LineEnd) × ((if x then 1 else (if y then 2 else 0)) ≤ length (a ∷ b ∷ s))
        × (take (if x then 1 else (if y then 2 else 0)) (a ∷ b ∷ s) ≡ print_end last)
    at true y e f h = (lf, omega arith, ap (λ b. b ∷ []) (ten a e))
    at false true e f h =
        let parts = both (a == 13) (b == 10) f in
        let first = thirteen a parts.0 in
        let second = ten b parts.1 in
        (crlf, omega arith, cc (first, second))
    at false false e f h = absurd (omega (arith, h))

pos : (k : ℕ) → nat_lt 0 k ≡ true → 0 < k
pos k e = grind (arith, nat_tests)

one-plus : (k : ℕ) → 1 + k ≡ suc k
one-plus k = omega arith

cons2 : (a c : ℕ) (x y : List ℕ) → a ≡ c → x ≡ y → a ∷ x ≡ c ∷ y
cons2 a c x y e f = cc

lines_at_once : (b : ℕ) (s : List ℕ) (n : ℕ) → (b == 10 && nat_lt 0 (empty_line_len s)) ≡ true → 1 + empty_line_len s ≡ n → EndsLines (b ∷ s) n
lines_at_once b s n t size =
    let parts = both (b == 10) (nat_lt 0 (empty_line_len s)) t in
    let is = empty_line_is s (pos (empty_line_len s) parts.1) in
    record {
      lines = [];
      last = is.0;
      inside = omega (arith, size, is.1);
      text_is = ap (λ k. take k (b ∷ s)) (sym size ∙ one-plus (empty_line_len s)) ∙ cons2 b 10 (take (empty_line_len s) s) (print_end is.0) (ten b parts.0) is.2;
    }

lines_later : (b : ℕ) (s : List ℕ) (n m : ℕ) → n ≡ 1 + m → EndsLines s m → EndsLines (b ∷ s) n
lines_later b s n m size on = record {
  lines = b ∷ on.lines;
  last = on.last;
  inside = omega (arith, size, on.inside);
  text_is = ap (λ k. take k (b ∷ s)) (size ∙ one-plus m) ∙ ap (λ (l : List ℕ). b ∷ l) on.text_is;
}

lines_by : (b : ℕ) (s : List ℕ) (n : ℕ) (x : Bool) → (b == 10 && nat_lt 0 (empty_line_len s)) ≡ x
    → (if x then Some (1 + empty_line_len s) else more 1 (lines_len s)) ≡ Some n
    → ((m : ℕ) → lines_len s ≡ Some m → EndsLines s m) → EndsLines (b ∷ s) n
lines_by b s n true t f on = lines_at_once b s n t (cc)
lines_by b s n false t f on = let m = more-some 1 (lines_len s) n f in lines_later b s n m.0 m.2 (on m.0 m.1)

pub lines_sound : (s : List ℕ) (n : ℕ) → lines_len s ≡ Some n → EndsLines s n
lines_sound [] n e = cc
lines_sound (b ∷ s) n e = lines_by b s n (b == 10 && nat_lt 0 (empty_line_len s)) refl e (λ m f. lines_sound s m f)

-- the bytes are at least this long, and up to this length end as a head does
pub record Ends (bytes : List ℕ) (n : ℕ) : Type 0 where
  pub inside : n ≤ length bytes
  pub ends : EndsAsHead (take n bytes)

head_later : (b : ℕ) (s : List ℕ) (n m : ℕ) → is_line_break b ≡ true → n ≡ 1 + m → Ends s m → Ends (b ∷ s) n
head_later b s n m t size on = record {
  inside = omega (arith, size, on.inside);
  ends = record {
    blank = b ∷ on.ends.blank;
    first = on.ends.first;
    lines = on.ends.lines;
    last = on.ends.last;
    only_breaks = All-cons (λ b. IsTrue (is_line_break b)) b on.ends.blank t on.ends.only_breaks;
    no_break = on.ends.no_break;
    text_is = ap (λ k. take k (b ∷ s)) (size ∙ one-plus m) ∙ ap (λ (l : List ℕ). b ∷ l) on.ends.text_is;
  };
}

head_begins : (b : ℕ) (s : List ℕ) (n m : ℕ) → is_line_break b ≡ false → n ≡ 1 + m → EndsLines s m → Ends (b ∷ s) n
head_begins b s n m t size on = record {
  inside = omega (arith, size, on.inside);
  ends = record {
    blank = [];
    first = b;
    lines = on.lines;
    last = on.last;
    only_breaks = All-nil (λ b. IsTrue (is_line_break b));
    no_break = t;
    text_is = ap (λ k. take k (b ∷ s)) (size ∙ one-plus m) ∙ ap (λ (l : List ℕ). b ∷ l) on.text_is;
  };
}

head_by : (b : ℕ) (s : List ℕ) (n : ℕ) (x : Bool) → is_line_break b ≡ x → more 1 (if x then head_len s else lines_len s) ≡ Some n
    → ((m : ℕ) → head_len s ≡ Some m → Ends s m) → Ends (b ∷ s) n
head_by b s n true t f on = let m = more-some 1 (head_len s) n f in head_later b s n m.0 t m.2 (on m.0 m.1)
head_by b s n false t f on = let m = more-some 1 (lines_len s) n f in head_begins b s n m.0 t m.2 (lines_sound s m.0 m.1)

pub head_sound : (s : List ℕ) (n : ℕ) → head_len s ≡ Some n → Ends s n
head_sound [] n e = cc
head_sound (b ∷ s) n e = head_by b s n (is_line_break b) refl e (λ m f. head_sound s m f)
