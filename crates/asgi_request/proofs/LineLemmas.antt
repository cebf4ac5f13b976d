-- The searches for the end of a line and of a trailer section.
use Rattle.std.proofs.Common.{◌≡◌, ℕ, zero, suc, ◌+◌, ◌-◌, ◌≤◌, ◌⊎◌, Bool, true, false, List, [], ◌∷◌, ◌++◌, length, take, refl, sym, ap, ◌∙◌, append_assoc, arith, Option, Some, None, subst, inl, inr}
use Rattle.std.specs.Prelude.{◌==◌, if◌then◌else◌}
use Rattle.std.specs.Option.{option_map}
use Rattle.std.proofs.lemmas.Bool.Decides.{nat_tests}
use Rattle.std.proofs.lemmas.List.{length-append}
use Rattle.httparse.specs.Grammar.{LineEnd, print_end}
use Rattle.asgi_request.specs.ChunkedBody.{EndsAsLine, EndsAsSection}
use Rattle.asgi_request.specs.Fronts.{more, line_len, lines_len, trailer_len}
use Rattle.asgi_request.proofs.HeadTextLemmas.{Finds, lines_sound, lines_found}
use Rattle.asgi_request.proofs.TextLemmas.{IsSearchFor}

-- ---- lines

more-some : (o : Option ℕ) (n : ℕ) → more 1 o ≡ Some n → (m : ℕ) × (o ≡ Some m) × (n ≡ 1 + m)
more-some None n e = cc
more-some (Some m) n e = (m, refl, cc)

ten : (b : ℕ) → (b == 10) ≡ true → b ≡ 10
ten b e = grind (arith, nat_tests)

one-plus : (k : ℕ) → 1 + k ≡ suc k
one-plus k = omega arith

abbrev EndsLine : List ℕ → ℕ → Type 0
EndsLine s n = (n ≤ length s) × EndsAsLine (take n s)

line_at_once : (b : ℕ) (s : List ℕ) (n : ℕ) → (b == 10) ≡ true → 1 ≡ n → EndsLine (b ∷ s) n
line_at_once b s n t e =
    subst (EndsLine (b ∷ s)) e (omega arith, ([], ap (λ (x : ℕ). x ∷ []) (ten b t)))

line_later : (b : ℕ) (s : List ℕ) (n m : ℕ) → n ≡ 1 + m → EndsLine s m → EndsLine (b ∷ s) n
line_later b s n m size on = (
  omega (arith, size, on.0),
  (b ∷ on.1.0, ap (λ k. take k (b ∷ s)) (size ∙ one-plus m) ∙ ap (λ (l : List ℕ). b ∷ l) on.1.1),
)

line_by : (b : ℕ) (s : List ℕ) (n : ℕ) (x : Bool) → (b == 10) ≡ x → (if x then Some 1 else more 1 (line_len s)) ≡ Some n
    → ((m : ℕ) → line_len s ≡ Some m → EndsLine s m) → EndsLine (b ∷ s) n
line_by b s n true t f on = line_at_once b s n t (cc)
line_by b s n false t f on = let m = more-some (line_len s) n f in line_later b s n m.0 m.2 (on m.0 m.1)

line_sound : (s : List ℕ) (n : ℕ) → line_len s ≡ Some n → EndsLine s n
line_sound [] n e = cc
line_sound (b ∷ s) n e = line_by b s n (b == 10) refl e (λ m f. line_sound s m f)

abbrev FindsLine : Option ℕ → ℕ → Type 0
FindsLine o k = (m : ℕ) × (o ≡ Some m) × (m ≤ k)

line_cons : (x : Bool) (o : Option ℕ) (k : ℕ) → FindsLine o k → FindsLine (if x then Some 1 else more 1 o) (1 + k)
line_cons true o k f = (1, refl, omega arith)
line_cons false o k f = (1 + f.0, ap (more 1) f.1, omega (arith, f.2))

line_found_in : (front rest : List ℕ) → FindsLine (line_len (front ++ 10 ∷ rest)) (length front + 1)
line_found_in [] rest = (1, refl, omega arith)
line_found_in (b ∷ front) rest =
    subst (FindsLine (line_len (b ∷ (front ++ 10 ∷ rest)))) (omega arith)
    (line_cons (b == 10) (line_len (front ++ 10 ∷ rest)) (length front + 1) (line_found_in front rest))

line_finds : (text rest : List ℕ) → EndsAsLine text → FindsLine (line_len (text ++ rest)) (length text)
line_finds text rest h =
    let f = line_found_in h.0 rest in
    let at : h.0 ++ 10 ∷ rest ≡ text ++ rest = sym (append_assoc h.0 (10 ∷ []) rest) ∙ ap (λ (l : List ℕ). l ++ rest) (sym h.1) in
    let size : length h.0 + 1 ≡ length text = sym (length-append h.0 (10 ∷ [])) ∙ ap length (sym h.1) in
    subst (λ n. FindsLine (line_len (text ++ rest)) n) size (subst (λ (l : List ℕ). FindsLine (line_len l) (length h.0 + 1)) at f)

pub line_search_for : IsSearchFor EndsAsLine line_len
line_search_for = record { sound = line_sound; finds = line_finds }

-- ---- trailer sections

less-some : (o : Option ℕ) (n : ℕ) → option_map (λ m. m - 1) o ≡ Some n → (m : ℕ) × (o ≡ Some m) × (m - 1 ≡ n)
less-some None n e = cc
less-some (Some m) n e = (m, refl, cc)

-- a section with a line feed before it
section_of : (s lines : List ℕ) (n m : ℕ) (last : LineEnd) → m ≤ length (10 ∷ s) → 1 ≤ m → m - 1 ≡ n → take m (10 ∷ s) ≡ lines ++ 10 ∷ print_end last
    → (n ≤ length s) × EndsAsSection (take n s)
section_of s [] n m last inside above size e =
    let step : take m (10 ∷ s) ≡ 10 ∷ take n s = ap (λ k. take k (10 ∷ s)) (let x : m ≡ suc n = omega (arith, above, size) in x) in
    let text : take n s ≡ print_end last = same_tail 10 10 (take n s) (print_end last) (sym step ∙ e) in
    (omega (arith, inside, size), record { lines = []; last = last; closed = inl refl; text_is = text })
  where
    same_tail : (a b : ℕ) (x y : List ℕ) → a ∷ x ≡ b ∷ y → x ≡ y
    same_tail a b x y e = cc
section_of s (b ∷ lines) n m last inside above size e =
    let step : take m (10 ∷ s) ≡ 10 ∷ take n s = ap (λ k. take k (10 ∷ s)) (let x : m ≡ suc n = omega (arith, above, size) in x) in
    let text : take n s ≡ lines ++ 10 ∷ print_end last = same_tail 10 b (take n s) (lines ++ 10 ∷ print_end last) (sym step ∙ e) in
    (omega (arith, inside, size), record { lines = lines ++ 10 ∷ []; last = last; closed = inr (lines, refl); text_is = text ∙ sym (append_assoc lines (10 ∷ []) (print_end last)) })
  where
    same_tail : (a b : ℕ) (x y : List ℕ) → a ∷ x ≡ b ∷ y → x ≡ y
    same_tail a b x y e = cc

long_enough : (s lines : List ℕ) (m : ℕ) (last : LineEnd) → take m s ≡ lines ++ 10 ∷ print_end last → 1 ≤ m
long_enough s lines m last e = at m e
  where
    at : (m : ℕ) → take m s ≡ lines ++ 10 ∷ print_end last → 1 ≤ m
    at zero e = absurd (
        let size : length lines + (1 + length (print_end last)) ≡ 0 = omega (arith, ap length e, length-append lines (10 ∷ print_end last)) in omega (arith, size))
    at (suc m) e = omega arith

section_sound : (s : List ℕ) (n : ℕ) → trailer_len s ≡ Some n → (n ≤ length s) × EndsAsSection (take n s)
section_sound s n e =
    let m = less-some (lines_len (10 ∷ s)) n e in
    let there = lines_sound (10 ∷ s) m.0 m.1 in
    section_of s there.lines n m.0 there.last there.inside (long_enough (10 ∷ s) there.lines m.0 there.last there.text_is) m.2 there.text_is

section_finds : (text rest : List ℕ) → EndsAsSection text → (m : ℕ) × (trailer_len (text ++ rest) ≡ Some m) × (m ≤ length text)
unfolding Finds
section_finds text rest h = by h.lines h.closed h.text_is
  where
    less : (o : Option ℕ) (m k : ℕ) → o ≡ Some m → m ≤ 1 + k → (n : ℕ) × (option_map (λ m. m - 1) o ≡ Some n) × (n ≤ k)
    less o m k e below = (m - 1, ap (option_map (λ m. m - 1)) e, omega (arith, below))

    by : (lines : List ℕ) → (lines ≡ []) ⊎ EndsAsLine lines → text ≡ lines ++ print_end h.last
        → (m : ℕ) × (trailer_len (text ++ rest) ≡ Some m) × (m ≤ length text)
    by lines (inl none) e =
        let f = lines_found [] h.last rest in
        let is : print_end h.last ≡ text = ap (λ (l : List ℕ). l ++ print_end h.last) (sym none) ∙ sym e in
        let size : 1 + length (print_end h.last) ≡ 1 + length text = ap (λ (l : List ℕ). 1 + length l) is in
        less (lines_len (10 ∷ (text ++ rest))) f.0 (length text)
        (ap (λ (l : List ℕ). lines_len (10 ∷ (l ++ rest))) (sym is) ∙ f.1) (omega (arith, f.2, size))
    by lines (inr line) e =
        let f = lines_found (10 ∷ line.0) h.last rest in
        let is : line.0 ++ (10 ∷ print_end h.last) ≡ text =
        sym (append_assoc line.0 (10 ∷ []) (print_end h.last)) ∙ ap (λ (l : List ℕ). l ++ print_end h.last) (sym line.1) ∙ sym e in
        let at : line.0 ++ (10 ∷ (print_end h.last ++ rest)) ≡ text ++ rest =
        sym (append_assoc line.0 (10 ∷ print_end h.last) rest) ∙ ap (λ (l : List ℕ). l ++ rest) is in
        let size : length line.0 + (1 + length (print_end h.last)) ≡ length text = omega (arith, length-append line.0 (10 ∷ print_end h.last), ap length is) in
        less (lines_len (10 ∷ (text ++ rest))) f.0 (length text)
        (ap (λ (l : List ℕ). lines_len (10 ∷ l)) (sym at) ∙ f.1) (omega (arith, f.2, size))

pub section_search_for : IsSearchFor EndsAsSection trailer_len
section_search_for = record { sound = section_sound; finds = section_finds }
