-- A head text that was found stays if more bytes follow.
use Rattle.std.proofs.Common.{◌≡◌, ℕ, zero, suc, ◌+◌, ◌≤◌, length, Bool, true, false, List, [], ◌∷◌, ◌++◌, refl, ap, ◌∙◌, arith, Option, Some, None}
use Rattle.std.specs.Prelude.{nat_lt, ◌==◌, ◌&&◌, if◌then◌else◌, ◌-◌}
use Rattle.std.specs.Option.{option_map}
use Rattle.std.proofs.lemmas.Bool.Decides.{nat_tests}
use Rattle.asgi_request.specs.HeadText.{is_line_break}
use Rattle.asgi_request.specs.Fronts.{empty_line_len, more, lines_len, head_len, line_len, trailer_len}

more-some : (got : Option ℕ) (n : ℕ) → more 1 got ≡ Some n → (m : ℕ) × (got ≡ Some m) × (1 + m ≡ n)
more-some None n e = cc
more-some (Some m) n e = (m, refl, cc)

more-at : (got : Option ℕ) (m n : ℕ) → got ≡ Some m → 1 + m ≡ n → more 1 got ≡ Some n
more-at got m n e s = ap (more 1) e ∙ ap Some s

-- one byte is no section, and nor is none
lines_len-one : (b n : ℕ) → lines_len (b ∷ []) ≡ Some n → ⊥
lines_len-one b n e = elim (b == 10) as (λ t. (if t && nat_lt 0 0 then Some 1 else None) ≡ Some n → ⊥) [ true ↦ λ x. cc | false ↦ λ x. cc ] e

section_step : (t : Bool) (k : ℕ) (got grown : Option ℕ) (n : ℕ) → ((m : ℕ) → got ≡ Some m → grown ≡ Some m)
    → (if t then Some k else more 1 got) ≡ Some n → (if t then Some k else more 1 grown) ≡ Some n
section_step true k got grown n on e = e
section_step false k got grown n on e = let m = more-some got n e in more-at grown m.0 n (on m.0 m.1) m.2

two_step : (x y : Bool) (k : ℕ) (got grown : Option ℕ) (n : ℕ) → ((m : ℕ) → got ≡ Some m → ⊥)
    → (if x && nat_lt 0 (if y then 1 else 0) then Some (1 + (if y then 1 else 0)) else more 1 got) ≡ Some n
    → (if x && nat_lt 0 (if y then 1 else k) then Some (1 + (if y then 1 else k)) else grown) ≡ Some n
two_step true true k got grown n none e = e
two_step true false k got grown n none e = let m = more-some got n e in absurd (none m.0 m.1)
two_step false y k got grown n none e = let m = more-some got n e in absurd (none m.0 m.1)

pub lines_len-append : (s t : List ℕ) (n : ℕ) → lines_len s ≡ Some n → lines_len (s ++ t) ≡ Some n
lines_len-append [] t n e = cc
lines_len-append (b ∷ []) t n e = absurd (lines_len-one b n e)
lines_len-append (b ∷ a ∷ []) [] n e = e
lines_len-append (b ∷ a ∷ []) (c ∷ t) n e =
    two_step (b == 10) (a == 10) (if a == 13 && c == 10 then 2 else 0) (lines_len (a ∷ [])) (more 1 (lines_len (a ∷ c ∷ t))) n (lines_len-one a) e
lines_len-append (b ∷ a ∷ c ∷ s) t n e =
    section_step (b == 10 && nat_lt 0 (empty_line_len (a ∷ c ∷ s))) (1 + empty_line_len (a ∷ c ∷ s)) (lines_len (a ∷ c ∷ s)) (lines_len (a ∷ c ∷ (s ++ t))) n
    (λ m x. lines_len-append (a ∷ c ∷ s) t m x) e

pub head_len-append : (s t : List ℕ) (n : ℕ) → head_len s ≡ Some n → head_len (s ++ t) ≡ Some n
head_len-append [] t n e = cc
head_len-append (b ∷ s) t n e = head_step (is_line_break b) (head_len s) (lines_len s) (head_len (s ++ t)) (lines_len (s ++ t)) n
    (λ m x. head_len-append s t m x) (λ m x. lines_len-append s t m x) e
  where
    head_step : (b : Bool) (h s h' s' : Option ℕ) (n : ℕ) → ((m : ℕ) → h ≡ Some m → h' ≡ Some m) → ((m : ℕ) → s ≡ Some m → s' ≡ Some m)
        → more 1 (if b then h else s) ≡ Some n → more 1 (if b then h' else s') ≡ Some n
    head_step true h s h' s' n x y e = let m = more-some h n e in more-at h' m.0 n (x m.0 m.1) m.2
    head_step false h s h' s' n x y e = let m = more-some s n e in more-at s' m.0 n (y m.0 m.1) m.2

pub head_len-one : (s : List ℕ) (n : ℕ) → head_len s ≡ Some n → 1 ≤ n
head_len-one [] n e = cc
head_len-one (b ∷ s) n e = let m = more-some (if is_line_break b then head_len s else lines_len s) n e in omega (arith, m.2)

-- ---- the bytes up to a found end decide it

positive : (k : ℕ) → nat_lt 0 (suc k) ≡ true
positive k = grind (arith, nat_tests)

two_at : (x : Bool) (k : ℕ) (got : Option ℕ) (n : ℕ) → ((m : ℕ) → got ≡ Some m → 2 ≤ m)
    → (if x && nat_lt 0 k then Some (1 + k) else more 1 got) ≡ Some n → 2 ≤ n
two_at false k got n on e = let m = more-some got n e in omega (arith, on m.0 m.1, m.2)
two_at true zero got n on e = let m = more-some got n e in omega (arith, on m.0 m.1, m.2)
two_at true (suc k) got n on e =
    let t : nat_lt 0 (suc k) ≡ true = positive k in
    let f = rw t at e in
    let s : 1 + suc k ≡ n = cc f in omega arith

lines_len-two : (t : List ℕ) (n : ℕ) → lines_len t ≡ Some n → 2 ≤ n
lines_len-two [] n e = cc
lines_len-two (b ∷ t) n e = two_at (b == 10) (empty_line_len t) (lines_len t) n (λ m x. lines_len-two t m x) e

pair_local : (x y z : Bool) (got grown : Option ℕ) (n : ℕ) → n ≤ 2 → ((m : ℕ) → grown ≡ Some m → 2 ≤ m)
    → (if x && nat_lt 0 (if y then 1 else (if z then 2 else 0)) then Some (1 + (if y then 1 else (if z then 2 else 0))) else more 1 grown) ≡ Some n
    → (if x && nat_lt 0 (if y then 1 else 0) then Some (1 + (if y then 1 else 0)) else more 1 got) ≡ Some n
pair_local true true z got grown n h two e = e
pair_local true false true got grown n h two e = let s : 3 ≡ n = cc in absurd (omega arith)
pair_local true false false got grown n h two e = let m = more-some grown n e in absurd (omega (arith, two m.0 m.1, m.2))
pair_local false y z got grown n h two e = let m = more-some grown n e in absurd (omega (arith, two m.0 m.1, m.2))

local_step : (t : Bool) (k : ℕ) (got grown : Option ℕ) (n len : ℕ) → n ≤ 1 + len → ((m : ℕ) → grown ≡ Some m → m ≤ len → got ≡ Some m)
    → (if t then Some k else more 1 grown) ≡ Some n → (if t then Some k else more 1 got) ≡ Some n
local_step true k got grown n len h on e = e
local_step false k got grown n len h on e = let m = more-some grown n e in more-at got m.0 n (on m.0 m.1 (omega (arith, m.2))) m.2

pub lines_len-local : (s t : List ℕ) (n : ℕ) → lines_len (s ++ t) ≡ Some n → n ≤ length s → lines_len s ≡ Some n
lines_len-local [] t n e h = absurd (omega (arith, lines_len-two t n e))
lines_len-local (b ∷ []) t n e h = absurd (omega (arith, lines_len-two (b ∷ t) n e))
lines_len-local (b ∷ a ∷ []) [] n e h = e
lines_len-local (b ∷ a ∷ []) (c ∷ t) n e h =
    pair_local (b == 10) (a == 10) (a == 13 && c == 10) (lines_len (a ∷ [])) (lines_len (a ∷ c ∷ t)) n (omega arith)
    (λ m x. lines_len-two (a ∷ c ∷ t) m x) e
lines_len-local (b ∷ a ∷ c ∷ s) t n e h =
    local_step (b == 10 && nat_lt 0 (empty_line_len (a ∷ c ∷ s))) (1 + empty_line_len (a ∷ c ∷ s)) (lines_len (a ∷ c ∷ s)) (lines_len (a ∷ c ∷ (s ++ t))) n
    (length (a ∷ c ∷ s)) (omega arith) (λ m x y. lines_len-local (a ∷ c ∷ s) t m x y) e

pub head_len-local : (s t : List ℕ) (n : ℕ) → head_len (s ++ t) ≡ Some n → n ≤ length s → head_len s ≡ Some n
head_len-local [] [] n e h = e
head_len-local [] (b ∷ t) n e h = let m = more-some (if is_line_break b then head_len t else lines_len t) n e in absurd (omega (arith, m.2))
head_len-local (b ∷ s) t n e h = head_step (is_line_break b) (head_len s) (lines_len s) (head_len (s ++ t)) (lines_len (s ++ t)) n (length s) (omega arith)
    (λ m x y. head_len-local s t m x y) (λ m x y. lines_len-local s t m x y) e
  where
    head_step : (b : Bool) (h s h' s' : Option ℕ) (n len : ℕ) → n ≤ 1 + len
        → ((m : ℕ) → h' ≡ Some m → m ≤ len → h ≡ Some m) → ((m : ℕ) → s' ≡ Some m → m ≤ len → s ≡ Some m)
        → more 1 (if b then h' else s') ≡ Some n → more 1 (if b then h else s) ≡ Some n
    head_step true h s h' s' n len below x y e = let m = more-some h' n e in more-at h m.0 n (x m.0 m.1 (omega (arith, m.2))) m.2
    head_step false h s h' s' n len below x y e = let m = more-some s' n e in more-at s m.0 n (y m.0 m.1 (omega (arith, m.2))) m.2

-- ---- a found end lies in the bytes

within_at : (x : Bool) (k len : ℕ) (got : Option ℕ) (n : ℕ) → k ≤ len → ((m : ℕ) → got ≡ Some m → m ≤ len)
    → (if x then Some (1 + k) else more 1 got) ≡ Some n → n ≤ 1 + len
within_at true k len got n h on e = let s : 1 + k ≡ n = cc in omega arith
within_at false k len got n h on e = let m = more-some got n e in omega (arith, on m.0 m.1, m.2)

empty_line_len-within : (s : List ℕ) → empty_line_len s ≤ length s
empty_line_len-within [] = omega arith
empty_line_len-within (a ∷ []) = grind (arith, nat_tests)
empty_line_len-within (a ∷ b ∷ s) = short (a == 10) (a == 13 && b == 10) (length s)
  where
    short : (x y : Bool) (n : ℕ) → (if x then 1 else (if y then 2 else 0)) ≤ suc (suc n)
    short true y n = omega arith
    short false true n = omega arith
    short false false n = omega arith

pub lines_len-within : (s : List ℕ) (n : ℕ) → lines_len s ≡ Some n → n ≤ length s
lines_len-within [] n e = cc
lines_len-within (b ∷ s) n e = omega (
  arith,
  within_at (b == 10 && nat_lt 0 (empty_line_len s)) (empty_line_len s) (length s) (lines_len s) n
      (empty_line_len-within s) (λ m x. lines_len-within s m x) e,
)

pub head_len-within : (s : List ℕ) (n : ℕ) → head_len s ≡ Some n → n ≤ length s
head_len-within [] n e = cc
head_len-within (b ∷ s) n e = omega (arith, at (is_line_break b) (head_len s) (lines_len s) n (length s) (λ m x. head_len-within s m x) (λ m x. lines_len-within s m x) e)
  where
    at : (b : Bool) (h s : Option ℕ) (n len : ℕ) → ((m : ℕ) → h ≡ Some m → m ≤ len) → ((m : ℕ) → s ≡ Some m → m ≤ len)
        → more 1 (if b then h else s) ≡ Some n → n ≤ 1 + len
    at true h s n len x y e = let m = more-some h n e in omega (arith, x m.0 m.1, m.2)
    at false h s n len x y e = let m = more-some s n e in omega (arith, y m.0 m.1, m.2)

-- ---- a line

line_append : (t : Bool) (got grown : Option ℕ) (n : ℕ) → ((m : ℕ) → got ≡ Some m → grown ≡ Some m)
    → (if t then Some 1 else more 1 got) ≡ Some n → (if t then Some 1 else more 1 grown) ≡ Some n
line_append true got grown n on e = e
line_append false got grown n on e = let m = more-some got n e in more-at grown m.0 n (on m.0 m.1) m.2

pub line_len-append : (s t : List ℕ) (n : ℕ) → line_len s ≡ Some n → line_len (s ++ t) ≡ Some n
line_len-append [] t n e = cc
line_len-append (b ∷ s) t n e = line_append (b == 10) (line_len s) (line_len (s ++ t)) n (λ m x. line_len-append s t m x) e

line_one : (t : Bool) (got : Option ℕ) (n : ℕ) → (if t then Some 1 else more 1 got) ≡ Some n → 1 ≤ n
line_one true got n e = let s : 1 ≡ n = cc in omega arith
line_one false got n e = let m = more-some got n e in omega (arith, m.2)

pub line_len-one : (t : List ℕ) (n : ℕ) → line_len t ≡ Some n → 1 ≤ n
line_len-one [] n e = cc
line_len-one (b ∷ t) n e = line_one (b == 10) (line_len t) n e

line_local : (t : Bool) (got grown : Option ℕ) (n len : ℕ) → n ≤ 1 + len → ((m : ℕ) → grown ≡ Some m → m ≤ len → got ≡ Some m)
    → (if t then Some 1 else more 1 grown) ≡ Some n → (if t then Some 1 else more 1 got) ≡ Some n
line_local true got grown n len h on e = e
line_local false got grown n len h on e = let m = more-some grown n e in more-at got m.0 n (on m.0 m.1 (omega (arith, m.2))) m.2

pub line_len-local : (s t : List ℕ) (n : ℕ) → line_len (s ++ t) ≡ Some n → n ≤ length s → line_len s ≡ Some n
line_len-local [] t n e h = absurd (omega (arith, line_len-one t n e))
line_len-local (b ∷ s) t n e h = line_local (b == 10) (line_len s) (line_len (s ++ t)) n (length s) (omega arith) (λ m x y. line_len-local s t m x y) e

line_within : (t : Bool) (got : Option ℕ) (n len : ℕ) → ((m : ℕ) → got ≡ Some m → m ≤ len) → (if t then Some 1 else more 1 got) ≡ Some n → n ≤ 1 + len
line_within true got n len on e = let s : 1 ≡ n = cc in omega arith
line_within false got n len on e = let m = more-some got n e in omega (arith, on m.0 m.1, m.2)

pub line_len-within : (s : List ℕ) (n : ℕ) → line_len s ≡ Some n → n ≤ length s
line_len-within [] n e = cc
line_len-within (b ∷ s) n e = omega (arith, line_within (b == 10) (line_len s) n (length s) (λ m x. line_len-within s m x) e)

-- ---- a trailer section, with the line feed before it

less-some : (got : Option ℕ) (n : ℕ) → option_map (λ m. m - 1) got ≡ Some n → (m : ℕ) × (got ≡ Some m) × (m - 1 ≡ n)
less-some None n e = cc
less-some (Some m) n e = (m, refl, cc)

less-at : (got : Option ℕ) (m n : ℕ) → got ≡ Some m → m - 1 ≡ n → option_map (λ k. k - 1) got ≡ Some n
less-at got m n e s = ap (option_map (λ k. k - 1)) e ∙ ap Some s

pub trailer_len-one : (s : List ℕ) (n : ℕ) → trailer_len s ≡ Some n → 1 ≤ n
trailer_len-one s n e = let m = less-some (lines_len (10 ∷ s)) n e in omega (arith, m.2, lines_len-two (10 ∷ s) m.0 m.1)

pub trailer_len-append : (s t : List ℕ) (n : ℕ) → trailer_len s ≡ Some n → trailer_len (s ++ t) ≡ Some n
trailer_len-append s t n e =
    let m = less-some (lines_len (10 ∷ s)) n e in
    less-at (lines_len (10 ∷ (s ++ t))) m.0 n (lines_len-append (10 ∷ s) t m.0 m.1) m.2

pub trailer_len-local : (s t : List ℕ) (n : ℕ) → trailer_len (s ++ t) ≡ Some n → n ≤ length s → trailer_len s ≡ Some n
trailer_len-local s t n e h =
    let m = less-some (lines_len (10 ∷ (s ++ t))) n e in
    less-at (lines_len (10 ∷ s)) m.0 n (lines_len-local (10 ∷ s) t m.0 m.1 (omega (arith, m.2))) m.2

pub trailer_len-within : (s : List ℕ) (n : ℕ) → trailer_len s ≡ Some n → n ≤ length s
trailer_len-within s n e = let m = less-some (lines_len (10 ∷ s)) n e in omega (arith, m.2, lines_len-within (10 ∷ s) m.0 m.1)
