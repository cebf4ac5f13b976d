-- Digits that are put before one another, the last one first.
use Rattle.std.proofs.Common.{◌≡◌, ℕ, zero, suc, ◌+◌, ◌*◌, ◌/◌, ◌%◌, ◌^◌, ◌<◌, ◌≤◌, Bool, true, false, List, ◌∷◌, length, drop, sym, ap, ◌∙◌, subst, arith}
use Rattle.std.proofs.Math.Nat.{pow-suc}
use Rattle.std.proofs.lemmas.List.{drop-set}
use Rattle.std.proofs.lemmas.Bool.Decides.{nat_tests}
use Rattle.std.specs.Prelude.{if◌then◌else◌, ◌==◌, slice_set}
use Rattle.std.specs.Fmt.{digits_onto, digit_glyph}

is_zero : (n : ℕ) → n ≡ 0 → (n == 0) ≡ true
is_zero n e = grind (arith, nat_tests)

is_some : (n : ℕ) → (n ≡ 0 → ⊥) → (n == 0) ≡ false
is_some n e = grind (arith, nat_tests)

last_step : (k n : ℕ) (rest : List ℕ) → n / 16 ≡ 0 → digits_onto (suc k) 16 false n rest ≡ digit_glyph false (n % 16) ∷ rest
last_step k n rest e =
    ap (λ (b : Bool). if b then digit_glyph false (n % 16) ∷ rest else digits_onto k 16 false (n / 16) (digit_glyph false (n % 16) ∷ rest)) (is_zero (n / 16) e)

next_step : (k n : ℕ) (rest : List ℕ) → (n / 16 ≡ 0 → ⊥) → digits_onto (suc k) 16 false n rest ≡ digits_onto k 16 false (n / 16) (digit_glyph false (n % 16) ∷ rest)
next_step k n rest e =
    ap (λ (b : Bool). if b then digit_glyph false (n % 16) ∷ rest else digits_onto k 16 false (n / 16) (digit_glyph false (n % 16) ∷ rest)) (is_some (n / 16) e)

-- the digits from place j + 1 on, as the digits that j gives
front_at : (j at n : ℕ) (buffer all : List ℕ) → at ≡ j + 1 → digits_onto (at + 48) 16 false n (drop at buffer) ≡ all
    → digits_onto (suc (j + 48)) 16 false n (drop (j + 1) buffer) ≡ all
front_at j at n buffer all e front =
    let more : at + 48 ≡ suc (j + 48) = omega (arith, e) in
    sym (ap (λ (k : ℕ). digits_onto k 16 false n (drop at buffer)) more ∙ ap (λ (i : ℕ). digits_onto (suc (j + 48)) 16 false n (drop i buffer)) e) ∙ front

glyph_put : (j n glyph : ℕ) (buffer : List ℕ) → j < length buffer → glyph ≡ digit_glyph false (n % 16)
    → drop j (slice_set buffer j glyph) ≡ digit_glyph false (n % 16) ∷ drop (j + 1) buffer
glyph_put j n glyph buffer inside g = drop-set buffer j glyph inside ∙ ap (λ (x : ℕ). x ∷ drop (j + 1) buffer) g

pub last_digit : (j at n glyph : ℕ) (buffer all : List ℕ) → at ≡ j + 1 → j < length buffer → glyph ≡ digit_glyph false (n % 16) → n / 16 ≡ 0
    → digits_onto (at + 48) 16 false n (drop at buffer) ≡ all → drop j (slice_set buffer j glyph) ≡ all
last_digit j at n glyph buffer all e inside g none front =
    glyph_put j n glyph buffer inside g ∙ sym (last_step (j + 48) n (drop (j + 1) buffer) none) ∙ front_at j at n buffer all e front

pub next_digit : (j at n glyph : ℕ) (buffer all : List ℕ) → at ≡ j + 1 → j < length buffer → glyph ≡ digit_glyph false (n % 16) → (n / 16 ≡ 0 → ⊥)
    → digits_onto (at + 48) 16 false n (drop at buffer) ≡ all → digits_onto (j + 48) 16 false (n / 16) (drop j (slice_set buffer j glyph)) ≡ all
next_digit j at n glyph buffer all e inside g more front =
    ap (λ (rest : List ℕ). digits_onto (j + 48) 16 false (n / 16) rest) (glyph_put j n glyph buffer inside g)
    ∙ sym (next_step (j + 48) n (drop (j + 1) buffer) more) ∙ front_at j at n buffer all e front

step_fits : (j n : ℕ) → n < 16 ^ suc j → n / 16 < 16 ^ j
step_fits j n fits =
    let bound : n < 16 ^ j * 16 = simp pow-suc at fits in
    omega (arith, bound)

pub rest_fits : (j at n : ℕ) → at ≡ j + 1 → n < 16 ^ at → n / 16 < 16 ^ j
rest_fits j at n e fits =
    let next : at ≡ suc j = omega (arith, e) in
    step_fits j n (subst (λ (i : ℕ). n < 16 ^ i) next fits)

pub no_rest : (at n : ℕ) → at ≤ 0 → n < 16 ^ at → (at < 16 → 0 < n) → ⊥
no_rest zero n low fits more = let some : 0 < n = more (omega arith) in omega (arith, fits, some)
no_rest (suc j) n low fits more = omega (arith, low)
