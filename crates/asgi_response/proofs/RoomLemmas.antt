-- A text that is one of several fits with those before it if all of them fit.
use Rattle.std.proofs.Common.{◌≡◌, ℕ, zero, suc, ◌+◌, ◌≤◌, ◌<◌, inl, inr, List, [], ◌∷◌, length, take, get_or, flat_map, subst, Bor, arith, length-append, Option, Some, None, Result, Ok, Err, OnErr}
use Rattle.std.proofs.lemmas.Bool.{cases_lt}
use Rattle.std.specs.Prelude.{SomeIff, is_ok, is_some}
use Rattle.asgi_types.specs.Room.{LacksRoom}

size-cons : (t : Bor (List ℕ)) (texts : List (Bor (List ℕ))) → length (flat_map (λ (x : Bor (List ℕ)). x.now) (t ∷ texts)) ≡ length t.now + length (flat_map (λ (x : Bor (List ℕ)). x.now) texts)
size-cons t texts = length-append t.now (flat_map (λ (x : Bor (List ℕ)). x.now) texts)

one_fits : (texts : List (Bor (List ℕ))) (i : ℕ) (d : Bor (List ℕ)) → i < length texts
    → length (flat_map (λ (x : Bor (List ℕ)). x.now) (take i texts)) + length (get_or texts i d).now ≤ length (flat_map (λ (x : Bor (List ℕ)). x.now) texts)
one_fits [] i d h = absurd (omega (arith, h))
one_fits (t ∷ texts) zero d h = omega (arith, size-cons t texts)
one_fits (t ∷ texts) (suc i) d h =
    let before : i < length texts = omega (arith, h) in
    omega (arith, size-cons t texts, size-cons t (take i texts), one_fits texts i d before)

-- if there is room for all, there is room for the next
pub has_room : (texts : List (Bor (List ℕ))) (i : ℕ) (d : Bor (List ℕ)) (len capacity len_then : ℕ) → i < length texts
    → len_then ≡ len + length (flat_map (λ (x : Bor (List ℕ)). x.now) (take i texts)) → len + length (flat_map (λ (x : Bor (List ℕ)). x.now) texts) ≤ capacity
    → capacity < len_then + length (get_or texts i d).now → ⊥
has_room texts i d len capacity len_then inside e room full = omega (arith, e, room, full, one_fits texts i d inside)

at_least : (most sum : ℕ) → (sum < most → ⊥) → most ≤ sum
at_least most sum h = elim (cases_lt sum most) [ inl less ↦ absurd (h less) | inr more ↦ more ]

-- if a sum is refused, it is too great
refused_sum : {E : Type 0} (most sum : ℕ) (tried : Option ℕ) (r : Result ℕ E) (e : E) → SomeIff tried (sum < most) sum → is_ok r ≡ is_some tried → r ≡ Err e → most ≤ sum
refused_sum most sum None r e h same is = at_least most sum h
refused_sum most sum (Some n) (Ok m) e h same is = cc
refused_sum most sum (Some n) (Err x) e h same is = cc

-- and what is too great on the way is too great at the end
pub too_long : {E : Type 0} (texts : List (Bor (List ℕ))) (i : ℕ) (d : Bor (List ℕ)) (most total : ℕ) (tried : Option ℕ) (r : Result ℕ E) (e : E) → i < length texts
    → total ≡ length (flat_map (λ (x : Bor (List ℕ)). x.now) (take i texts))
    → SomeIff tried (total + length (get_or texts i d).now < most) (total + length (get_or texts i d).now) → is_ok r ≡ is_some tried → r ≡ Err e
    → most ≤ length (flat_map (λ (x : Bor (List ℕ)). x.now) texts)
too_long texts i d most total tried r e inside sum h same is =
    omega (arith, sum, refused_sum most (total + length (get_or texts i d).now) tried r e h same is, one_fits texts i d inside)

pub on_err : {T E P : Type 0} (r : Result T E) → P → OnErr r P
on_err (Ok u) p = tt
on_err (Err x) p = p

-- the same text in other words
pub err_text : {E : Type 0} (r : Result (Unit {0}) E) (capacity len : ℕ) (a b : List ℕ) → OnErr r (LacksRoom capacity len a) → a ≡ b → OnErr r (LacksRoom capacity len b)
err_text (Ok u) capacity len a b h e = tt
err_text (Err x) capacity len a b h e = subst (λ (t : List ℕ). LacksRoom capacity len t) e h
