-- What was taken after a write behind bytes that wait.
use Rattle.std.proofs.Common.{◌≡◌, ℕ, zero, suc, ◌+◌, List, [], ◌∷◌, ◌++◌, length, Option, Some, None, refl, sym, ap, ◌∙◌, take, drop, append_assoc, append-nil, arith}
use Rattle.std.specs.Io.KnownBytes.{Appends, append_known}
use Rattle.asgi_reactor.specs.Holding.{GoesOut}

take_none : {X : Type 0} (n : ℕ) → ◌≡◌ {A = List X} (take n []) []
take_none zero = refl
take_none (suc n) = refl

none_more : (n : ℕ) → 0 + n ≡ n
none_more n = omega arith

one_more : (m n : ℕ) → suc m + n ≡ suc (m + n)
one_more m n = omega arith

-- the first few and then the first few of the others
take_more : {X : Type 0} (m n : ℕ) (xs : List X) → take (m + n) xs ≡ take m xs ++ take n (drop m xs)
take_more zero n xs = ap (λ k. take k xs) (none_more n)
take_more (suc m) n [] = take_none (suc m + n) ∙ sym (take_none n)
take_more (suc m) n (x ∷ xs) = ap (λ k. take k (x ∷ xs)) (one_more m n) ∙ ap (λ ys. x ∷ ys) (take_more m n xs)

-- a list of no length has no items
pub none_left : (xs : List ℕ) → length xs ≡ 0 → xs ≡ []
none_left [] none = refl
none_left (x ∷ xs) none = absurd (omega (arith, none))

-- nothing went out
pub nothing_goes : (written : Option (List ℕ)) (waits : List ℕ) → GoesOut written written waits waits
nothing_goes None waits = ([], refl, tt)
nothing_goes (Some xs) waits = ([], refl, sym (append-nil xs))

-- All that waited went out, and of more bytes the stream took m, and n more wait now.
pub writes_on : (c0 c1 c2 : Option (List ℕ)) (w0 w1 w2 buf : List ℕ) (m n : ℕ)
    → GoesOut c0 c1 w0 w1 → w1 ≡ [] → Appends c1 c2 (take m buf) → w2 ≡ w1 ++ take n (drop m buf)
    → Appends (append_known c0 w0) (append_known c2 w2) (take (m + n) buf)
writes_on None c1 c2 w0 w1 w2 buf m n goes none took waits = tt
writes_on (Some xs) None c2 w0 w1 w2 buf m n goes none took waits = absurd goes.2
writes_on (Some xs) (Some ys) None w0 w1 w2 buf m n goes none took waits = absurd took
writes_on (Some xs) (Some ys) (Some zs) w0 w1 w2 buf m n (gone, were, went) none took waits =
    let before : w0 ≡ gone = were ∙ ap (λ w. gone ++ w) none ∙ append-nil gone in
    let now : w2 ≡ take n (drop m buf) = waits ∙ ap (λ w. w ++ take n (drop m buf)) none in
    ap (λ w. zs ++ w) now
    ∙ ap (λ t. t ++ take n (drop m buf)) (took ∙ ap (λ y. y ++ take m buf) (went ∙ ap (λ g. xs ++ g) (sym before)))
    ∙ append_assoc (xs ++ w0) (take m buf) (take n (drop m buf))
    ∙ ap (λ t. (xs ++ w0) ++ t) (sym (take_more m n buf))
