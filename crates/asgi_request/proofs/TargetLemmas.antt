-- A target that isn't in absolute-form begins with its path, if that isn't empty.
use Rattle.std.proofs.Common.{◌≡◌, ◌≤◌, ◌<◌, ℕ, Bool, true, false, ◌||◌, List, [], ◌∷◌, length, take, if◌then◌else◌, ◌==◌, refl, ap, ◌∙◌, arith, length-take}
use Rattle.std.specs.Prelude.{codes}
use Rattle.asgi_request.specs.Target.{has_authority, path_and_query, before_query, or_root, path_of, question_mark}

neither : (a b : Bool) (x y z : List ℕ) → (a || b) ≡ false → (if a then x else (if b then y else z)) ≡ z
neither true b x y z e = absurd cc
neither false true x y z e = absurd cc
neither false false x y z e = refl

taken_unless : (asks : Bool) (b : ℕ) (bytes front : List ℕ) → front ≡ take (length front) bytes
    → (if asks then [] else b ∷ front) ≡ take (length (if asks then [] else b ∷ front)) (b ∷ bytes)
taken_unless true b bytes front e = refl
taken_unless false b bytes front e = ap (λ (l : List ℕ). b ∷ l) e

front_taken : (bytes : List ℕ) → before_query bytes ≡ take (length (before_query bytes)) bytes
front_taken [] = refl
front_taken (b ∷ bytes) = taken_unless (b == question_mark) b bytes (before_query bytes) (front_taken bytes)

same_or_root : (path : List ℕ) → 0 < length path → or_root path ≡ path
same_or_root [] some = absurd (omega (arith, some))
same_or_root (b ∷ path) some = refl

pub path_in_front : (target : List ℕ) → (has_authority target (codes "http://") || has_authority target (codes "https://")) ≡ false
    → 0 < length (before_query target) → (length (before_query target) ≤ length target) × (path_of target ≡ take (length (before_query target)) target)
path_in_front target closed some =
    let whole : path_and_query target ≡ target = neither (has_authority target (codes "http://")) (has_authority target (codes "https://")) _ _ target closed in
    let fits = ap length (front_taken target) ∙ length-take (length (before_query target)) target in
    (omega (arith, fits), ap (λ (t : List ℕ). or_root (before_query t)) whole ∙ same_or_root (before_query target) some ∙ front_taken target)
