-- How many connections came to all threads together, by the tickets that each has spent.
use Rattle.std.proofs.Common.{◌≡◌, ap, ap₂, refl, sym, subst, ◌∙◌, ℕ, ◌+◌, List, [], ◌∷◌, ◌++◌, All, length, map, Option, Some, None, get_or, arith}
use Rattle.std.specs.Prelude.{IfSome}
use Rattle.std.proofs.lemmas.List.Elements.{All-cons, All-head, All-nil, All-tail}
use Rattle.asgi_many.specs.declared.reactor.Next.{Next}
use Rattle.asgi_many.specs.Serving.{came_in}
use Rattle.asgi_reactor.specs.declared.quota.Quota.{Quota}
use Rattle.asgi_reactor.specs.declared.quota.Ticketer.{Ticketer}
use Rattle.asgi_reactor.specs.Accepting.{in_all, kept_at, kept_in}
use Rattle.asgi_reactor.specs.Shares.{known, new_share, share_of}
use Rattle.asgi_threads.specs.Abreast.{Each}
use Rattle.nomtsage.specs.Tables.{Thread, came_to}
use Rattle.nomtsage.specs.private.Together.{IsWithin}

-- each part keeps what its work keeps
pub each_keeps : {P Q : Type 0} (works : P → P → Type 0) (old new : List P) → Each works old new → (kept : P → Q) → ((was is : P) → works was is → kept is ≡ kept was)
    → map kept new ≡ map kept old
each_keeps works [] [] each kept so = refl
each_keeps {P} {Q} works (was ∷ old) (is ∷ new) (one, more) kept so = ap₂ (λ (q : Q) (qs : List Q). q ∷ qs) (so was is one) (each_keeps works old new more kept so)
each_keeps works [] (is ∷ new) each kept so = absurd each
each_keeps works (was ∷ old) [] each kept so = absurd each

abbrev first_of : {Q : Type 0} → Q → List Q → Q
first_of default [] = default
first_of default (x ∷ xs) = x

abbrev others_of : {Q : Type 0} → List Q → List Q
others_of [] = []
others_of (x ∷ xs) = xs

-- so what was kept by all is
pub all_keep : {P Q : Type 0} (kept : P → Q) (set : Q) (old new : List P) → map kept new ≡ map kept old → All (λ p. kept p ≡ set) old → All (λ p. kept p ≡ set) new
all_keep kept set old [] same all = All-nil (λ p. kept p ≡ set)
all_keep {P} {Q} kept set [] (is ∷ new) same all = absurd (no_more same)
  where
    no_more : {x : Q} {xs : List Q} → x ∷ xs ≡ [] → ⊥
    no_more none = cc
all_keep {P} {Q} kept set (was ∷ old) (is ∷ new) same all =
    All-cons (λ p. kept p ≡ set) is new (ap (λ (l : List Q). first_of (kept is) l) same ∙ All-head (λ p. kept p ≡ set) was old all)
    (all_keep kept set old new (ap (λ (l : List Q). others_of l) same) (All-tail (λ p. kept p ≡ set) was old all))

abbrev share_or : Quota × ℕ × ℕ → Option (Quota × ℕ × ℕ) → Quota × ℕ × ℕ
share_or default (Some share) = share
share_or default None = default

-- of one that may accept as many as its quota has tickets: it has spent one for each that came
pub spent_is : {L : Type 0} (quota : Quota) (asked : List (Next L)) (left : ℕ) (ticketer : Option Ticketer) (is : Ticketer) → ticketer ≡ Some is
    → IsWithin quota asked left ticketer → (is.quota.now ≡ quota) × ((known is).spent ≡ length (came_in asked))
spent_is {L} quota asked left ticketer is same within =
    let all : in_all asked left ≡ quota.count = ap (λ k. k.0) within in
    let shares : Some (is.quota.now, (known is).held, left + (known is).spent) ≡ Some (quota, 0, quota.count) =
    subst (λ (t : Option Ticketer). share_of t left ≡ new_share (Some quota) quota.count) same (ap (λ k. k.1) within) in
    let share : (is.quota.now, (known is).held, left + (known is).spent) ≡ (quota, 0, quota.count) = ap (share_or (quota, 0, 0)) shares in
    let spent : left + (known is).spent ≡ quota.count = ap (λ s. s.2) share in
    let same_number : (known is).spent ≡ length (came_in asked) = omega (arith, all, spent) in
    (ap (λ s. s.0) share, same_number)

-- and it has a ticketer
pub some_ticketer : {L : Type 0} (quota : Quota) (asked : List (Next L)) (left : ℕ) (ticketer : Option Ticketer) → ticketer ≡ None → IsWithin quota asked left ticketer → ⊥
some_ticketer quota asked left ticketer none within = no_share (subst (λ (t : Option Ticketer). share_of t left ≡ new_share (Some quota) quota.count) none (ap (λ k. k.1) within))
  where
    no_share : {A : Type 0} {x : A} → None ≡ Some x → ⊥
    no_share same = cc

-- those that came to the last thread, and to those before it
came_snoc : {P L K : Type 0} (part : P → Thread (Next L) K) (posts : List P) (one : P)
    → came_to (map part (posts ++ one ∷ [])) ≡ came_to (map part posts) + length (came_in (part one).asked)
came_snoc part [] one = omega arith
came_snoc part (post ∷ posts) one = let others = came_snoc part posts one in omega arith

pub all_before : {P : Type 0} (holds : P → Type 0) (xs : List P) (x : P) → All holds (xs ++ x ∷ []) → All holds xs × holds x
all_before holds [] x all = (All-nil holds, All-head holds x [] all)
all_before holds (y ∷ xs) x all =
    let others = all_before holds xs x (All-tail holds y (xs ++ x ∷ []) all) in
    (All-cons holds y xs (All-head holds y (xs ++ x ∷ []) all) others.0, others.1)

-- once the last thread was taken in
pub absorbed : {P L K : Type 0} (part : P → Thread (Next L) K) (posts others : List P) (one : P) (spent more whole : ℕ) → posts ≡ others ++ one ∷ []
    → spent + came_to (map part posts) ≡ whole → more ≡ spent + length (came_in (part one).asked) → more + came_to (map part others) ≡ whole
absorbed part posts others one spent more whole same before grown =
    let were : came_to (map part posts) ≡ came_to (map part others) + length (came_in (part one).asked) = ap (λ l. came_to (map part l)) same ∙ came_snoc part others one in
    omega (arith, before, grown, were)
