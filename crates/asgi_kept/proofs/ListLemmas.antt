use Rattle.std.proofs.Common.{◌≡◌, refl, sym, ◌∙◌, List, [], ◌∷◌, ◌++◌, length, ℕ, Option, Some, None, IfSome, append-nil, arith}
use Rattle.asgi_pipes.specs.RingPairs.{Ring, ring_of}
use Rattle.asgi_kept.specs.Answers.{home_of, last_of}
use Rattle.std.specs.declared.alloc.Global.{Global}
use Rattle.rtrb.specs.declared.end.End.{End}
use Rattle.rtrb.specs.Ends.{SameRing}

pub last_snoc : {A : Type 0} (xs : List A) (x : A) → last_of (xs ++ x ∷ []) ≡ Some x
last_snoc [] x = refl
last_snoc (y ∷ []) x = refl
last_snoc (y ∷ z ∷ zs) x = last_snoc (z ∷ zs) x

pub last_is : {A : Type 0} (xs : List A) (x j : A) → last_of (xs ++ x ∷ []) ≡ Some j → j ≡ x
last_is xs x j e = grind (arith, last_snoc xs x)

pub last_all : {A : Type 0} (rs ks ss : List A) (b : A) → last_of ss ≡ Some b → rs ++ ks ≡ ss → length ks ≡ 0 → last_of rs ≡ Some b
last_all rs [] ss b sb fifo n = grind (arith, append-nil rs)
last_all rs (k ∷ ks) ss b sb fifo n = grind arith

pub of_last : {A : Type 0} (xs ys : List A) (x : A) (P : A → Type 0) → ys ≡ xs ++ x ∷ [] → P x → (y : A) → last_of ys ≡ Some y → P y
of_last xs ys x P e p y l = rw (last_is xs x y (rw (sym e) l)) p

pub last_left : {A : Type 0} (rs now ks was ss given : List A) (left : ℕ) (x : A)
    → now ≡ rs → now ++ ks ≡ ss → ss ≡ was → was ≡ given → left ≡ length ks → left ≡ 0 → last_of given ≡ Some x → last_of rs ≡ Some x
last_left rs now ks was ss given left x looked fifo same before value none last =
    rw (sym looked) (last_all now ks ss x (rw same (rw before last)) fifo (sym value ∙ none))

pub still_home : {A : Type 0} (named : A → Ring) (xs ys : List A) (x : A) (ring : Ring) → home_of named xs ≡ Some ring → ys ≡ xs ++ x ∷ [] → home_of named ys ≡ Some ring
still_home named [] ys x ring home more = grind (arith, home)
still_home named (y ∷ xs) ys x ring home more = rw more home

pub same_home : (a b : Ring) → Some a ≡ Some b → a ≡ b
same_home a b e = grind (arith, e)

pub each_some : {A : Type 0} (o : Option A) (P Q : A → Type 0) → ((x : A) → P x → Q x) → IfSome o P → IfSome o Q
each_some None P Q f p = p
each_some (Some x) P Q f p = f x p

pub same_ring : {T P : Type 0} (a b : End T Global P) → SameRing a b → ring_of b ≡ ring_of a
same_ring a b same = grind (arith, same.0, same.1, same.2, same.3)
