-- A count of failures over several calls.
use Rattle.std.proofs.Common.{◌≡◌, ℕ, zero, suc, ◌+◌, ◌-◌, ◌^◌, ◌<◌, inl, inr, List, length, min, refl, sym, subst, arith, Result, Ok, Err}
use Rattle.std.proofs.lemmas.Bool.{cases_lt}
use Rattle.asgi_io.specs.Counting.{IsFailure, RoseBy, CountsFailures}

pub never_fell : (a : ℕ) → RoseBy 0 a a
never_fell a = inl (omega arith)

pub rose_after : (n a b c : ℕ) → RoseBy 0 a b → RoseBy n b c → RoseBy n a c
rose_after n a b c (inl x) (inl y) = inl (omega (arith, x, y))
rose_after n a b c (inl x) (inr y) = inr y
rose_after n a b c (inr x) (inl y) = inr (omega (arith, x, y))
rose_after n a b c (inr x) (inr y) = inr y

pub rose_once : (a b : ℕ) → RoseBy 1 a b → RoseBy 0 a b
rose_once a b (inl x) = inl (omega (arith, x))
rose_once a b (inr x) = inr x

-- one failure raises the count by one, or finds it at the greatest `u64`
pub one_more : (a b : ℕ) → b ≡ min (a + 1) (2 ^ 64 - 1) → RoseBy 1 a b
one_more a b e = elim (cases_lt (2 ^ 64 - 1) (a + 1)) [ inl high ↦ inr (omega (arith, e, high)) | inr low ↦ inl (omega (arith, e, low)) ]

-- an error is counted
pub counts_error : {E : Type 0} (a b c : ℕ) (bytes : List ℕ) (r : Result ℕ E) (e : E) → r ≡ Err e → RoseBy 0 a b → CountsFailures b c bytes r → RoseBy 1 a c
counts_error a b c bytes r e is before counts =
    let P : Result ℕ _ → Type 0 = λ x. IsFailure bytes x in
    rose_after 1 a b c before (one_more b c (counts.rises (subst P (sym is) tt)))

stays-same : (b c : ℕ) → c ≡ b → RoseBy 0 b c
stays-same b c e = inl (omega (arith, e))

kept : {E : Type 0} (b c : ℕ) (bytes : List ℕ) (n : ℕ) → 0 < length bytes → CountsFailures {E = E} b c bytes (Ok n) → RoseBy 0 b c
kept b c bytes zero some counts = rose_once b c (one_more b c (counts.rises (refl, some)))
kept b c bytes (suc n) some counts = stays-same b c (counts.stays (λ f. cc))

-- so is a call that took nothing, and the count never falls
pub counts_never_fall : {E : Type 0} (a b c : ℕ) (bytes : List ℕ) (r : Result ℕ E) (n : ℕ) → 0 < length bytes → r ≡ Ok n → RoseBy 0 a b → CountsFailures b c bytes r → RoseBy 0 a c
counts_never_fall a b c bytes r n some is before counts =
    let P : Result ℕ _ → Type 0 = λ x. CountsFailures b c bytes x in
    rose_after 0 a b c before (kept b c bytes n some (subst P is counts))

pub counts_nothing : {E : Type 0} (a b c : ℕ) (bytes : List ℕ) (r : Result ℕ E) (n : ℕ) → 0 < length bytes → r ≡ Ok n → n ≡ 0 → RoseBy 0 a b → CountsFailures b c bytes r → RoseBy 1 a c
counts_nothing a b c bytes r n some is none before counts =
    let P : Result ℕ _ → Type 0 = λ x. IsFailure bytes x in
    rose_after 1 a b c before (one_more b c (counts.rises (subst P (sym is) (none, some))))
