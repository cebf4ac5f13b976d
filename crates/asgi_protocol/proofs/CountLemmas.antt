-- What is left of the promised bytes decides the same as the promised bytes and those that are sent.
use Rattle.std.proofs.Common.{◌≡◌, ℕ, ◌+◌, ◌≤◌, ◌<◌, false, true, refl, ap, sym, Option, Some, None, arith, zero-add}
use Rattle.std.specs.Prelude.{nat_lt}
use Rattle.std.proofs.lemmas.Bool.Decides.{Decides-ltb, not_from_Decides, same_from_decides}
use Rattle.asgi_protocol.specs.BytesLeft.{is_above, is_below, left_after, with_sent}

-- before every body all are left
pub with_sent-zero : (left : Option ℕ) → left ≡ with_sent 0 left
with_sent-zero None = refl
with_sent-zero (Some n) = ap Some (sym (zero-add n))

shift : (sent a b : ℕ) → nat_lt a b ≡ nat_lt (sent + a) (sent + b)
shift sent a b = same_from_decides (nat_lt a b) (nat_lt (sent + a) (sent + b)) (Decides-ltb a b) (back, forth)
  where
    back : nat_lt (sent + a) (sent + b) ≡ true → a < b
    back h = let far = (Decides-ltb (sent + a) (sent + b)).0 h in omega arith

    forth : a < b → nat_lt (sent + a) (sent + b) ≡ true
    forth h = let far : sent + a < sent + b = omega arith in (Decides-ltb (sent + a) (sent + b)).1 far

pub above_agrees : (sent size : ℕ) (left promised : Option ℕ) → promised ≡ with_sent sent left → is_above size left ≡ is_above (sent + size) promised
above_agrees sent size None promised h = rw h refl
above_agrees sent size (Some n) promised h = rw h (shift sent n size)

pub below_agrees : (sent size : ℕ) (left promised : Option ℕ) → promised ≡ with_sent sent left → is_below size left ≡ is_below (sent + size) promised
below_agrees sent size None promised h = rw h refl
below_agrees sent size (Some n) promised h = rw h (shift sent size n)

-- a body that fits moves its bytes from those that are left to those that are sent
pub counts_down : (sent size : ℕ) (left : Option ℕ) → is_above size left ≡ false → with_sent sent left ≡ with_sent (sent + size) (left_after left size)
counts_down sent size None h = refl
counts_down sent size (Some n) h =
    let fits = not_from_Decides (nat_lt n size) (Decides-ltb n size) h in
    let enough : size ≤ n = omega (arith, fits) in
    ap Some (omega arith)
