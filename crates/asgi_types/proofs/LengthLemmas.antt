-- A number of 18 digits has room for one more digit in 64 bits.
use Rattle.std.proofs.Common.{ℕ, ◌<◌, ◌≤◌, ◌^◌, arith, lit<}
use Rattle.std.proofs.Math.Nat.{pow-le-pow_right}

pub few_digits : (n i len : ℕ) → n < 10 ^ i → i < len → len ≤ 19 → n < 1000000000000000000
few_digits n i len below inside short =
    let exponent : i ≤ 18 = omega arith in
    let most : 10 ^ i ≤ 10 ^ 18 = pow-le-pow_right (lit< tt) exponent in
    omega arith
