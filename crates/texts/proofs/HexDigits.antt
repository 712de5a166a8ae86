-- How large a number of few hexadecimal digits is.
use Rattle.std.proofs.Common.{ℕ, ◌<◌, ◌≤◌, ◌^◌, arith, lit<}
use Rattle.std.proofs.Math.Nat.{pow-le-pow_right}

pub seven_digits : (i : ℕ) → i < 8 → 16 ^ i ≤ 268435456
seven_digits i few = pow-le-pow_right {n = 16} (lit< tt) {i = i} {j = 7} (omega arith)

pub eight_digits : (i : ℕ) → i ≤ 8 → 16 ^ i ≤ 4294967296
eight_digits i few = pow-le-pow_right {n = 16} (lit< tt) {i = i} {j = 8} few
