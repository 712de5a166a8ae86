-- A share of 1200 is at most 1200.
use Rattle.std.proofs.Common.{ℕ, ◌*◌, ◌/◌, ◌≤◌, arith}
use Rattle.std.proofs.Math.Nat.{div-le_of_le-mul}

pub share_small : (part whole : ℕ) → part ≤ whole → part * 1200 / whole ≤ 1200
share_small part whole within = div-le_of_le-mul whole (omega arith)
