-- The numbers that each kind of operand can be.
use Rattle.std.specs.Prelude.{◌≡◌, ℤ, pos, neg_ℤ, ◌≤ℤ◌, unsigned_abs, ◌%◌}

-- z lies from lo to hi, both included
pub record IsWithin (lo hi z : ℤ) : Type 0 where
  pub low : lo ≤ℤ z
  pub high : z ≤ℤ hi

abbrev pub IsEven : ℤ → Type 0
IsEven z = unsigned_abs z % 2 ≡ 0

-- a shift amount of 6 bits
abbrev pub IsShift : ℤ → Type 0
IsShift z = IsWithin (pos 0) (pos 63) z

-- 20 bits without a sign
abbrev pub IsImm20 : ℤ → Type 0
IsImm20 z = IsWithin (pos 0) (pos 1048575) z

-- 12 bits with a sign
abbrev pub IsImm12 : ℤ → Type 0
IsImm12 z = IsWithin (neg_ℤ (pos 2048)) (pos 2047) z

-- 13 bits with a sign, the lowest of them 0
abbrev pub IsOffB : ℤ → Type 0
IsOffB z = IsWithin (neg_ℤ (pos 4096)) (pos 4094) z × IsEven z

-- 21 bits with a sign, the lowest of them 0
abbrev pub IsOffJ : ℤ → Type 0
IsOffJ z = IsWithin (neg_ℤ (pos 1048576)) (pos 1048574) z × IsEven z
