-- Ranges of bytes with a right.
use Rattle.std.proofs.Common.{◌≡◌, ℕ, zero, suc, ◌+◌, ◌<◌, ◌^◌, true, arith}
use Rattle.finite.specs.Maps.{Places, contains_all}
use Rattle.guest_mem.specs.Access.{IsBelowEnd}
use Rattle.guest_mem.proofs.Laws.{end_of}

-- the end of some bytes with a right is a number of 64 bits
pub end_fits : (s : Places) (a n : ℕ) → IsBelowEnd s → a < 2 ^ 64 → contains_all s a n ≡ true → a + n < 2 ^ 64
end_fits s a zero below small all = omega arith
end_fits s a (suc n) below small all = omega (arith, end_of s a (suc n) below (omega arith) all)
