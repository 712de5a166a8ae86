use Rattle.std.proofs.Common.{◌≡◌, ℕ, ◌-◌, cond}
use Rattle.finite.specs.Maps.{within}
use Rattle.guest_mem.specs.Bits.{bit_in}
use Rattle.guest_mem.proofs.bits.set_bits.Given as goal

abbrev pub invariant-loop-i : goal.invariant-loop-i
invariant-loop-i l = (j : ℕ) → bit_in l.bits j ≡ cond (within l.lo (l.i - l.lo) j) l.on (bit_in l.fn.bits j)
