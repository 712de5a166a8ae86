-- Addresses that jumps make, as numbers of 64 bits. Source: the RISC-V Unprivileged ISA, chapter RV64I.
use Rattle.std.specs.Prelude.{ℕ, ◌-◌, ◌*◌, ◌%◌, ◌^◌, ℤ, pos, negsuc, ◌+ℤ◌}
use Rattle.rv_isa.specs.Word.{signed}

-- z less the multiple of 2 ^ 64 that leaves a number of 64 bits
abbrev pub reduced : ℤ → ℕ
reduced (pos n) = n % 2 ^ 64
reduced (negsuc n) = 2 ^ 64 - 1 - n % 2 ^ 64

-- the sum of an address and a signed number, as a jump at that address makes it
unfoldable pub target : ℕ → ℤ → ℕ
target a off = reduced (pos a +ℤ off)

-- what an AUIPC at an address makes of its upper 20 bits
unfoldable pub made_by : ℕ → ℕ → ℕ
made_by a high = reduced (pos a +ℤ signed 32 (4096 * high))
