-- A hart, as instructions read and leave it. Source: the RISC-V Unprivileged ISA, "Programmers' Model for Base Integer ISA".
use Rattle.std.specs.Prelude.{ℕ, ◌+◌, ◌-◌, ◌*◌, ◌/◌, ◌%◌, ◌^◌, ◌==◌, ℤ, List, slice_index_or, slice_set, Option, Some, None, if◌then◌else◌}
use Rattle.link_tags.specs.declared.value.Value.{Value}
use Rattle.link_tags.specs.Values.{plain, link}
use Rattle.rv_alu.specs.Arithmetic.{reduced, extended}
use Rattle.hart.specs.declared.hart.Hart.{Hart}

-- register k, where x0 is zero
abbrev pub reg : List Value → ℕ → Value
reg regs k = if k == 0 then plain 0 else slice_index_or regs k (plain 0)

-- register k written, where x0 stays as it is
abbrev pub with_reg : List Value → ℕ → Value → List Value
with_reg regs k v = if k == 0 then regs else slice_set regs k v

-- addresses go round at 2 ^ 64
abbrev pub add64 : ℕ → ℕ → ℕ
add64 a b = (a + b) % 2 ^ 64

abbrev pub moved_by : ℕ → ℤ → ℕ
moved_by a z = add64 a (reduced 64 z)

-- the word after the one at a
abbrev pub after : ℕ → ℕ
after a = add64 a 4

-- the lowest bit is cleared
abbrev pub even : ℕ → ℕ
even a = a - a % 2

-- 20 bits shifted to the upper places of a number of 32 bits, which is extended by its sign
abbrev pub upper : ℕ → ℕ
upper imm = extended (imm * 2 ^ 12)

-- the address of the aligned 8 bytes that hold the byte a
abbrev pub block_of : ℕ → ℕ
block_of a = 8 * (a / 8)

-- a jump: the word after the one that stands at pc is linked in a register, and pc is its target
abbrev pub jumped : Hart → ℕ → Option ℕ → Hart
jumped h to None = record h { pc = to }
jumped h to (Some rd) = record h { regs = with_reg h.regs rd (link (after h.pc)); pc = to }
