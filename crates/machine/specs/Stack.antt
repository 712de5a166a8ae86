-- Where the stack lies, and what stands in it before the first step. Source: this project's address map.
use Rattle.std.specs.Prelude.{ℕ}

-- the first address of the stack
abbrev pub stack_start : ℕ
stack_start = 0x0f80_0000

-- its end, and that of the guest's addresses
abbrev pub stack_end : ℕ
stack_end = 0x1000_0000

-- what x2 holds
abbrev pub stack_pointer : ℕ
stack_pointer = 0x0fff_ff70

-- the address of the program's name
abbrev pub name_at : ℕ
name_at = 0x0fff_fff8
