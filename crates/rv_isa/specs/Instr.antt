-- Which instructions have a word: those whose operands fit the fields of their row.
use Rattle.std.specs.Prelude.{ℕ, ◌<◌}
use Rattle.rv_isa.specs.declared.instr.Instr.{Instr}
use Rattle.rv_isa.specs.declared.instr.Instr.TheVariants.{ShiftImm, Store}
use Rattle.rv_isa.specs.declared.instr.ShiftOp.{ShiftOp}
use Rattle.rv_isa.specs.declared.instr.ShiftOp.TheVariants.{Slliw, Srliw, Sraiw}
use Rattle.rv_isa.specs.declared.instr.Width.{Width}
use Rattle.rv_isa.specs.declared.instr.Width.TheVariants.{Bu, Hu, Wu}

-- a shift of 32 bits has an amount of 5 bits
abbrev pub IsAmount : ShiftOp → ℕ → Type 0
IsAmount Slliw by = by < 32
IsAmount Srliw by = by < 32
IsAmount Sraiw by = by < 32
IsAmount _ by = Unit {0}

-- a store doesn't extend what it moves, so it comes in four widths
abbrev pub IsStoreWidth : Width → Type 0
IsStoreWidth Bu = ⊥
IsStoreWidth Hu = ⊥
IsStoreWidth Wu = ⊥
IsStoreWidth _ = Unit {0}

abbrev pub HasWord : Instr → Type 0
HasWord (ShiftImm op rd rs1 by) = IsAmount op by
HasWord (Store width rs2 rs1 off) = IsStoreWidth width
HasWord _ = Unit {0}
