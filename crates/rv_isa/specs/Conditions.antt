-- When a branch is taken, by the values of rs1 and rs2 as numbers of 64 bits.
-- Source: the RISC-V Unprivileged ISA, RV32I, "Conditional Branches": BLT and BGE compare as signed numbers,
-- BLTU and BGEU as unsigned ones.
use Rattle.std.specs.Prelude.{◌≡◌, ◌≢◌, ◌<◌, ◌≤◌, ℕ, ◌<ℤ◌, ◌≤ℤ◌}
use Rattle.rv_isa.specs.Word.{signed}
use Rattle.rv_isa.specs.declared.instr.Cond.{Cond}
use Rattle.rv_isa.specs.declared.instr.Cond.TheVariants.{Eq, Ne, Lt, Ge, Ltu, Geu}

abbrev pub Holds : Cond → ℕ → ℕ → Type 0
Holds Eq a b = a ≡ b
Holds Ne a b = a ≢ b
Holds Lt a b = signed 64 a <ℤ signed 64 b
Holds Ge a b = signed 64 b ≤ℤ signed 64 a
Holds Ltu a b = a < b
Holds Geu a b = b ≤ a

-- the condition that holds exactly where this one doesn't
abbrev pub opposite : Cond → Cond
opposite Eq = Ne
opposite Ne = Eq
opposite Lt = Ge
opposite Ge = Lt
opposite Ltu = Geu
opposite Geu = Ltu
