-- Where the words that jump go. Source: the RISC-V Unprivileged ISA, "Control Transfer Instructions".
use Rattle.std.specs.Prelude.{ℕ, ℤ, not, ◌==◌, ◌&&◌, Option, Some, None, option_and_then, if◌then◌else◌}
use Rattle.rv_isa.specs.Decoded.{decoded}
use Rattle.rv_isa.specs.declared.instr.Instr.{Instr}
use Rattle.rv_isa.specs.declared.instr.Instr.TheVariants.{Auipc, Jal, Jalr, Branch}
use Rattle.image.specs.Targets.{target, made_by}

-- where an instruction at a goes, if it is a JAL
abbrev pub jal_goes_to : ℕ → Instr → Option ℕ
jal_goes_to a (Jal rd off) = Some (target a off)
jal_goes_to a _ = None

-- where an instruction at a goes, if it is a JAL or a branch
abbrev pub goes_to : ℕ → Instr → Option ℕ
goes_to a (Jal rd off) = Some (target a off)
goes_to a (Branch c rs1 rs2 off) = Some (target a off)
goes_to a _ = None

-- the register and the upper bits of an AUIPC
abbrev pub high_of : Instr → Option (ℕ × ℕ)
high_of (Auipc rd high) = Some (rd, high)
high_of _ = None

-- the register and the distance of a JALR
abbrev pub low_of : Instr → Option (ℕ × ℤ)
low_of (Jalr rd rs1 off) = Some (rs1, off)
low_of _ = None

-- where the word w at a goes, if it reads as a JAL
unfoldable pub jal_target : ℕ → ℕ → Option ℕ
jal_target w a = option_and_then (jal_goes_to a) (decoded w)

-- where the word w at a goes, if it reads as a JAL or a branch
unfoldable pub direct_target : ℕ → ℕ → Option ℕ
direct_target w a = option_and_then (goes_to a) (decoded w)

-- the sum that a JALR by the register of an AUIPC at a makes, if the register isn't x0
abbrev pub sum_of : ℕ → ℕ × ℕ → ℕ × ℤ → Option ℕ
sum_of a h l = if not (h.0 == 0) && l.0 == h.0 then Some (target (made_by a h.1) l.1) else None

-- where v at a and w after it go, if they read as an AUIPC of a register other than x0 and a JALR by it
unfoldable pub far_target : ℕ → ℕ → ℕ → Option ℕ
far_target v w a = option_and_then (λ h. option_and_then (sum_of a h) (option_and_then low_of (decoded w))) (option_and_then high_of (decoded v))
