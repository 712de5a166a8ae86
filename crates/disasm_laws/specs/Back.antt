-- A line that the assembler reads back as one word, wherever in the text of a program the line stands.
-- The readings are the assembler's own: statements of a line, what a statement gives, and which faults it has.
use Rattle.std.specs.Prelude.{◌≡◌, ◌↔◌, ℕ, ◌<◌, ◌^◌, List, [], ◌∷◌}
use Rattle.rv_isa.specs.Ranges.{IsImm12, IsOffB, IsOffJ}
use Rattle.rv_isa.specs.declared.instr.Instr.{Instr}
use Rattle.rv_isa.specs.declared.instr.Instr.TheVariants.{Alu, AluImm, ShiftImm, Lui, Auipc, Jal, Jalr, Branch, Load, Store, Lr, Sc, Amo, Fence, Ecall, Ebreak}
use Rattle.asm_text.specs.Statements.{line_statements}
use Rattle.asm_text.specs.declared.keyword.Section.TheVariants.{Text}
use Rattle.asm_text.specs.declared.statement.Statement.{Statement}
use Rattle.rv_asm.specs.declared.meaning.Meaning.{Meaning}
use Rattle.rv_asm.specs.declared.state.State.{State}
use Rattle.rv_asm.specs.Names.{text_at}
use Rattle.rv_asm.specs.Emission.{AreWords, code}
use Rattle.rv_asm.specs.Faults.{faults, size_faults}

-- The line is one statement without a label. It gives this one word of 32 bits, and no fault but that of a text that is too long.
pub record IsWord (line : List ℕ) (word number : ℕ) (names : List (List ℕ × Meaning)) (s : State) : Type 0 where
  pub statement : Statement
  pub alone : line_statements number line ≡ statement ∷ []
  pub bare : statement.labels ≡ []
  pub gives : (v : ℕ) → v < 2 ^ 32 → AreWords (v ∷ []) (code names s statement) ↔ (v ≡ word)
  pub sound : faults names s statement ≡ size_faults s number statement.body

-- the line at this address in text, with any number and among any names
abbrev pub ReadsBack : (line : List ℕ) → (at word : ℕ) → Type 0
ReadsBack line at word =
    (number : ℕ) (names : List (List ℕ × Meaning)) (s : State) → s.section ≡ Text → text_at s ≡ at → IsWord line word number names s

-- Each operand of an instruction is in the range of its field.
abbrev pub HasRanges : Instr → Type 0
HasRanges (Alu op rd rs1 rs2) = (rd < 32) × (rs1 < 32) × (rs2 < 32)
HasRanges (AluImm op rd rs1 imm) = (rd < 32) × (rs1 < 32) × IsImm12 imm
HasRanges (ShiftImm op rd rs1 by) = (rd < 32) × (rs1 < 32) × (by < 64)
HasRanges (Lui rd imm) = (rd < 32) × (imm < 2 ^ 20)
HasRanges (Auipc rd imm) = (rd < 32) × (imm < 2 ^ 20)
HasRanges (Jal rd off) = (rd < 32) × IsOffJ off
HasRanges (Jalr rd rs1 off) = (rd < 32) × (rs1 < 32) × IsImm12 off
HasRanges (Branch cond rs1 rs2 off) = (rs1 < 32) × (rs2 < 32) × IsOffB off
HasRanges (Load width rd rs1 off) = (rd < 32) × (rs1 < 32) × IsImm12 off
HasRanges (Store width rs2 rs1 off) = (rs2 < 32) × (rs1 < 32) × IsImm12 off
HasRanges (Lr wide order rd rs1) = (rd < 32) × (rs1 < 32)
HasRanges (Sc wide order rd rs1 rs2) = (rd < 32) × (rs1 < 32) × (rs2 < 32)
HasRanges (Amo op wide order rd rs1 rs2) = (rd < 32) × (rs1 < 32) × (rs2 < 32)
HasRanges (Fence rd rs1 imm) = Unit {0}
HasRanges Ecall = Unit {0}
HasRanges Ebreak = Unit {0}
