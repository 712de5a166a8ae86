-- The uses of a link that the monitor forbids, as far as registers tell. Source: this project. The rules are
--     1   an operand of arithmetic, but for ADDI rd, rs, 0, which moves a value
--     2   an operand of a branch
--     3   the address of a load, a store, LR, SC or an AMO
--     4   the value register of SC or an AMO; and the word that LR, SC or an AMO addresses, of which memory tells
--     5   a register that a system call reads, of which the call tells
--     6   the target of a JALR with an offset other than 0
use Rattle.std.specs.Prelude.{ℕ, ℤ, pos, zero, List, [], ◌∷◌, Option, Some, None, Bool, true, false, if◌then◌else◌}
use Rattle.rv_isa.specs.declared.instr.ImmOp.{ImmOp}
use Rattle.rv_isa.specs.declared.instr.ImmOp.TheVariants.{Addi}
use Rattle.rv_isa.specs.declared.instr.Instr.{Instr}
use Rattle.rv_isa.specs.declared.instr.Instr.TheVariants.{Alu, AluImm, ShiftImm, Lui, Auipc, Jal, Jalr, Branch, Load, Store, Lr, Sc, Amo, Fence, Ecall, Ebreak}
use Rattle.link_tags.specs.Values.{is_link}
use Rattle.link_tags.specs.declared.value.Value.{Value}
use Rattle.link_tags.specs.declared.monitor.LinkFault.{LinkFault}

-- a register that is used as a number, and what it holds
pub record Use : Type 0 where
  pub rule : ℕ
  pub reg : ℕ
  pub value : Value

abbrev pub use_as : ℕ → ℕ → Value → Use
use_as rule reg value = record { rule = rule; reg = reg; value = value }

abbrev pub is_zero : ℤ → Bool
is_zero (pos zero) = true
is_zero _ = false

-- ADDI rd, rs, 0 moves what rs holds
abbrev pub is_move : ImmOp → ℤ → Bool
is_move Addi imm = is_zero imm
is_move _ imm = false

-- the registers that an instruction uses as numbers, rs1 before rs2, where they hold a and b
unfoldable pub uses : Instr → Value → Value → List Use
uses (Alu op rd rs1 rs2) a b = use_as 1 rs1 a ∷ use_as 1 rs2 b ∷ []
uses (AluImm op rd rs1 imm) a b = if is_move op imm then [] else use_as 1 rs1 a ∷ []
uses (ShiftImm op rd rs1 by) a b = use_as 1 rs1 a ∷ []
uses (Lui rd imm) a b = []
uses (Auipc rd imm) a b = []
uses (Jal rd off) a b = []
uses (Jalr rd rs1 off) a b = if is_zero off then [] else use_as 6 rs1 a ∷ []
uses (Branch cond rs1 rs2 off) a b = use_as 2 rs1 a ∷ use_as 2 rs2 b ∷ []
uses (Load width rd rs1 off) a b = use_as 3 rs1 a ∷ []
uses (Store width rs2 rs1 off) a b = use_as 3 rs1 a ∷ []
uses (Lr wide order rd rs1) a b = use_as 3 rs1 a ∷ []
uses (Sc wide order rd rs1 rs2) a b = use_as 3 rs1 a ∷ use_as 4 rs2 b ∷ []
uses (Amo op wide order rd rs1 rs2) a b = use_as 3 rs1 a ∷ use_as 4 rs2 b ∷ []
uses (Fence rd rs1 imm) a b = []
uses Ecall a b = []
uses Ebreak a b = []

abbrev pub link_fault : Use → LinkFault
link_fault u = record { rule = u.rule; reg = u.reg }

-- the first of some uses that finds a link
abbrev pub first_link : List Use → Option LinkFault
first_link [] = None
first_link (u ∷ us) = if is_link u.value.tag then Some (link_fault u) else first_link us

-- the first forbidden use of a register
abbrev pub forbidden : Instr → Value → Value → Option LinkFault
forbidden i a b = first_link (uses i a b)
