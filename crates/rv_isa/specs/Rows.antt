-- The rows of the instruction set: for each operation, the fields that are fixed in its words.
-- Source: the RISC-V Unprivileged ISA, "RV32/64G Instruction Set Listings", the tables of RV32I, RV64I, RV32M, RV64M,
-- RV32A and RV64A. A row here has the listing's fields from left to right, in binary as they stand there.
-- A new instruction of a class that is here already is one more row.
use Rattle.std.specs.Prelude.{◌≡◌, ℕ, List, [], ◌∷◌}
use Rattle.rv_isa.specs.Word.{bits}
use Rattle.rv_isa.specs.declared.instr.AluOp.{AluOp}
use Rattle.rv_isa.specs.declared.instr.AluOp.TheVariants as alu
use Rattle.rv_isa.specs.declared.instr.ImmOp.{ImmOp}
use Rattle.rv_isa.specs.declared.instr.ImmOp.TheVariants as imm
use Rattle.rv_isa.specs.declared.instr.ShiftOp.{ShiftOp}
use Rattle.rv_isa.specs.declared.instr.ShiftOp.TheVariants as shift
use Rattle.rv_isa.specs.declared.instr.AmoOp.{AmoOp}
use Rattle.rv_isa.specs.declared.instr.AmoOp.TheVariants as amo
use Rattle.rv_isa.specs.declared.instr.Cond.{Cond}
use Rattle.rv_isa.specs.declared.instr.Cond.TheVariants as cond
use Rattle.rv_isa.specs.declared.instr.Width.{Width}
use Rattle.rv_isa.specs.declared.instr.Width.TheVariants as width

-- a fixed field: bits hi down to lo are value
pub record Field : Type 0 where
  pub hi : ℕ
  pub lo : ℕ
  pub value : ℕ

-- w has each of the fields
abbrev pub Has : ℕ → List Field → Type 0
Has w [] = Unit {0}
Has w (field ∷ fields) = (bits w field.hi field.lo ≡ field.value) × Has w fields

-- the fields by their names
abbrev pub f7 : ℕ → Field
f7 value = record { hi = 31; lo = 25; value = value }

abbrev pub f6 : ℕ → Field
f6 value = record { hi = 31; lo = 26; value = value }

abbrev pub f5 : ℕ → Field
f5 value = record { hi = 31; lo = 27; value = value }

abbrev pub rs2 : ℕ → Field
rs2 value = record { hi = 24; lo = 20; value = value }

abbrev pub f3 : ℕ → Field
f3 value = record { hi = 14; lo = 12; value = value }

abbrev pub code : ℕ → Field
code value = record { hi = 6; lo = 0; value = value }

-- OP and OP-32: funct7, rs2, rs1, funct3, rd, opcode
abbrev pub alu_row : AluOp → List Field
alu_row alu.Add = f7 0b0000000 ∷ f3 0b000 ∷ code 0b0110011 ∷ []
alu_row alu.Sub = f7 0b0100000 ∷ f3 0b000 ∷ code 0b0110011 ∷ []
alu_row alu.Sll = f7 0b0000000 ∷ f3 0b001 ∷ code 0b0110011 ∷ []
alu_row alu.Slt = f7 0b0000000 ∷ f3 0b010 ∷ code 0b0110011 ∷ []
alu_row alu.Sltu = f7 0b0000000 ∷ f3 0b011 ∷ code 0b0110011 ∷ []
alu_row alu.Xor = f7 0b0000000 ∷ f3 0b100 ∷ code 0b0110011 ∷ []
alu_row alu.Srl = f7 0b0000000 ∷ f3 0b101 ∷ code 0b0110011 ∷ []
alu_row alu.Sra = f7 0b0100000 ∷ f3 0b101 ∷ code 0b0110011 ∷ []
alu_row alu.Or = f7 0b0000000 ∷ f3 0b110 ∷ code 0b0110011 ∷ []
alu_row alu.And = f7 0b0000000 ∷ f3 0b111 ∷ code 0b0110011 ∷ []
alu_row alu.Mul = f7 0b0000001 ∷ f3 0b000 ∷ code 0b0110011 ∷ []
alu_row alu.Mulh = f7 0b0000001 ∷ f3 0b001 ∷ code 0b0110011 ∷ []
alu_row alu.Mulhsu = f7 0b0000001 ∷ f3 0b010 ∷ code 0b0110011 ∷ []
alu_row alu.Mulhu = f7 0b0000001 ∷ f3 0b011 ∷ code 0b0110011 ∷ []
alu_row alu.Div = f7 0b0000001 ∷ f3 0b100 ∷ code 0b0110011 ∷ []
alu_row alu.Divu = f7 0b0000001 ∷ f3 0b101 ∷ code 0b0110011 ∷ []
alu_row alu.Rem = f7 0b0000001 ∷ f3 0b110 ∷ code 0b0110011 ∷ []
alu_row alu.Remu = f7 0b0000001 ∷ f3 0b111 ∷ code 0b0110011 ∷ []
alu_row alu.Addw = f7 0b0000000 ∷ f3 0b000 ∷ code 0b0111011 ∷ []
alu_row alu.Subw = f7 0b0100000 ∷ f3 0b000 ∷ code 0b0111011 ∷ []
alu_row alu.Sllw = f7 0b0000000 ∷ f3 0b001 ∷ code 0b0111011 ∷ []
alu_row alu.Srlw = f7 0b0000000 ∷ f3 0b101 ∷ code 0b0111011 ∷ []
alu_row alu.Sraw = f7 0b0100000 ∷ f3 0b101 ∷ code 0b0111011 ∷ []
alu_row alu.Mulw = f7 0b0000001 ∷ f3 0b000 ∷ code 0b0111011 ∷ []
alu_row alu.Divw = f7 0b0000001 ∷ f3 0b100 ∷ code 0b0111011 ∷ []
alu_row alu.Divuw = f7 0b0000001 ∷ f3 0b101 ∷ code 0b0111011 ∷ []
alu_row alu.Remw = f7 0b0000001 ∷ f3 0b110 ∷ code 0b0111011 ∷ []
alu_row alu.Remuw = f7 0b0000001 ∷ f3 0b111 ∷ code 0b0111011 ∷ []

-- OP-IMM and OP-IMM-32: imm[11:0], rs1, funct3, rd, opcode
abbrev pub imm_row : ImmOp → List Field
imm_row imm.Addi = f3 0b000 ∷ code 0b0010011 ∷ []
imm_row imm.Slti = f3 0b010 ∷ code 0b0010011 ∷ []
imm_row imm.Sltiu = f3 0b011 ∷ code 0b0010011 ∷ []
imm_row imm.Xori = f3 0b100 ∷ code 0b0010011 ∷ []
imm_row imm.Ori = f3 0b110 ∷ code 0b0010011 ∷ []
imm_row imm.Andi = f3 0b111 ∷ code 0b0010011 ∷ []
imm_row imm.Addiw = f3 0b000 ∷ code 0b0011011 ∷ []

-- the shifts of OP-IMM, with 6 bits of amount below 6 fixed bits, and those of OP-IMM-32, with 5 below 7
abbrev pub shift_row : ShiftOp → List Field
shift_row shift.Slli = f6 0b000000 ∷ f3 0b001 ∷ code 0b0010011 ∷ []
shift_row shift.Srli = f6 0b000000 ∷ f3 0b101 ∷ code 0b0010011 ∷ []
shift_row shift.Srai = f6 0b010000 ∷ f3 0b101 ∷ code 0b0010011 ∷ []
shift_row shift.Slliw = f7 0b0000000 ∷ f3 0b001 ∷ code 0b0011011 ∷ []
shift_row shift.Srliw = f7 0b0000000 ∷ f3 0b101 ∷ code 0b0011011 ∷ []
shift_row shift.Sraiw = f7 0b0100000 ∷ f3 0b101 ∷ code 0b0011011 ∷ []

-- LUI, AUIPC and JAL have an opcode alone
abbrev pub lui_row : List Field
lui_row = code 0b0110111 ∷ []

abbrev pub auipc_row : List Field
auipc_row = code 0b0010111 ∷ []

abbrev pub jal_row : List Field
jal_row = code 0b1101111 ∷ []

abbrev pub jalr_row : List Field
jalr_row = f3 0b000 ∷ code 0b1100111 ∷ []

abbrev pub branch_row : Cond → List Field
branch_row cond.Eq = f3 0b000 ∷ code 0b1100011 ∷ []
branch_row cond.Ne = f3 0b001 ∷ code 0b1100011 ∷ []
branch_row cond.Lt = f3 0b100 ∷ code 0b1100011 ∷ []
branch_row cond.Ge = f3 0b101 ∷ code 0b1100011 ∷ []
branch_row cond.Ltu = f3 0b110 ∷ code 0b1100011 ∷ []
branch_row cond.Geu = f3 0b111 ∷ code 0b1100011 ∷ []

abbrev pub load_row : Width → List Field
load_row width.B = f3 0b000 ∷ code 0b0000011 ∷ []
load_row width.H = f3 0b001 ∷ code 0b0000011 ∷ []
load_row width.W = f3 0b010 ∷ code 0b0000011 ∷ []
load_row width.D = f3 0b011 ∷ code 0b0000011 ∷ []
load_row width.Bu = f3 0b100 ∷ code 0b0000011 ∷ []
load_row width.Hu = f3 0b101 ∷ code 0b0000011 ∷ []
load_row width.Wu = f3 0b110 ∷ code 0b0000011 ∷ []

-- a store comes in four widths; the others have no row
abbrev pub store_row : Width → List Field
store_row width.B = f3 0b000 ∷ code 0b0100011 ∷ []
store_row width.H = f3 0b001 ∷ code 0b0100011 ∷ []
store_row width.W = f3 0b010 ∷ code 0b0100011 ∷ []
store_row width.D = f3 0b011 ∷ code 0b0100011 ∷ []
store_row _ = []

-- AMO: funct5, aq, rl, rs2, rs1, funct3, rd, opcode, with the width in funct3
abbrev pub lr_row : List Field
lr_row = f5 0b00010 ∷ rs2 0b00000 ∷ code 0b0101111 ∷ []

abbrev pub sc_row : List Field
sc_row = f5 0b00011 ∷ code 0b0101111 ∷ []

abbrev pub amo_row : AmoOp → List Field
amo_row amo.Swap = f5 0b00001 ∷ code 0b0101111 ∷ []
amo_row amo.Add = f5 0b00000 ∷ code 0b0101111 ∷ []
amo_row amo.Xor = f5 0b00100 ∷ code 0b0101111 ∷ []
amo_row amo.And = f5 0b01100 ∷ code 0b0101111 ∷ []
amo_row amo.Or = f5 0b01000 ∷ code 0b0101111 ∷ []
amo_row amo.Min = f5 0b10000 ∷ code 0b0101111 ∷ []
amo_row amo.Max = f5 0b10100 ∷ code 0b0101111 ∷ []
amo_row amo.Minu = f5 0b11000 ∷ code 0b0101111 ∷ []
amo_row amo.Maxu = f5 0b11100 ∷ code 0b0101111 ∷ []

abbrev pub fence_row : List Field
fence_row = f3 0b000 ∷ code 0b0001111 ∷ []
