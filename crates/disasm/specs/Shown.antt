-- A word as a statement of the assembler: the name of its instruction and the operands, registers as x0 to x31, targets,
-- upper immediates and raw words in hexadecimal digits, other numbers in decimal ones. A word that no statement names is
-- shown as `.word`: one that no instruction reads, one that asks for an order of accesses, and one whose target lies
-- outside the address space.
-- Source: the RISC-V Unprivileged ISA, "RV32/64G Instruction Set Listings"; docs/assembler.md.
use Rattle.std.specs.Prelude.{ℕ, ◌^◌, ℤ, pos, ◌+ℤ◌, int_lt, unsigned_abs, Bool, true, false, not, ◌==◌, ◌&&◌, ◌||◌, List, [], ◌∷◌, ◌++◌, codes, Option, Some, None, if◌then◌else◌}
use Rattle.std.specs.Fmt.{decimal, signed_decimal, digits}
use Rattle.std.specs.Option.{option_map_or}
use Rattle.rv_isa.specs.Decoded.{decoded}
use Rattle.rv_isa.specs.declared.instr.AluOp.{AluOp}
use Rattle.rv_isa.specs.declared.instr.AluOp.TheVariants as alu
use Rattle.rv_isa.specs.declared.instr.ImmOp.{ImmOp}
use Rattle.rv_isa.specs.declared.instr.ImmOp.TheVariants as imm
use Rattle.rv_isa.specs.declared.instr.ShiftOp.{ShiftOp}
use Rattle.rv_isa.specs.declared.instr.ShiftOp.TheVariants as shift
use Rattle.rv_isa.specs.declared.instr.AmoOp.{AmoOp}
use Rattle.rv_isa.specs.declared.instr.AmoOp.TheVariants as amo
use Rattle.rv_isa.specs.declared.instr.Cond.{Cond}
use Rattle.rv_isa.specs.declared.instr.Cond.TheVariants as cond_of
use Rattle.rv_isa.specs.declared.instr.Width.{Width}
use Rattle.rv_isa.specs.declared.instr.Width.TheVariants as width_of
use Rattle.rv_isa.specs.declared.instr.Order.{Order}
use Rattle.rv_isa.specs.declared.instr.Instr.{Instr}
use Rattle.rv_isa.specs.declared.instr.Instr.TheVariants.{Alu, AluImm, ShiftImm, Lui, Auipc, Jal, Jalr, Branch, Load, Store, Lr, Sc, Amo, Fence, Ecall, Ebreak}

-- ---- operands

pub data Operand : Type 0 where
  register : (number : ℕ) → Operand
  number : (value : ℤ) → Operand
  hexadecimal : (value : ℕ) → Operand
  -- a distance from what a register holds
  based : (distance : ℤ) → (number : ℕ) → Operand
  -- what a register holds
  base : (number : ℕ) → Operand

abbrev pub register_text : ℕ → List ℕ
register_text n = codes "x" ++ decimal n

abbrev pub hex_text : ℕ → List ℕ
hex_text n = codes "0x" ++ digits 16 false n

abbrev pub base_text : ℕ → List ℕ
base_text n = codes "(" ++ register_text n ++ codes ")"

abbrev pub operand_text : Operand → List ℕ
operand_text (register n) = register_text n
operand_text (number z) = signed_decimal z
operand_text (hexadecimal n) = hex_text n
operand_text (based z n) = signed_decimal z ++ base_text n
operand_text (base n) = base_text n

-- a comma and a blank part two operands
abbrev pub operands_text : List Operand → List ℕ
operands_text [] = []
operands_text (o ∷ []) = operand_text o
operands_text (o ∷ p ∷ os) = operand_text o ++ codes ", " ++ operands_text (p ∷ os)

abbrev pub statement : (name : List ℕ) → List Operand → List ℕ
statement name [] = name
statement name (o ∷ os) = name ++ codes " " ++ operands_text (o ∷ os)

-- ---- names

abbrev pub alu_name : AluOp → List ℕ
alu_name alu.Add = codes "add"
alu_name alu.Sub = codes "sub"
alu_name alu.Sll = codes "sll"
alu_name alu.Slt = codes "slt"
alu_name alu.Sltu = codes "sltu"
alu_name alu.Xor = codes "xor"
alu_name alu.Srl = codes "srl"
alu_name alu.Sra = codes "sra"
alu_name alu.Or = codes "or"
alu_name alu.And = codes "and"
alu_name alu.Mul = codes "mul"
alu_name alu.Mulh = codes "mulh"
alu_name alu.Mulhsu = codes "mulhsu"
alu_name alu.Mulhu = codes "mulhu"
alu_name alu.Div = codes "div"
alu_name alu.Divu = codes "divu"
alu_name alu.Rem = codes "rem"
alu_name alu.Remu = codes "remu"
alu_name alu.Addw = codes "addw"
alu_name alu.Subw = codes "subw"
alu_name alu.Sllw = codes "sllw"
alu_name alu.Srlw = codes "srlw"
alu_name alu.Sraw = codes "sraw"
alu_name alu.Mulw = codes "mulw"
alu_name alu.Divw = codes "divw"
alu_name alu.Divuw = codes "divuw"
alu_name alu.Remw = codes "remw"
alu_name alu.Remuw = codes "remuw"

abbrev pub imm_name : ImmOp → List ℕ
imm_name imm.Addi = codes "addi"
imm_name imm.Slti = codes "slti"
imm_name imm.Sltiu = codes "sltiu"
imm_name imm.Xori = codes "xori"
imm_name imm.Ori = codes "ori"
imm_name imm.Andi = codes "andi"
imm_name imm.Addiw = codes "addiw"

abbrev pub shift_name : ShiftOp → List ℕ
shift_name shift.Slli = codes "slli"
shift_name shift.Srli = codes "srli"
shift_name shift.Srai = codes "srai"
shift_name shift.Slliw = codes "slliw"
shift_name shift.Srliw = codes "srliw"
shift_name shift.Sraiw = codes "sraiw"

abbrev pub branch_name : Cond → List ℕ
branch_name cond_of.Eq = codes "beq"
branch_name cond_of.Ne = codes "bne"
branch_name cond_of.Lt = codes "blt"
branch_name cond_of.Ge = codes "bge"
branch_name cond_of.Ltu = codes "bltu"
branch_name cond_of.Geu = codes "bgeu"

abbrev pub load_name : Width → List ℕ
load_name width_of.B = codes "lb"
load_name width_of.H = codes "lh"
load_name width_of.W = codes "lw"
load_name width_of.D = codes "ld"
load_name width_of.Bu = codes "lbu"
load_name width_of.Hu = codes "lhu"
load_name width_of.Wu = codes "lwu"

-- a store has one of four widths
abbrev pub store_name : Width → List ℕ
store_name width_of.B = codes "sb"
store_name width_of.H = codes "sh"
store_name width_of.W = codes "sw"
store_name _ = codes "sd"

abbrev pub amo_name : AmoOp → List ℕ
amo_name amo.Swap = codes "amoswap"
amo_name amo.Add = codes "amoadd"
amo_name amo.Xor = codes "amoxor"
amo_name amo.And = codes "amoand"
amo_name amo.Or = codes "amoor"
amo_name amo.Min = codes "amomin"
amo_name amo.Max = codes "amomax"
amo_name amo.Minu = codes "amominu"
amo_name amo.Maxu = codes "amomaxu"

-- the width of an atomic access, which stands behind its name
abbrev pub wide_name : Bool → List ℕ
wide_name true = codes ".d"
wide_name false = codes ".w"

-- ---- instructions

-- the address that is so far from this one, if it is an address
unfoldable pub target_from : (at : ℕ) → (off : ℤ) → Option ℕ
target_from at off =
    if int_lt (pos at +ℤ off) (pos 0) || not (int_lt (pos at +ℤ off) (pos (2 ^ 64))) then None else Some (unsigned_abs (pos at +ℤ off))

abbrev pub word_text : ℕ → List ℕ
word_text word = statement (codes ".word") (hexadecimal word ∷ [])

-- a statement of an atomic instruction asks for no order
abbrev pub if_plain : Order → (text word : List ℕ) → List ℕ
if_plain order text word = if order.aq || order.rl then word else text

-- a statement `fence` orders all accesses, and its registers are x0
abbrev pub is_full : (rd rs1 : ℕ) → ℤ → Bool
is_full rd rs1 imm = rd == 0 && (rs1 == 0 && (not (int_lt imm (pos 0)) && unsigned_abs imm == 255))

-- the statement of an instruction at an address, whose word this is
unfoldable pub instruction_text : (word at : ℕ) → Instr → List ℕ
instruction_text word at (Alu op rd rs1 rs2) = statement (alu_name op) (register rd ∷ register rs1 ∷ register rs2 ∷ [])
instruction_text word at (AluImm op rd rs1 imm) = statement (imm_name op) (register rd ∷ register rs1 ∷ number imm ∷ [])
instruction_text word at (ShiftImm op rd rs1 by) = statement (shift_name op) (register rd ∷ register rs1 ∷ number (pos by) ∷ [])
instruction_text word at (Lui rd imm) = statement (codes "lui") (register rd ∷ hexadecimal imm ∷ [])
instruction_text word at (Auipc rd imm) = statement (codes "auipc") (register rd ∷ hexadecimal imm ∷ [])
instruction_text word at (Jal rd off) = option_map_or (λ to. statement (codes "jal") (register rd ∷ hexadecimal to ∷ [])) (target_from at off) (word_text word)
instruction_text word at (Jalr rd rs1 off) = statement (codes "jalr") (register rd ∷ based off rs1 ∷ [])
instruction_text word at (Branch cond rs1 rs2 off) = option_map_or (λ to. statement (branch_name cond) (register rs1 ∷ register rs2 ∷ hexadecimal to ∷ [])) (target_from at off) (word_text word)
instruction_text word at (Load width rd rs1 off) = statement (load_name width) (register rd ∷ based off rs1 ∷ [])
instruction_text word at (Store width rs2 rs1 off) = statement (store_name width) (register rs2 ∷ based off rs1 ∷ [])
instruction_text word at (Lr wide order rd rs1) = if_plain order (statement (codes "lr" ++ wide_name wide) (register rd ∷ base rs1 ∷ [])) (word_text word)
instruction_text word at (Sc wide order rd rs1 rs2) = if_plain order (statement (codes "sc" ++ wide_name wide) (register rd ∷ register rs2 ∷ base rs1 ∷ [])) (word_text word)
instruction_text word at (Amo op wide order rd rs1 rs2) = if_plain order (statement (amo_name op ++ wide_name wide) (register rd ∷ register rs2 ∷ base rs1 ∷ [])) (word_text word)
instruction_text word at (Fence rd rs1 imm) = if is_full rd rs1 imm then codes "fence" else word_text word
instruction_text word at Ecall = codes "ecall"
instruction_text word at Ebreak = codes "ebreak"

-- the statement of a word at an address
unfoldable pub shown : (word at : ℕ) → List ℕ
shown word at = option_map_or (instruction_text word at) (decoded word) (word_text word)
