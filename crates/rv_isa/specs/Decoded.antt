-- The instruction that a word reads as, as a function for definitions that compute: each row is tried, and the first whose
-- fixed fields the word has gives the instruction. Reads says the same as a relation, and `decode` of rv_decode answers by
-- both. As a word reads as one instruction at most, the order of the rows doesn't matter.
use Rattle.std.specs.Prelude.{ℕ, List, [], ◌∷◌, Bool, true, false, ◌==◌, ◌&&◌, Option, Some, None, if◌then◌else◌}
use Rattle.std.specs.List.{find}
use Rattle.std.specs.Option.{option_map, option_and_then}
use Rattle.finite.specs.First.{first_of}
use Rattle.rv_isa.specs.Word.{bits, rd_of, rs1_of, rs2_of, imm_i, imm_s, imm_b, imm_u, imm_j}
use Rattle.rv_isa.specs.Rows.{Field, alu_row, imm_row, shift_row, lui_row, auipc_row, jal_row, jalr_row, branch_row, load_row, store_row, lr_row, sc_row, amo_row, fence_row}
use Rattle.rv_isa.specs.Reads.{amount_of, width_row, order_of}
use Rattle.rv_isa.specs.declared.instr.AluOp.{AluOp}
use Rattle.rv_isa.specs.declared.instr.AluOp.TheVariants as alu
use Rattle.rv_isa.specs.declared.instr.ImmOp.{ImmOp}
use Rattle.rv_isa.specs.declared.instr.ImmOp.TheVariants as imm
use Rattle.rv_isa.specs.declared.instr.ShiftOp.{ShiftOp}
use Rattle.rv_isa.specs.declared.instr.ShiftOp.TheVariants as shift
use Rattle.rv_isa.specs.declared.instr.AmoOp.{AmoOp}
use Rattle.rv_isa.specs.declared.instr.AmoOp.TheVariants as amo
use Rattle.rv_isa.specs.declared.instr.Cond.{Cond}
use Rattle.rv_isa.specs.declared.instr.Cond.TheVariants as cond
use Rattle.rv_isa.specs.declared.instr.Width.{Width}
use Rattle.rv_isa.specs.declared.instr.Width.TheVariants as width
use Rattle.rv_isa.specs.declared.instr.Instr.{Instr}
use Rattle.rv_isa.specs.declared.instr.Instr.TheVariants.{Alu, AluImm, ShiftImm, Lui, Auipc, Jal, Jalr, Branch, Load, Store, Lr, Sc, Amo, Fence, Ecall, Ebreak}

-- the operations of each class, and the widths
abbrev pub alu_ops : List AluOp
alu_ops = alu.Add ∷ alu.Sub ∷ alu.Sll ∷ alu.Slt ∷ alu.Sltu ∷ alu.Xor ∷ alu.Srl ∷ alu.Sra ∷ alu.Or ∷ alu.And
    ∷ alu.Mul ∷ alu.Mulh ∷ alu.Mulhsu ∷ alu.Mulhu ∷ alu.Div ∷ alu.Divu ∷ alu.Rem ∷ alu.Remu
    ∷ alu.Addw ∷ alu.Subw ∷ alu.Sllw ∷ alu.Srlw ∷ alu.Sraw ∷ alu.Mulw ∷ alu.Divw ∷ alu.Divuw ∷ alu.Remw ∷ alu.Remuw ∷ []

abbrev pub imm_ops : List ImmOp
imm_ops = imm.Addi ∷ imm.Slti ∷ imm.Sltiu ∷ imm.Xori ∷ imm.Ori ∷ imm.Andi ∷ imm.Addiw ∷ []

abbrev pub shift_ops : List ShiftOp
shift_ops = shift.Slli ∷ shift.Srli ∷ shift.Srai ∷ shift.Slliw ∷ shift.Srliw ∷ shift.Sraiw ∷ []

abbrev pub conditions : List Cond
conditions = cond.Eq ∷ cond.Ne ∷ cond.Lt ∷ cond.Ge ∷ cond.Ltu ∷ cond.Geu ∷ []

abbrev pub load_widths : List Width
load_widths = width.B ∷ width.H ∷ width.W ∷ width.D ∷ width.Bu ∷ width.Hu ∷ width.Wu ∷ []

abbrev pub store_widths : List Width
store_widths = width.B ∷ width.H ∷ width.W ∷ width.D ∷ []

abbrev pub widths : List Bool
widths = true ∷ false ∷ []

abbrev pub amo_ops : List AmoOp
amo_ops = amo.Swap ∷ amo.Add ∷ amo.Xor ∷ amo.And ∷ amo.Or ∷ amo.Min ∷ amo.Max ∷ amo.Minu ∷ amo.Maxu ∷ []

-- the test of Has
abbrev pub has : ℕ → List Field → Bool
has w [] = true
has w (f ∷ fs) = bits w f.hi f.lo == f.value && has w fs

-- the first of these operations whose row w has
unfoldable pub row_in : {A : Type 0} → ℕ → (A → List Field) → List A → Option A
row_in w row ops = find (λ op. has w (row op)) ops

-- an instruction where w has these fields
unfoldable pub where_has : ℕ → List Field → Instr → Option Instr
where_has w fields i = if has w fields then Some i else None

-- an instruction of this one word
unfoldable pub where_is : ℕ → ℕ → Instr → Option Instr
where_is w word i = if w == word then Some i else None

-- what each class of instructions gives for a word
unfoldable pub readings : ℕ → List (Option Instr)
readings w =
    option_map (λ op. Alu op (rd_of w) (rs1_of w) (rs2_of w)) (row_in w alu_row alu_ops)
    ∷ option_map (λ op. AluImm op (rd_of w) (rs1_of w) (imm_i w)) (row_in w imm_row imm_ops)
    ∷ option_map (λ op. ShiftImm op (rd_of w) (rs1_of w) (amount_of op w)) (row_in w shift_row shift_ops)
    ∷ where_has w lui_row (Lui (rd_of w) (imm_u w))
    ∷ where_has w auipc_row (Auipc (rd_of w) (imm_u w))
    ∷ where_has w jal_row (Jal (rd_of w) (imm_j w))
    ∷ where_has w jalr_row (Jalr (rd_of w) (rs1_of w) (imm_i w))
    ∷ option_map (λ c. Branch c (rs1_of w) (rs2_of w) (imm_b w)) (row_in w branch_row conditions)
    ∷ option_map (λ width. Load width (rd_of w) (rs1_of w) (imm_i w)) (row_in w load_row load_widths)
    ∷ option_map (λ width. Store width (rs2_of w) (rs1_of w) (imm_s w)) (row_in w store_row store_widths)
    ∷ option_and_then (λ wide. where_has w lr_row (Lr wide (order_of w) (rd_of w) (rs1_of w))) (row_in w width_row widths)
    ∷ option_and_then (λ wide. where_has w sc_row (Sc wide (order_of w) (rd_of w) (rs1_of w) (rs2_of w))) (row_in w width_row widths)
    ∷ option_and_then (λ wide. option_map (λ op. Amo op wide (order_of w) (rd_of w) (rs1_of w) (rs2_of w)) (row_in w amo_row amo_ops)) (row_in w width_row widths)
    ∷ where_has w fence_row (Fence (rd_of w) (rs1_of w) (imm_i w))
    ∷ where_is w 0x00000073 Ecall
    ∷ where_is w 0x00100073 Ebreak
    ∷ []

-- the instruction that a word is, if it is one: that of the first row that it has
unfoldable pub decoded : ℕ → Option Instr
decoded w = first_of (readings w)
