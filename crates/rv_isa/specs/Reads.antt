-- Which instruction a word reads as: one rule for each class, over the rows and the places of the operands.
-- Source: the RISC-V Unprivileged ISA, "RV32/64G Instruction Set Listings".
use Rattle.std.specs.Prelude.{◌≡◌, ℕ, List, [], ◌∷◌, Bool, true, false, ◌==◌}
use Rattle.rv_isa.specs.Word.{bits, rd_of, rs1_of, rs2_of, imm_i, imm_s, imm_b, imm_u, imm_j}
use Rattle.rv_isa.specs.Rows.{Field, Has, f3, alu_row, imm_row, shift_row, lui_row, auipc_row, jal_row, jalr_row, branch_row, load_row, store_row, lr_row, sc_row, amo_row, fence_row}
use Rattle.rv_isa.specs.Instr.{IsStoreWidth}
use Rattle.rv_isa.specs.declared.instr.ShiftOp.{ShiftOp}
use Rattle.rv_isa.specs.declared.instr.ShiftOp.TheVariants.{Slli, Srli, Srai}
use Rattle.rv_isa.specs.declared.instr.Order.{Order}
use Rattle.rv_isa.specs.declared.instr.Instr.{Instr}
use Rattle.rv_isa.specs.declared.instr.Instr.TheVariants.{Alu, AluImm, ShiftImm, Lui, Auipc, Jal, Jalr, Branch, Load, Store, Lr, Sc, Amo, Fence, Ecall, Ebreak}

-- the amount of a shift: 6 bits, and 5 for a shift of 32 bits
abbrev pub amount_of : ShiftOp → ℕ → ℕ
amount_of Slli w = bits w 25 20
amount_of Srli w = bits w 25 20
amount_of Srai w = bits w 25 20
amount_of _ w = bits w 24 20

-- the width of an atomic access, of 8 bytes or of 4
abbrev pub width_row : Bool → List Field
width_row true = f3 0b011 ∷ []
width_row false = f3 0b010 ∷ []

-- the bits aq and rl of an atomic access
abbrev pub order_of : ℕ → Order
order_of w = record { aq = bits w 26 26 == 1; rl = bits w 25 25 == 1 }

-- w has the fixed fields of i's row, and each operand of i is what stands in its place in w
unfoldable pub Reads : ℕ → Instr → Type 0
Reads w (Alu op rd rs1 rs2) = Has w (alu_row op) × (rd ≡ rd_of w) × (rs1 ≡ rs1_of w) × (rs2 ≡ rs2_of w)
Reads w (AluImm op rd rs1 imm) = Has w (imm_row op) × (rd ≡ rd_of w) × (rs1 ≡ rs1_of w) × (imm ≡ imm_i w)
Reads w (ShiftImm op rd rs1 by) = Has w (shift_row op) × (rd ≡ rd_of w) × (rs1 ≡ rs1_of w) × (by ≡ amount_of op w)
Reads w (Lui rd imm) = Has w lui_row × (rd ≡ rd_of w) × (imm ≡ imm_u w)
Reads w (Auipc rd imm) = Has w auipc_row × (rd ≡ rd_of w) × (imm ≡ imm_u w)
Reads w (Jal rd off) = Has w jal_row × (rd ≡ rd_of w) × (off ≡ imm_j w)
Reads w (Jalr rd rs1 off) = Has w jalr_row × (rd ≡ rd_of w) × (rs1 ≡ rs1_of w) × (off ≡ imm_i w)
Reads w (Branch cond rs1 rs2 off) = Has w (branch_row cond) × (rs1 ≡ rs1_of w) × (rs2 ≡ rs2_of w) × (off ≡ imm_b w)
Reads w (Load width rd rs1 off) = Has w (load_row width) × (rd ≡ rd_of w) × (rs1 ≡ rs1_of w) × (off ≡ imm_i w)
Reads w (Store width rs2 rs1 off) = IsStoreWidth width × Has w (store_row width) × (rs2 ≡ rs2_of w) × (rs1 ≡ rs1_of w) × (off ≡ imm_s w)
Reads w (Lr wide order rd rs1) = Has w lr_row × Has w (width_row wide) × (order ≡ order_of w) × (rd ≡ rd_of w) × (rs1 ≡ rs1_of w)
Reads w (Sc wide order rd rs1 rs2) = Has w sc_row × Has w (width_row wide) × (order ≡ order_of w) × (rd ≡ rd_of w) × (rs1 ≡ rs1_of w) × (rs2 ≡ rs2_of w)
Reads w (Amo op wide order rd rs1 rs2) = Has w (amo_row op) × Has w (width_row wide) × (order ≡ order_of w) × (rd ≡ rd_of w) × (rs1 ≡ rs1_of w) × (rs2 ≡ rs2_of w)
Reads w (Fence rd rs1 imm) = Has w fence_row × (rd ≡ rd_of w) × (rs1 ≡ rs1_of w) × (imm ≡ imm_i w)
Reads w Ecall = w ≡ 0x00000073
Reads w Ebreak = w ≡ 0x00100073
