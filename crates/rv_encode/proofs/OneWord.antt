-- Two words of one instruction are one word: they agree in the fields of their row and in its operands, and the fields
-- and operands of a format make up the word.
use Rattle.std.proofs.Common.{◌≡◌, ◌<◌, ◌^◌, ◌+◌, ◌*◌, ℕ, Bool, true, false, ◌==◌, ap, sym, ◌∙◌, arith}
use Rattle.std.proofs.lemmas.Int.{ints}
use Rattle.std.proofs.lemmas.Bool.Decides.{nat_tests}
use Rattle.rv_isa.specs.declared.instr.Order.{Order}
use Rattle.rv_isa.specs.Word.{bits, signed, opcode, rd_of, funct3, rs1_of, rs2_of, funct7, imm_i, imm_s, imm_b, imm_u, imm_j}
use Rattle.rv_isa.specs.Instr.{IsStoreWidth}
use Rattle.rv_isa.specs.Rows.{Has, alu_row, imm_row, shift_row, branch_row, load_row, store_row, amo_row}
use Rattle.rv_isa.specs.Reads.{Reads, amount_of, width_row, order_of}
use Rattle.rv_isa.specs.declared.instr.AluOp.{AluOp}
use Rattle.rv_isa.specs.declared.instr.AluOp.TheVariants as alu
use Rattle.rv_isa.specs.declared.instr.ImmOp.{ImmOp}
use Rattle.rv_isa.specs.declared.instr.ImmOp.TheVariants as imm
use Rattle.rv_isa.specs.declared.instr.ShiftOp.{ShiftOp}
use Rattle.rv_isa.specs.declared.instr.ShiftOp.TheVariants as shift
use Rattle.rv_isa.specs.declared.instr.AmoOp.{AmoOp}
use Rattle.rv_isa.specs.declared.instr.AmoOp.TheVariants as amo
use Rattle.rv_isa.specs.declared.instr.Cond.{Cond}
use Rattle.rv_isa.specs.declared.instr.Cond.TheVariants as con
use Rattle.rv_isa.specs.declared.instr.Width.{Width}
use Rattle.rv_isa.specs.declared.instr.Width.TheVariants.{B, H, W, D}
use Rattle.rv_isa.specs.declared.instr.Instr.{Instr}
use Rattle.rv_isa.specs.declared.instr.Instr.TheVariants.{Alu, AluImm, ShiftImm, Lui, Auipc, Jal, Jalr, Branch, Load, Store, Lr, Sc, Amo, Fence, Ecall, Ebreak}

-- two things that are each a third are one
same : {X : Type 0} {a b c : X} → a ≡ c → b ≡ c → a ≡ b
same e f = e ∙ sym f

-- two things that a third is are one
alike : {X : Type 0} {a b c : X} → a ≡ b → a ≡ c → b ≡ c
alike e f = sym e ∙ f

-- a number of k bits is known by what it is as a signed one
same_12 : (a b : ℕ) → a < 2 ^ 12 → b < 2 ^ 12 → signed 12 a ≡ signed 12 b → a ≡ b
same_12 a b p q e = omega (arith, ints)

same_13 : (a b : ℕ) → a < 2 ^ 13 → b < 2 ^ 13 → signed 13 a ≡ signed 13 b → a ≡ b
same_13 a b p q e = omega (arith, ints)

same_21 : (a b : ℕ) → a < 2 ^ 21 → b < 2 ^ 21 → signed 21 a ≡ signed 21 b → a ≡ b
same_21 a b p q e = omega (arith, ints)

same_imm : (v w : ℕ) → imm_i v ≡ imm_i w → bits v 31 20 ≡ bits w 31 20
same_imm v w e = same_12 _ _ (omega arith) (omega arith) e

-- the four pieces of an immediate, from the highest: each is known by their sum
pieces_b : (a b c d e f g h : ℕ) → b < 2 → c < 2 ^ 6 → d < 2 ^ 4 → f < 2 → g < 2 ^ 6 → h < 2 ^ 4
    → a * 2 ^ 12 + b * 2 ^ 11 + c * 2 ^ 5 + d * 2 ^ 1 ≡ e * 2 ^ 12 + f * 2 ^ 11 + g * 2 ^ 5 + h * 2 ^ 1 → (a ≡ e) × (b ≡ f) × (c ≡ g) × (d ≡ h)
pieces_b a b c d e f g h p q r s t u v = (omega arith, omega arith, omega arith, omega arith)

pieces_j : (a b c d e f g h : ℕ) → b < 2 ^ 8 → c < 2 → d < 2 ^ 10 → f < 2 ^ 8 → g < 2 → h < 2 ^ 10
    → a * 2 ^ 20 + b * 2 ^ 12 + c * 2 ^ 11 + d * 2 ^ 1 ≡ e * 2 ^ 20 + f * 2 ^ 12 + g * 2 ^ 11 + h * 2 ^ 1 → (a ≡ e) × (b ≡ f) × (c ≡ g) × (d ≡ h)
pieces_j a b c d e f g h p q r s t u v = (omega arith, omega arith, omega arith, omega arith)

-- a word is known by the fields of its format
by_r : (v w : ℕ) → v < 2 ^ 32 → w < 2 ^ 32 → opcode v ≡ opcode w → rd_of v ≡ rd_of w → funct3 v ≡ funct3 w → rs1_of v ≡ rs1_of w → rs2_of v ≡ rs2_of w → funct7 v ≡ funct7 w → v ≡ w
by_r v w p q a b c d e f = omega arith

by_i : (v w : ℕ) → v < 2 ^ 32 → w < 2 ^ 32 → opcode v ≡ opcode w → rd_of v ≡ rd_of w → funct3 v ≡ funct3 w → rs1_of v ≡ rs1_of w → bits v 31 20 ≡ bits w 31 20 → v ≡ w
by_i v w p q a b c d e = omega arith

by_s : (v w : ℕ) → v < 2 ^ 32 → w < 2 ^ 32 → opcode v ≡ opcode w → funct3 v ≡ funct3 w → rs1_of v ≡ rs1_of w → rs2_of v ≡ rs2_of w → imm_s v ≡ imm_s w → v ≡ w
by_s v w p q a b c d e =
    let n : bits v 31 25 * 2 ^ 5 + bits v 11 7 ≡ bits w 31 25 * 2 ^ 5 + bits w 11 7 = same_12 _ _ (omega arith) (omega arith) e in
    omega arith

by_b : (v w : ℕ) → v < 2 ^ 32 → w < 2 ^ 32 → opcode v ≡ opcode w → funct3 v ≡ funct3 w → rs1_of v ≡ rs1_of w → rs2_of v ≡ rs2_of w → imm_b v ≡ imm_b w → v ≡ w
by_b v w p q a b c d e =
    let n = pieces_b (bits v 31 31) (bits v 7 7) (bits v 30 25) (bits v 11 8) (bits w 31 31) (bits w 7 7) (bits w 30 25) (bits w 11 8)
    (omega arith) (omega arith) (omega arith) (omega arith) (omega arith) (omega arith) (same_13 _ _ (omega arith) (omega arith) e) in
    omega arith

by_u : (v w : ℕ) → v < 2 ^ 32 → w < 2 ^ 32 → opcode v ≡ opcode w → rd_of v ≡ rd_of w → imm_u v ≡ imm_u w → v ≡ w
by_u v w p q a b c = omega arith

by_j : (v w : ℕ) → v < 2 ^ 32 → w < 2 ^ 32 → opcode v ≡ opcode w → rd_of v ≡ rd_of w → imm_j v ≡ imm_j w → v ≡ w
by_j v w p q a b e =
    let n = pieces_j (bits v 31 31) (bits v 19 12) (bits v 20 20) (bits v 30 21) (bits w 31 31) (bits w 19 12) (bits w 20 20) (bits w 30 21)
    (omega arith) (omega arith) (omega arith) (omega arith) (omega arith) (omega arith) (same_21 _ _ (omega arith) (omega arith) e) in
    omega arith

-- two words of one row agree in the fields that the row fixes; the line with _ is checked for each operation
fixed_alu : (op : AluOp) (v w : ℕ) → Has v (alu_row op) → Has w (alu_row op) → (funct7 v ≡ funct7 w) × (funct3 v ≡ funct3 w) × (opcode v ≡ opcode w)
fixed_alu alu.Add v w a b = (same a.0 b.0, same a.1.0 b.1.0, same a.1.1.0 b.1.1.0)
fixed_alu _ v w a b = (same a.0 b.0, same a.1.0 b.1.0, same a.1.1.0 b.1.1.0)

fixed_imm : (op : ImmOp) (v w : ℕ) → Has v (imm_row op) → Has w (imm_row op) → (funct3 v ≡ funct3 w) × (opcode v ≡ opcode w)
fixed_imm imm.Addi v w a b = (same a.0 b.0, same a.1.0 b.1.0)
fixed_imm _ v w a b = (same a.0 b.0, same a.1.0 b.1.0)

fixed_shift : (op : ShiftOp) (by v w : ℕ) → Has v (shift_row op) → Has w (shift_row op) → by ≡ amount_of op v → by ≡ amount_of op w → (bits v 31 20 ≡ bits w 31 20) × (funct3 v ≡ funct3 w) × (opcode v ≡ opcode w)
fixed_shift shift.Slli by v w a b d e = (omega arith, same a.1.0 b.1.0, same a.1.1.0 b.1.1.0)
fixed_shift _ by v w a b d e = (omega arith, same a.1.0 b.1.0, same a.1.1.0 b.1.1.0)

fixed_branch : (c : Cond) (v w : ℕ) → Has v (branch_row c) → Has w (branch_row c) → (funct3 v ≡ funct3 w) × (opcode v ≡ opcode w)
fixed_branch con.Eq v w a b = (same a.0 b.0, same a.1.0 b.1.0)
fixed_branch _ v w a b = (same a.0 b.0, same a.1.0 b.1.0)

fixed_load : (width : Width) (v w : ℕ) → Has v (load_row width) → Has w (load_row width) → (funct3 v ≡ funct3 w) × (opcode v ≡ opcode w)
fixed_load B v w a b = (same a.0 b.0, same a.1.0 b.1.0)
fixed_load _ v w a b = (same a.0 b.0, same a.1.0 b.1.0)

fixed_store : (width : Width) (v w : ℕ) → IsStoreWidth width → Has v (store_row width) → Has w (store_row width) → (funct3 v ≡ funct3 w) × (opcode v ≡ opcode w)
fixed_store B v w s a b = (same a.0 b.0, same a.1.0 b.1.0)
fixed_store H v w s a b = (same a.0 b.0, same a.1.0 b.1.0)
fixed_store W v w s a b = (same a.0 b.0, same a.1.0 b.1.0)
fixed_store D v w s a b = (same a.0 b.0, same a.1.0 b.1.0)
fixed_store _ v w s a b = absurd s

fixed_amo : (op : AmoOp) (v w : ℕ) → Has v (amo_row op) → Has w (amo_row op) → (bits v 31 27 ≡ bits w 31 27) × (opcode v ≡ opcode w)
fixed_amo amo.Swap v w a b = (same a.0 b.0, same a.1.0 b.1.0)
fixed_amo _ v w a b = (same a.0 b.0, same a.1.0 b.1.0)

fixed_width : (wide : Bool) (v w : ℕ) → Has v (width_row wide) → Has w (width_row wide) → funct3 v ≡ funct3 w
fixed_width true v w a b = same a.0 b.0
fixed_width false v w a b = same a.0 b.0

same_bit : (a b : ℕ) → a < 2 → b < 2 → (a == 1) ≡ (b == 1) → a ≡ b
same_bit a b p q e = grind (arith, nat_tests)

-- funct7 of an atomic instruction is its first five bits and its order
by_order : (v w : ℕ) → bits v 31 27 ≡ bits w 31 27 → order_of v ≡ order_of w → funct7 v ≡ funct7 w
by_order v w a e =
    let aq = same_bit (bits v 26 26) (bits w 26 26) (omega arith) (omega arith) (ap (λ (o : Order). o.aq) e) in
    let rl = same_bit (bits v 25 25) (bits w 25 25) (omega arith) (omega arith) (ap (λ (o : Order). o.rl) e) in
    omega arith

pub one_word : (v w : ℕ) (i : Instr) → v < 2 ^ 32 → w < 2 ^ 32 → Reads v i → Reads w i → v ≡ w
unfolding Reads
one_word v w (Alu op rd rs1 rs2) p q g h =
    let f = fixed_alu op v w g.0 h.0 in
    by_r v w p q f.2 (alike g.1 h.1) f.1 (alike g.2 h.2) (alike g.3 h.3) f.0
one_word v w (AluImm op rd rs1 imm) p q g h =
    let f = fixed_imm op v w g.0 h.0 in
    by_i v w p q f.1 (alike g.1 h.1) f.0 (alike g.2 h.2) (same_imm v w (alike g.3 h.3))
one_word v w (ShiftImm op rd rs1 by) p q g h =
    let f = fixed_shift op by v w g.0 h.0 g.3 h.3 in
    by_i v w p q f.2 (alike g.1 h.1) f.1 (alike g.2 h.2) f.0
one_word v w (Lui rd imm) p q g h = by_u v w p q (same g.0.0 h.0.0) (alike g.1 h.1) (alike g.2 h.2)
one_word v w (Auipc rd imm) p q g h = by_u v w p q (same g.0.0 h.0.0) (alike g.1 h.1) (alike g.2 h.2)
one_word v w (Jal rd off) p q g h = by_j v w p q (same g.0.0 h.0.0) (alike g.1 h.1) (alike g.2 h.2)
one_word v w (Jalr rd rs1 off) p q g h =
    by_i v w p q (same g.0.1.0 h.0.1.0) (alike g.1 h.1) (same g.0.0 h.0.0) (alike g.2 h.2) (same_imm v w (alike g.3 h.3))
one_word v w (Branch c rs1 rs2 off) p q g h =
    let f = fixed_branch c v w g.0 h.0 in
    by_b v w p q f.1 f.0 (alike g.1 h.1) (alike g.2 h.2) (alike g.3 h.3)
one_word v w (Load width rd rs1 off) p q g h =
    let f = fixed_load width v w g.0 h.0 in
    by_i v w p q f.1 (alike g.1 h.1) f.0 (alike g.2 h.2) (same_imm v w (alike g.3 h.3))
one_word v w (Store width rs2 rs1 off) p q g h =
    let f = fixed_store width v w g.0 g.1 h.1 in
    by_s v w p q f.1 f.0 (alike g.3 h.3) (alike g.2 h.2) (alike g.4 h.4)
one_word v w (Lr wide order rd rs1) p q g h =
    by_r v w p q (same g.0.1.1.0 h.0.1.1.0) (alike g.3 h.3) (fixed_width wide v w g.1 h.1) (alike g.4 h.4) (same g.0.1.0 h.0.1.0) (by_order v w (same g.0.0 h.0.0) (alike g.2 h.2))
one_word v w (Sc wide order rd rs1 rs2) p q g h =
    by_r v w p q (same g.0.1.0 h.0.1.0) (alike g.3 h.3) (fixed_width wide v w g.1 h.1) (alike g.4 h.4) (alike g.5 h.5) (by_order v w (same g.0.0 h.0.0) (alike g.2 h.2))
one_word v w (Amo op wide order rd rs1 rs2) p q g h =
    let f = fixed_amo op v w g.0 h.0 in
    by_r v w p q f.1 (alike g.3 h.3) (fixed_width wide v w g.1 h.1) (alike g.4 h.4) (alike g.5 h.5) (by_order v w f.0 (alike g.2 h.2))
one_word v w (Fence rd rs1 imm) p q g h =
    by_i v w p q (same g.0.1.0 h.0.1.0) (alike g.1 h.1) (same g.0.0 h.0.0) (alike g.2 h.2) (same_imm v w (alike g.3 h.3))
one_word v w Ecall p q g h = same g h
one_word v w Ebreak p q g h = same g h
