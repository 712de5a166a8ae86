-- The instructions that the guest is made of, by the names that assemblers give them.
use Rattle.std.specs.Prelude.{ℕ, ℤ, pos, unsigned_abs, true, false}
use Rattle.rv_isa.specs.declared.instr.AluOp.{AluOp}
use Rattle.rv_isa.specs.declared.instr.ImmOp.{ImmOp}
use Rattle.rv_isa.specs.declared.instr.ImmOp.TheVariants.{Addi, Andi}
use Rattle.rv_isa.specs.declared.instr.ShiftOp.TheVariants.{Slli}
use Rattle.rv_isa.specs.declared.instr.AmoOp.TheVariants as amo
use Rattle.rv_isa.specs.declared.instr.Cond.{Cond}
use Rattle.rv_isa.specs.declared.instr.Width.{Width}
use Rattle.rv_isa.specs.declared.instr.Instr.TheVariants.{Alu, AluImm, ShiftImm, Lui, Jal, Jalr, Branch, Load, Store, Amo, Ecall}
use Rattle.rv_asm.specs.declared.code.Code.{Code}
use Rattle.rv_asm.specs.declared.code.Code.TheVariants.{Instruction}
use Rattle.guest_gen.specs.declared.instruction.Register.{Register}
use Rattle.guest_gen.specs.declared.instruction.Register.TheVariants.{Zero, Ra, Sp, T0, T1, T2, S0, S1, A0, A1, A2, A3, A4, A5, A7, S2, S3}

-- the number of each register. Source: the RISC-V calling convention.
abbrev pub number : Register → ℕ
number Zero = 0
number Ra = 1
number Sp = 2
number T0 = 5
number T1 = 6
number T2 = 7
number S0 = 8
number S1 = 9
number A0 = 10
number A1 = 11
number A2 = 12
number A3 = 13
number A4 = 14
number A5 = 15
number A7 = 17
number S2 = 18
number S3 = 19

abbrev pub alu : AluOp → Register → Register → Register → Code
alu op rd rs1 rs2 = Instruction (Alu op (number rd) (number rs1) (number rs2))

abbrev pub alu_imm : ImmOp → Register → Register → ℤ → Code
alu_imm op rd rs1 imm = Instruction (AluImm op (number rd) (number rs1) imm)

abbrev pub addi : Register → Register → ℤ → Code
addi rd rs1 imm = alu_imm Addi rd rs1 imm

abbrev pub andi : Register → Register → ℤ → Code
andi rd rs1 imm = alu_imm Andi rd rs1 imm

-- a small number
abbrev pub li : Register → ℤ → Code
li rd imm = addi rd Zero imm

-- what another register holds
abbrev pub mv : Register → Register → Code
mv rd rs1 = addi rd rs1 (pos 0)

abbrev pub slli : Register → Register → ℤ → Code
slli rd rs1 by = Instruction (ShiftImm Slli (number rd) (number rs1) (unsigned_abs by))

abbrev pub lui : Register → ℤ → Code
lui rd imm = Instruction (Lui (number rd) (unsigned_abs imm))

abbrev pub load : Width → Register → ℤ → Register → Code
load width rd off rs1 = Instruction (Load width (number rd) (number rs1) off)

abbrev pub store : Width → Register → ℤ → Register → Code
store width rs2 off rs1 = Instruction (Store width (number rs2) (number rs1) off)

-- 8 bytes of memory gain what a register holds; what they were is not kept
abbrev pub amoadd : Register → Register → Code
amoadd rs2 rs1 = Instruction (Amo amo.Add true (record { aq = false; rl = false }) 0 (number rs1) (number rs2))

-- by so many bytes
abbrev pub branch : Cond → Register → Register → ℤ → Code
branch cond rs1 rs2 off = Instruction (Branch cond (number rs1) (number rs2) off)

abbrev pub jal : Register → ℤ → Code
jal rd off = Instruction (Jal (number rd) off)

abbrev pub jalr : Register → Register → Code
jalr rd rs1 = Instruction (Jalr (number rd) (number rs1) (pos 0))

abbrev pub ret : Code
ret = jalr Zero Ra

abbrev pub ecall : Code
ecall = Instruction Ecall
