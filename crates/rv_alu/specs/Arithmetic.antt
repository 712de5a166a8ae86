-- What the operations give, over whole numbers that are reduced by powers of two. A register's value is a number below
-- 2 ^ 64, which signed 64 reads as two's complement.
-- Source: the RISC-V Unprivileged ISA, RV32I "Integer Computational Instructions", RV64I of the same name, the chapters
-- on the M and A extensions, and the table "Semantics for division by zero and division overflow".
use Rattle.std.specs.Prelude.{ℕ, ◌+◌, ◌-◌, ◌*◌, ◌/◌, ◌%◌, ◌^◌, ℤ, pos, negsuc, ◌-ℤ◌, ◌*ℤ◌, int_lt, int_div, int_rem, nat_lt, min, max, Bool, true, false, bit_and, bit_or, bit_xor, if◌then◌else◌, ◌==◌}
use Rattle.std.specs.Int.{int_shr}
use Rattle.rv_isa.specs.Word.{signed}
use Rattle.rv_isa.specs.declared.instr.ImmOp.{ImmOp}
use Rattle.rv_isa.specs.declared.instr.ImmOp.TheVariants.{Addi, Slti, Sltiu, Xori, Ori, Andi, Addiw}
use Rattle.rv_isa.specs.declared.instr.ShiftOp.{ShiftOp}
use Rattle.rv_isa.specs.declared.instr.ShiftOp.TheVariants.{Slli, Srli, Srai, Slliw, Srliw, Sraiw}
use Rattle.rv_isa.specs.declared.instr.AmoOp.{AmoOp}
use Rattle.rv_isa.specs.declared.instr.AmoOp.TheVariants as amo
use Rattle.rv_isa.specs.declared.instr.AluOp.{AluOp}
use Rattle.rv_isa.specs.declared.instr.AluOp.TheVariants.{Add, Sub, Sll, Slt, Sltu, Xor, Srl, Sra, Or, And, Mul, Mulh, Mulhsu, Mulhu, Div, Divu, Rem, Remu, Addw, Subw, Sllw, Srlw, Sraw, Mulw, Divw, Divuw, Remw, Remuw}

-- the number of k bits that z is modulo 2 ^ k; negsuc n is -(n + 1)
abbrev pub reduced : ℕ → ℤ → ℕ
reduced k (pos n) = n % 2 ^ k
reduced k (negsuc n) = 2 ^ k - 1 - n % 2 ^ k

-- the low 32 bits of a register
abbrev pub low : ℕ → ℕ
low a = a % 2 ^ 32

-- 32 bits extended by their sign to a register
abbrev pub extended : ℕ → ℕ
extended n = reduced 64 (signed 32 n)

-- The divisions of k bits by k bits. By zero the quotient has all bits set, and the remainder is the dividend. int_div
-- rounds towards zero and int_rem has the sign of the dividend. The least number divided by -1 gives 2 ^ (k - 1), which
-- reduced is the dividend again, and the remainder 0.
abbrev pub div_of : ℕ → ℕ → ℕ → ℕ
div_of k a b = if b == 0 then 2 ^ k - 1 else reduced k (int_div (signed k a) (signed k b))

abbrev pub rem_of : ℕ → ℕ → ℕ → ℕ
rem_of k a b = if b == 0 then a else reduced k (int_rem (signed k a) (signed k b))

abbrev pub divu_of : ℕ → ℕ → ℕ → ℕ
divu_of k a b = if b == 0 then 2 ^ k - 1 else a / b

abbrev pub remu_of : ℕ → ℕ → ℕ → ℕ
remu_of k a b = if b == 0 then a else a % b

-- An operation of two registers. int_shr divides by a power of two and rounds down, so it fills with the sign.
unfoldable pub alu_of : AluOp → ℕ → ℕ → ℕ
alu_of Add a b = (a + b) % 2 ^ 64
alu_of Sub a b = reduced 64 (pos a -ℤ pos b)
alu_of Sll a b = a * 2 ^ (b % 64) % 2 ^ 64
alu_of Slt a b = if int_lt (signed 64 a) (signed 64 b) then 1 else 0
alu_of Sltu a b = if nat_lt a b then 1 else 0
alu_of Xor a b = bit_xor a b
alu_of Srl a b = a / 2 ^ (b % 64)
alu_of Sra a b = reduced 64 (int_shr (signed 64 a) (b % 64))
alu_of Or a b = bit_or a b
alu_of And a b = bit_and a b
alu_of Mul a b = a * b % 2 ^ 64
alu_of Mulh a b = reduced 64 (int_shr (signed 64 a *ℤ signed 64 b) 64)
alu_of Mulhsu a b = reduced 64 (int_shr (signed 64 a *ℤ pos b) 64)
alu_of Mulhu a b = a * b / 2 ^ 64
alu_of Div a b = div_of 64 a b
alu_of Divu a b = divu_of 64 a b
alu_of Rem a b = rem_of 64 a b
alu_of Remu a b = remu_of 64 a b
alu_of Addw a b = extended (low (a + b))
alu_of Subw a b = extended (reduced 32 (pos a -ℤ pos b))
alu_of Sllw a b = extended (low (low a * 2 ^ (b % 32)))
alu_of Srlw a b = extended (low a / 2 ^ (b % 32))
alu_of Sraw a b = reduced 64 (int_shr (signed 32 (low a)) (b % 32))
alu_of Mulw a b = extended (low (a * b))
alu_of Divw a b = extended (div_of 32 (low a) (low b))
alu_of Divuw a b = extended (divu_of 32 (low a) (low b))
alu_of Remw a b = extended (rem_of 32 (low a) (low b))
alu_of Remuw a b = extended (remu_of 32 (low a) (low b))

-- an operation of a register and an immediate, which is extended by its sign to a register
unfoldable pub imm_of : ImmOp → ℕ → ℤ → ℕ
imm_of Addi a imm = alu_of Add a (reduced 64 imm)
imm_of Slti a imm = alu_of Slt a (reduced 64 imm)
imm_of Sltiu a imm = alu_of Sltu a (reduced 64 imm)
imm_of Xori a imm = alu_of Xor a (reduced 64 imm)
imm_of Ori a imm = alu_of Or a (reduced 64 imm)
imm_of Andi a imm = alu_of And a (reduced 64 imm)
imm_of Addiw a imm = alu_of Addw a (reduced 64 imm)

-- a shift of a register by an amount
unfoldable pub shift_of : ShiftOp → ℕ → ℕ → ℕ
shift_of Slli a by = alu_of Sll a by
shift_of Srli a by = alu_of Srl a by
shift_of Srai a by = alu_of Sra a by
shift_of Slliw a by = alu_of Sllw a by
shift_of Srliw a by = alu_of Srlw a by
shift_of Sraiw a by = alu_of Sraw a by

-- the lesser and the greater of two numbers of k bits, as signed ones
abbrev pub least : ℕ → ℕ → ℕ → ℕ
least k a b = if int_lt (signed k b) (signed k a) then b else a

abbrev pub greatest : ℕ → ℕ → ℕ → ℕ
greatest k a b = if int_lt (signed k a) (signed k b) then b else a

-- what an atomic operation makes of the k bits that it loaded and k bits of its register
unfoldable pub stored_of : ℕ → AmoOp → ℕ → ℕ → ℕ
stored_of k amo.Swap old b = b
stored_of k amo.Add old b = (old + b) % 2 ^ k
stored_of k amo.Xor old b = bit_xor old b
stored_of k amo.And old b = bit_and old b
stored_of k amo.Or old b = bit_or old b
stored_of k amo.Min old b = least k old b
stored_of k amo.Max old b = greatest k old b
stored_of k amo.Minu old b = min old b
stored_of k amo.Maxu old b = max old b

-- an atomic operation of 8 bytes, and one of 4, whose result is extended by its sign as those of all W forms
unfoldable pub amo_of : AmoOp → Bool → ℕ → ℕ → ℕ
amo_of op true old b = stored_of 64 op old b
amo_of op false old b = extended (stored_of 32 op (low old) (low b))
