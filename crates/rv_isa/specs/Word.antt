-- The fields and the immediates of a word of 32 bits.
-- Source: the RISC-V Unprivileged ISA, RV32I, "Base Instruction Formats" and "Immediate Encoding Variants".
use Rattle.std.specs.Prelude.{ℕ, ◌+◌, ◌-◌, ◌*◌, ◌/◌, ◌%◌, ◌^◌, ℤ, pos, ◌-ℤ◌}

-- bits hi down to lo of w, as a number
abbrev pub bits : ℕ → ℕ → ℕ → ℕ
bits w hi lo = w / 2 ^ lo % 2 ^ (hi + 1 - lo)

-- a number n of k bits, read as two's complement: less 2 ^ k where its top bit is set
abbrev pub signed : ℕ → ℕ → ℤ
signed k n = pos n -ℤ pos (2 ^ k * (n / 2 ^ (k - 1)))

-- the fields that stand in one place in every format
abbrev pub opcode : ℕ → ℕ
opcode w = bits w 6 0

abbrev pub rd_of : ℕ → ℕ
rd_of w = bits w 11 7

abbrev pub funct3 : ℕ → ℕ
funct3 w = bits w 14 12

abbrev pub rs1_of : ℕ → ℕ
rs1_of w = bits w 19 15

abbrev pub rs2_of : ℕ → ℕ
rs2_of w = bits w 24 20

abbrev pub funct7 : ℕ → ℕ
funct7 w = bits w 31 25

-- The immediates. Each is the sum of its pieces, a piece times the place that its lowest bit has in the immediate.

-- I: 31:20 is 11:0
abbrev pub imm_i : ℕ → ℤ
imm_i w = signed 12 (bits w 31 20)

-- S: 31:25 is 11:5, and 11:7 is 4:0
abbrev pub imm_s : ℕ → ℤ
imm_s w = signed 12 (bits w 31 25 * 2 ^ 5 + bits w 11 7)

-- B: 31 is 12, 7 is 11, 30:25 is 10:5, and 11:8 is 4:1
abbrev pub imm_b : ℕ → ℤ
imm_b w = signed 13 (bits w 31 31 * 2 ^ 12 + bits w 7 7 * 2 ^ 11 + bits w 30 25 * 2 ^ 5 + bits w 11 8 * 2 ^ 1)

-- U: 31:12, which an instruction shifts back to that place
abbrev pub imm_u : ℕ → ℕ
imm_u w = bits w 31 12

-- J: 31 is 20, 19:12 is 19:12, 20 is 11, and 30:21 is 10:1
abbrev pub imm_j : ℕ → ℤ
imm_j w = signed 21 (bits w 31 31 * 2 ^ 20 + bits w 19 12 * 2 ^ 12 + bits w 20 20 * 2 ^ 11 + bits w 30 21 * 2 ^ 1)
