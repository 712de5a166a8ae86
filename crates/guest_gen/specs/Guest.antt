-- The guest that is generated: four threads that count, each by calls through a table of eight functions in turn.
-- A distance counts bytes from the branch or jump itself, 4 for an instruction.
use Rattle.std.specs.Prelude.{ℕ, ◌*◌, ℤ, pos, neg_ℤ, ◌+ℤ◌, List, [], ◌∷◌, ◌++◌}
use Rattle.rv_isa.specs.declared.instr.AluOp.TheVariants.{Add, Sub, Mul, Divu, Remu}
use Rattle.rv_isa.specs.declared.instr.Cond.TheVariants.{Eq, Ne}
use Rattle.rv_isa.specs.declared.instr.Width.TheVariants.{B, W, D}
use Rattle.rv_asm.specs.declared.code.Code.{Code}
use Rattle.guest_gen.specs.declared.instruction.Register.TheVariants.{Zero, Ra, Sp, T0, T1, T2, S0, S1, A0, A1, A2, A3, A4, A5, A7, S2, S3}
use Rattle.guest_gen.specs.Instructions.{alu, addi, andi, li, mv, slli, lui, load, store, amoadd, branch, jal, jalr, ret, ecall}

-- so many instructions ahead, and back
abbrev ahead : ℕ → ℤ
ahead k = pos (4 * k)

abbrev back : ℕ → ℤ
back k = neg_ℤ (pos (4 * k))

-- ---- numbers

-- the system calls, as Linux for RISC-V numbers them
abbrev ioctl : ℤ
ioctl = pos 29

abbrev writev : ℤ
writev = pos 66

abbrev exit : ℤ
exit = pos 93

abbrev exit_group : ℤ
exit_group = pos 94

abbrev set_tid_address : ℤ
set_tid_address = pos 96

abbrev futex : ℤ
futex = pos 98

abbrev brk : ℤ
brk = pos 214

abbrev clone : ℤ
clone = pos 220

abbrev mmap : ℤ
mmap = pos 222

-- Data begins at this number of 4096. From its beginning on: the table of eight functions; the words of the four threads, 8 bytes
-- apart; that of the first thread; what is counted; the address and the length of the digits, and those of the newline; room for
-- eight digits, and the newline.
abbrev data_page : ℤ
data_page = pos 17

abbrev threads : ℤ
threads = pos 64

abbrev first_thread : ℤ
first_thread = pos 96

abbrev counter : ℤ
counter = pos 104

abbrev parts : ℤ
parts = pos 112

abbrev newline : ℤ
newline = pos 152

-- ---- start

-- set_tid_address, ioctl and brk(0); s2 is the word of the first of four threads, and s3 where they end
abbrev pub begin : List Code
begin =
    lui S0 data_page
    ∷ addi A0 S0 first_thread ∷ li A7 set_tid_address ∷ ecall
    ∷ li A0 (pos 1) ∷ li A1 (pos 0) ∷ li A7 ioctl ∷ ecall
    ∷ li A0 (pos 0) ∷ li A7 brk ∷ ecall
    ∷ addi S2 S0 threads ∷ addi S3 S0 first_thread ∷ []

-- Four times: 65536 bytes are mapped, to be read and written, and a thread is made. Its stack is the mapping's end, its thread
-- pointer its start, and the word s2 is told its number and cleared at its end. The thread itself goes on at be_thread.
abbrev pub make_threads : List Code
make_threads =
    li A0 (pos 0) ∷ lui A1 (pos 16) ∷ li A2 (pos 3) ∷ li A3 (pos 0x22) ∷ li A4 (neg_ℤ (pos 1)) ∷ li A5 (pos 0) ∷ li A7 mmap ∷ ecall
    ∷ mv A3 A0 ∷ lui A1 (pos 16) ∷ alu Add A1 A0 A1
    ∷ lui A0 (pos 0x7D1) ∷ addi A0 A0 (neg_ℤ (pos 0x100)) ∷ mv A2 S2 ∷ mv A4 S2 ∷ li A7 clone ∷ ecall
    ∷ branch Eq A0 Zero (ahead 35)
    ∷ addi S2 S2 (pos 8) ∷ branch Ne S2 S3 (back 19) ∷ []

-- for each of the four words: as long as it isn't 0, wait for a change of it
abbrev pub wait_for_threads : List Code
wait_for_threads =
    addi S2 S0 threads
    ∷ load W A2 (pos 0) S2 ∷ branch Eq A2 Zero (ahead 7)
    ∷ mv A0 S2 ∷ li A1 (pos 0) ∷ li A3 (pos 0) ∷ li A7 futex ∷ ecall ∷ jal Zero (back 7)
    ∷ addi S2 S2 (pos 8) ∷ branch Ne S2 S3 (back 9) ∷ []

-- the counter's decimal digits, the last first, before the newline; then their address and their number
abbrev pub make_digits : List Code
make_digits =
    load D T0 counter S0 ∷ addi T1 S0 newline ∷ li T2 (pos 10)
    ∷ addi T1 T1 (neg_ℤ (pos 1)) ∷ alu Remu A0 T0 T2 ∷ alu Divu T0 T0 T2 ∷ addi A0 A0 (pos 48) ∷ store B A0 (pos 0) T1
    ∷ branch Ne T0 Zero (back 5)
    ∷ store D T1 parts S0 ∷ addi A0 S0 newline ∷ alu Sub A0 A0 T1 ∷ store D A0 (parts +ℤ pos 8) S0 ∷ []

-- writev of the digits and of the newline, and exit_group(0)
abbrev pub write_and_end : List Code
write_and_end =
    li A0 (pos 1) ∷ addi A1 S0 parts ∷ li A2 (pos 2) ∷ li A7 writev ∷ ecall
    ∷ li A0 (pos 0) ∷ li A7 exit_group ∷ ecall ∷ []

-- what a thread does: it calls worker, which comes after it, and exits
abbrev pub be_thread : List Code
be_thread = jal Ra (ahead 4) ∷ li A0 (pos 0) ∷ li A7 exit ∷ ecall ∷ []

abbrev pub start : List Code
start = begin ++ make_threads ++ wait_for_threads ++ make_digits ++ write_and_end ++ be_thread

-- ---- the others

-- 1000 n rounds: in round s1, from 0 on, it calls the function in the slot s1 mod 8
abbrev pub worker : ℤ → List Code
worker n =
    addi Sp Sp (neg_ℤ (pos 16)) ∷ store D Ra (pos 0) Sp
    ∷ lui S0 data_page ∷ li T0 (pos 1000) ∷ li S2 n ∷ alu Mul S2 T0 S2
    ∷ li S1 (pos 0)
    ∷ andi T0 S1 (pos 7) ∷ slli T0 T0 (pos 3) ∷ alu Add T0 S0 T0 ∷ load D T1 (pos 0) T0 ∷ jalr Ra T1
    ∷ addi S1 S1 (pos 1) ∷ branch Ne S1 S2 (back 6)
    ∷ load D Ra (pos 0) Sp ∷ addi Sp Sp (pos 16) ∷ ret ∷ []

-- adds so much to the counter
abbrev pub adder : ℤ → List Code
adder amount = li T0 amount ∷ lui T1 data_page ∷ addi T1 T1 counter ∷ amoadd T0 T1 ∷ ret ∷ []
