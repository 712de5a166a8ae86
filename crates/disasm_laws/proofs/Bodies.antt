-- What the assembler's statement of each kind says.
use Rattle.std.proofs.Common.{◌≡◌, ◌∙◌, ◌&&◌, ◌<◌, ◌-◌, ◌^◌, ◌≤ℤ◌, ℕ, ℤ, pos, negsuc, neg_ℤ, int_lt, codes, Bool, true, false, Some, List, [], ◌∷◌, ◌++◌, flat_map, ap, refl, arith}
use Rattle.std.proofs.lemmas.Int.{ints}
use Rattle.std.specs.List.{slice_split}
use Rattle.std.specs.Fmt.{digits}
use Rattle.rv_isa.specs.Ranges.{IsWithin, IsImm12}
use Rattle.rv_isa.specs.Instr.{IsAmount, IsStoreWidth}
use Rattle.rv_isa.specs.declared.instr.AluOp.{AluOp}
use Rattle.rv_isa.specs.declared.instr.AluOp.TheVariants as alu
use Rattle.rv_isa.specs.declared.instr.ImmOp.{ImmOp}
use Rattle.rv_isa.specs.declared.instr.ImmOp.TheVariants as imm
use Rattle.rv_isa.specs.declared.instr.ShiftOp.{ShiftOp}
use Rattle.rv_isa.specs.declared.instr.ShiftOp.TheVariants as shift
use Rattle.rv_isa.specs.declared.instr.AmoOp.{AmoOp}
use Rattle.rv_isa.specs.declared.instr.AmoOp.TheVariants as amo
use Rattle.rv_isa.specs.declared.instr.Cond.{Cond}
use Rattle.rv_isa.specs.declared.instr.Cond.TheVariants as cond_of
use Rattle.rv_isa.specs.declared.instr.Width.{Width}
use Rattle.rv_isa.specs.declared.instr.Width.TheVariants as width_of
use Rattle.rv_isa.specs.declared.instr.Instr.TheVariants as instr
use Rattle.asm_text.specs.Tokens.{tokens_of, is_name}
use Rattle.asm_text.specs.Keywords.{keyword_of}
use Rattle.asm_text.specs.Bodies.{is_within, signed_12, unsigned_20, amount_of, of_bits, no_order, read, read_as, alu_of, imm_of, shift_of, branch_of, load_of, store_of, jalr_of, lr_of, sc_of, amo_of, lui_of, auipc_of, jal_of, fixed_of, word_of}
use Rattle.asm_text.specs.Operands.{target_in}
use Rattle.asm_text.specs.Statements.{line_statements, part_statements, is_semicolon, whole}
use Rattle.asm_text.specs.declared.token.Token.{Token}
use Rattle.asm_text.specs.declared.token.Token.TheVariants.{Word}
use Rattle.asm_text.specs.declared.keyword.Keyword.TheVariants as word
use Rattle.asm_text.specs.declared.operand.Target.TheVariants.{Address}
use Rattle.asm_text.specs.declared.body.Body.{Body}
use Rattle.asm_text.specs.declared.body.Body.TheVariants as says
use Rattle.asm_text.specs.declared.statement.Statement.{Statement}
use Rattle.disasm.specs.Shown.{register, number, hexadecimal, based, base, statement, hex_text, alu_name, imm_name, shift_name, branch_name, load_name, store_name, amo_name, wide_name}
use Rattle.disasm_laws.proofs.Lexed.{IsWord, all_tokens, lexed}
use Rattle.disasm_laws.proofs.Numerals.{IsSmall, number_word, register_word, hex_word, number_back, hex_back, register_back}

-- ---- a line

abbrev pub stated : ℕ → Body → Statement
stated n b = record { line = n; labels = []; body = b }

-- the line is one statement without a label, which says this
abbrev pub IsLine : List ℕ → Body → Type 0
IsLine line b = (n : ℕ) → line_statements n line ≡ stated n b ∷ []

line_of : (line : List ℕ) (ts : List Token) (b : Body) → tokens_of line ≡ ts → ((n : ℕ) → flat_map (part_statements n) (slice_split is_semicolon ts) ≡ stated n (whole ts) ∷ []) → whole ts ≡ b → IsLine line b
line_of line ts b e shape says n =
    ap (λ xs. flat_map (part_statements n) (slice_split is_semicolon xs)) e ∙ (shape n ∙ ap (λ (x : Body). stated n x ∷ []) says)

-- ---- names; the line with _ is checked for each operation

alu_word : (op : AluOp) → IsWord (alu_name op)
alu_word alu.Add = (λ rest. refl, refl)
alu_word _ = (λ rest. refl, refl)

alu_keyword : (op : AluOp) → keyword_of (alu_name op) ≡ Some (word.Alu op)
unfolding keyword_of
alu_keyword alu.Add = refl
alu_keyword _ = refl

imm_word : (op : ImmOp) → IsWord (imm_name op)
imm_word imm.Addi = (λ rest. refl, refl)
imm_word _ = (λ rest. refl, refl)

imm_keyword : (op : ImmOp) → keyword_of (imm_name op) ≡ Some (word.AluImm op)
unfolding keyword_of
imm_keyword imm.Addi = refl
imm_keyword _ = refl

shift_word : (op : ShiftOp) → IsWord (shift_name op)
shift_word shift.Slli = (λ rest. refl, refl)
shift_word _ = (λ rest. refl, refl)

shift_keyword : (op : ShiftOp) → keyword_of (shift_name op) ≡ Some (word.Shift op)
unfolding keyword_of
shift_keyword shift.Slli = refl
shift_keyword _ = refl

branch_word : (c : Cond) → IsWord (branch_name c)
branch_word cond_of.Eq = (λ rest. refl, refl)
branch_word _ = (λ rest. refl, refl)

branch_keyword : (c : Cond) → keyword_of (branch_name c) ≡ Some (word.Branch c)
unfolding keyword_of
branch_keyword cond_of.Eq = refl
branch_keyword _ = refl

load_word : (width : Width) → IsWord (load_name width)
load_word width_of.B = (λ rest. refl, refl)
load_word _ = (λ rest. refl, refl)

load_keyword : (width : Width) → keyword_of (load_name width) ≡ Some (word.Load width)
unfolding keyword_of
load_keyword width_of.B = refl
load_keyword _ = refl

store_word : (width : Width) → IsWord (store_name width)
store_word width_of.B = (λ rest. refl, refl)
store_word _ = (λ rest. refl, refl)

store_keyword : (width : Width) → IsStoreWidth width → keyword_of (store_name width) ≡ Some (word.Store width)
unfolding keyword_of
store_keyword width_of.B is = refl
store_keyword width_of.H is = refl
store_keyword width_of.W is = refl
store_keyword width_of.D is = refl
store_keyword _ is = absurd is

lr_word : (wide : Bool) → IsWord (codes "lr" ++ wide_name wide)
lr_word true = (λ rest. refl, refl)
lr_word false = (λ rest. refl, refl)

lr_keyword : (wide : Bool) → keyword_of (codes "lr" ++ wide_name wide) ≡ Some (word.Lr wide)
unfolding keyword_of
lr_keyword true = refl
lr_keyword false = refl

sc_word : (wide : Bool) → IsWord (codes "sc" ++ wide_name wide)
sc_word true = (λ rest. refl, refl)
sc_word false = (λ rest. refl, refl)

sc_keyword : (wide : Bool) → keyword_of (codes "sc" ++ wide_name wide) ≡ Some (word.Sc wide)
unfolding keyword_of
sc_keyword true = refl
sc_keyword false = refl

amo_word : (op : AmoOp) (wide : Bool) → IsWord (amo_name op ++ wide_name wide)
amo_word amo.Swap true = (λ rest. refl, refl)
amo_word _ true = (λ rest. refl, refl)
amo_word amo.Swap false = (λ rest. refl, refl)
amo_word _ false = (λ rest. refl, refl)

amo_keyword : (op : AmoOp) (wide : Bool) → keyword_of (amo_name op ++ wide_name wide) ≡ Some (word.Amo op wide)
unfolding keyword_of
amo_keyword amo.Swap true = refl
amo_keyword _ true = refl
amo_keyword amo.Swap false = refl
amo_keyword _ false = refl

lui_keyword : keyword_of (codes "lui") ≡ Some word.Lui
unfolding keyword_of
lui_keyword = refl

auipc_keyword : keyword_of (codes "auipc") ≡ Some word.Auipc
unfolding keyword_of
auipc_keyword = refl

jal_keyword : keyword_of (codes "jal") ≡ Some word.Jal
unfolding keyword_of
jal_keyword = refl

jalr_keyword : keyword_of (codes "jalr") ≡ Some word.Jalr
unfolding keyword_of
jalr_keyword = refl

word_keyword : keyword_of (codes ".word") ≡ Some word.Word
unfolding keyword_of
word_keyword = refl

fence_keyword : keyword_of (codes "fence") ≡ Some word.Fence
unfolding keyword_of
fence_keyword = refl

ecall_keyword : keyword_of (codes "ecall") ≡ Some word.Ecall
unfolding keyword_of
ecall_keyword = refl

ebreak_keyword : keyword_of (codes "ebreak") ≡ Some word.Ebreak
unfolding keyword_of
ebreak_keyword = refl

-- ---- numbers in range

pub not_less : (x y : ℤ) → y ≤ℤ x → int_lt x y ≡ false
not_less x y le = by (int_lt x y) refl
  where
    by : (t : Bool) → int_lt x y ≡ t → t ≡ false
    by true e = absurd (omega (arith, ints))
    by false e = refl

pub within : (lo hi z : ℤ) → IsWithin lo hi z → is_within lo hi z ≡ true
within lo hi z w = rw (not_less z lo w.low, not_less hi z w.high) refl

small : (z : ℤ) → IsImm12 z → IsSmall z
small (pos n) w = let low = w.low in let high = w.high in omega (arith, ints)
small (negsuc n) w = let low = w.low in let high = w.high in omega (arith, ints)

signed_is : (z : ℤ) → IsImm12 z → signed_12 z ≡ Some z
signed_is z w = rw (not_less z (neg_ℤ (pos 2048)) w.low, not_less (pos 2047) z w.high) refl

unsigned_is : (n : ℕ) → n < 2 ^ 20 → unsigned_20 (pos n) ≡ Some n
unsigned_is n lt =
    let low : pos 0 ≤ℤ pos n = omega (arith, ints) in
    let high : pos n ≤ℤ pos 1048575 = omega (arith, ints) in
    rw (not_less (pos n) (pos 0) low, not_less (pos 1048575) (pos n) high) refl

word_is : (n : ℕ) → n < 2 ^ 32 → of_bits 32 (pos n) ≡ Some n
word_is n lt =
    let none : pos 0 ≤ℤ pos n = omega (arith, ints) in
    let high : pos n ≤ℤ pos (2 ^ 32 - 1) = omega (arith, ints) in
    rw (not_less (pos (2 ^ 32 - 1)) (pos n) high, not_less (pos n) (pos 0) none) refl

amount_63 : (n : ℕ) → n < 64 → is_within (pos 0) (pos 63) (pos n) ≡ true
amount_63 n lt = within (pos 0) (pos 63) (pos n) (record { low = omega (arith, ints); high = omega (arith, ints) })

amount_31 : (n : ℕ) → n < 32 → is_within (pos 0) (pos 31) (pos n) ≡ true
amount_31 n lt = within (pos 0) (pos 31) (pos n) (record { low = omega (arith, ints); high = omega (arith, ints) })

amount_is : (op : ShiftOp) (n : ℕ) → n < 64 → IsAmount op n → amount_of op (pos n) ≡ Some n
amount_is shift.Slli n lt is = rw (amount_63 n lt) refl
amount_is shift.Srli n lt is = rw (amount_63 n lt) refl
amount_is shift.Srai n lt is = rw (amount_63 n lt) refl
amount_is shift.Slliw n lt is = rw (amount_31 n is) refl
amount_is shift.Srliw n lt is = rw (amount_31 n is) refl
amount_is shift.Sraiw n lt is = rw (amount_31 n is) refl

-- a word that begins with a digit is no name
no_name : (word : List ℕ) → is_name (48 ∷ word) ≡ false
unfolding is_name
no_name word = both _
  where
    both : (x : Bool) → (x && false) ≡ false
    both true = refl
    both false = refl

target_is : (n : ℕ) → n < 2 ^ 64 → target_in (Word (hex_text n) ∷ []) ≡ Some (Address (pos n))
target_is n lt = rw (no_name (120 ∷ digits 16 false n), hex_back n lt) refl

-- ---- statements: what each says, and its line

alu_says : (op : AluOp) (rd rs1 rs2 : ℕ) → rd < 32 → rs1 < 32 → rs2 < 32 → whole (Word (alu_name op) ∷ all_tokens (register rd ∷ register rs1 ∷ register rs2 ∷ [])) ≡ says.Instr (instr.Alu op rd rs1 rs2)
unfolding whole read read_as alu_of
alu_says op rd rs1 rs2 a b c = rw (alu_keyword op, register_back rd a, register_back rs1 b, register_back rs2 c) refl

pub alu_line : (op : AluOp) (rd rs1 rs2 : ℕ) → rd < 32 → rs1 < 32 → rs2 < 32 → IsLine (statement (alu_name op) (register rd ∷ register rs1 ∷ register rs2 ∷ [])) (says.Instr (instr.Alu op rd rs1 rs2))
alu_line op rd rs1 rs2 a b c =
    line_of (statement (alu_name op) (register rd ∷ register rs1 ∷ register rs2 ∷ [])) (Word (alu_name op) ∷ all_tokens (register rd ∷ register rs1 ∷ register rs2 ∷ [])) (says.Instr (instr.Alu op rd rs1 rs2)) (lexed (alu_name op) (register rd ∷ register rs1 ∷ register rs2 ∷ []) (alu_word op) (register_word rd a, (register_word rs1 b, (register_word rs2 c, tt)))) (λ n. refl) (alu_says op rd rs1 rs2 a b c)

imm_says : (op : ImmOp) (rd rs1 : ℕ) (z : ℤ) → rd < 32 → rs1 < 32 → IsImm12 z → whole (Word (imm_name op) ∷ all_tokens (register rd ∷ register rs1 ∷ number z ∷ [])) ≡ says.Instr (instr.AluImm op rd rs1 z)
unfolding whole read read_as imm_of
imm_says op rd rs1 z a b c = rw (imm_keyword op, register_back rd a, register_back rs1 b, number_back z (small z c), signed_is z c) refl

pub imm_line : (op : ImmOp) (rd rs1 : ℕ) (z : ℤ) → rd < 32 → rs1 < 32 → IsImm12 z → IsLine (statement (imm_name op) (register rd ∷ register rs1 ∷ number z ∷ [])) (says.Instr (instr.AluImm op rd rs1 z))
imm_line op rd rs1 z a b c =
    line_of (statement (imm_name op) (register rd ∷ register rs1 ∷ number z ∷ [])) (Word (imm_name op) ∷ all_tokens (register rd ∷ register rs1 ∷ number z ∷ [])) (says.Instr (instr.AluImm op rd rs1 z)) (lexed (imm_name op) (register rd ∷ register rs1 ∷ number z ∷ []) (imm_word op) (register_word rd a, (register_word rs1 b, (number_word z (small z c), tt)))) (λ n. refl) (imm_says op rd rs1 z a b c)

shift_says : (op : ShiftOp) (rd rs1 by : ℕ) → rd < 32 → rs1 < 32 → by < 64 → IsAmount op by → whole (Word (shift_name op) ∷ all_tokens (register rd ∷ register rs1 ∷ number (pos by) ∷ [])) ≡ says.Instr (instr.ShiftImm op rd rs1 by)
unfolding whole read read_as shift_of
shift_says op rd rs1 by a b c d = rw (shift_keyword op, register_back rd a, register_back rs1 b, number_back (pos by) (omega arith), amount_is op by c d) refl

pub shift_line : (op : ShiftOp) (rd rs1 by : ℕ) → rd < 32 → rs1 < 32 → by < 64 → IsAmount op by → IsLine (statement (shift_name op) (register rd ∷ register rs1 ∷ number (pos by) ∷ [])) (says.Instr (instr.ShiftImm op rd rs1 by))
shift_line op rd rs1 by a b c d =
    line_of (statement (shift_name op) (register rd ∷ register rs1 ∷ number (pos by) ∷ [])) (Word (shift_name op) ∷ all_tokens (register rd ∷ register rs1 ∷ number (pos by) ∷ [])) (says.Instr (instr.ShiftImm op rd rs1 by)) (lexed (shift_name op) (register rd ∷ register rs1 ∷ number (pos by) ∷ []) (shift_word op) (register_word rd a, (register_word rs1 b, (number_word (pos by) (omega arith), tt)))) (λ n. refl) (shift_says op rd rs1 by a b c d)

lui_says : (rd n : ℕ) → rd < 32 → n < 2 ^ 20 → whole (Word (codes "lui") ∷ all_tokens (register rd ∷ hexadecimal n ∷ [])) ≡ says.Instr (instr.Lui rd n)
unfolding whole read read_as lui_of
lui_says rd n a b = rw (lui_keyword, register_back rd a, hex_back n (omega arith), unsigned_is n b) refl

pub lui_line : (rd n : ℕ) → rd < 32 → n < 2 ^ 20 → IsLine (statement (codes "lui") (register rd ∷ hexadecimal n ∷ [])) (says.Instr (instr.Lui rd n))
lui_line rd n a b =
    line_of (statement (codes "lui") (register rd ∷ hexadecimal n ∷ [])) (Word (codes "lui") ∷ all_tokens (register rd ∷ hexadecimal n ∷ [])) (says.Instr (instr.Lui rd n)) (lexed (codes "lui") (register rd ∷ hexadecimal n ∷ []) ((λ rest. refl, refl)) (register_word rd a, (hex_word n (omega arith), tt))) (λ k. refl) (lui_says rd n a b)

auipc_says : (rd n : ℕ) → rd < 32 → n < 2 ^ 20 → whole (Word (codes "auipc") ∷ all_tokens (register rd ∷ hexadecimal n ∷ [])) ≡ says.Instr (instr.Auipc rd n)
unfolding whole read read_as auipc_of
auipc_says rd n a b = rw (auipc_keyword, register_back rd a, hex_back n (omega arith), unsigned_is n b) refl

pub auipc_line : (rd n : ℕ) → rd < 32 → n < 2 ^ 20 → IsLine (statement (codes "auipc") (register rd ∷ hexadecimal n ∷ [])) (says.Instr (instr.Auipc rd n))
auipc_line rd n a b =
    line_of (statement (codes "auipc") (register rd ∷ hexadecimal n ∷ [])) (Word (codes "auipc") ∷ all_tokens (register rd ∷ hexadecimal n ∷ [])) (says.Instr (instr.Auipc rd n)) (lexed (codes "auipc") (register rd ∷ hexadecimal n ∷ []) ((λ rest. refl, refl)) (register_word rd a, (hex_word n (omega arith), tt))) (λ k. refl) (auipc_says rd n a b)

jal_says : (rd n : ℕ) → rd < 32 → n < 2 ^ 64 → whole (Word (codes "jal") ∷ all_tokens (register rd ∷ hexadecimal n ∷ [])) ≡ says.Jal rd (Address (pos n))
unfolding whole read read_as jal_of
jal_says rd n a b = rw (jal_keyword, register_back rd a, target_is n b) refl

pub jal_line : (rd n : ℕ) → rd < 32 → n < 2 ^ 64 → IsLine (statement (codes "jal") (register rd ∷ hexadecimal n ∷ [])) (says.Jal rd (Address (pos n)))
jal_line rd n a b =
    line_of (statement (codes "jal") (register rd ∷ hexadecimal n ∷ [])) (Word (codes "jal") ∷ all_tokens (register rd ∷ hexadecimal n ∷ [])) (says.Jal rd (Address (pos n))) (lexed (codes "jal") (register rd ∷ hexadecimal n ∷ []) ((λ rest. refl, refl)) (register_word rd a, (hex_word n b, tt))) (λ k. refl) (jal_says rd n a b)

branch_says : (c : Cond) (rs1 rs2 n : ℕ) → rs1 < 32 → rs2 < 32 → n < 2 ^ 64 → whole (Word (branch_name c) ∷ all_tokens (register rs1 ∷ register rs2 ∷ hexadecimal n ∷ [])) ≡ says.Branch c rs1 rs2 (Address (pos n))
unfolding whole read read_as branch_of
branch_says c rs1 rs2 n a b d = rw (branch_keyword c, register_back rs1 a, register_back rs2 b, target_is n d) refl

pub branch_line : (c : Cond) (rs1 rs2 n : ℕ) → rs1 < 32 → rs2 < 32 → n < 2 ^ 64 → IsLine (statement (branch_name c) (register rs1 ∷ register rs2 ∷ hexadecimal n ∷ [])) (says.Branch c rs1 rs2 (Address (pos n)))
branch_line c rs1 rs2 n a b d =
    line_of (statement (branch_name c) (register rs1 ∷ register rs2 ∷ hexadecimal n ∷ [])) (Word (branch_name c) ∷ all_tokens (register rs1 ∷ register rs2 ∷ hexadecimal n ∷ [])) (says.Branch c rs1 rs2 (Address (pos n))) (lexed (branch_name c) (register rs1 ∷ register rs2 ∷ hexadecimal n ∷ []) (branch_word c) (register_word rs1 a, (register_word rs2 b, (hex_word n d, tt)))) (λ k. refl) (branch_says c rs1 rs2 n a b d)

jalr_says : (rd rs1 : ℕ) (z : ℤ) → rd < 32 → rs1 < 32 → IsImm12 z → whole (Word (codes "jalr") ∷ all_tokens (register rd ∷ based z rs1 ∷ [])) ≡ says.Instr (instr.Jalr rd rs1 z)
unfolding whole read read_as jalr_of
jalr_says rd rs1 z a b c = rw (jalr_keyword, register_back rd a, register_back rs1 b, number_back z (small z c), signed_is z c) refl

pub jalr_line : (rd rs1 : ℕ) (z : ℤ) → rd < 32 → rs1 < 32 → IsImm12 z → IsLine (statement (codes "jalr") (register rd ∷ based z rs1 ∷ [])) (says.Instr (instr.Jalr rd rs1 z))
jalr_line rd rs1 z a b c =
    line_of (statement (codes "jalr") (register rd ∷ based z rs1 ∷ [])) (Word (codes "jalr") ∷ all_tokens (register rd ∷ based z rs1 ∷ [])) (says.Instr (instr.Jalr rd rs1 z)) (lexed (codes "jalr") (register rd ∷ based z rs1 ∷ []) ((λ rest. refl, refl)) (register_word rd a, ((number_word z (small z c), register_word rs1 b), tt))) (λ n. refl) (jalr_says rd rs1 z a b c)

load_says : (width : Width) (rd rs1 : ℕ) (z : ℤ) → rd < 32 → rs1 < 32 → IsImm12 z → whole (Word (load_name width) ∷ all_tokens (register rd ∷ based z rs1 ∷ [])) ≡ says.Instr (instr.Load width rd rs1 z)
unfolding whole read read_as load_of
load_says width rd rs1 z a b c = rw (load_keyword width, register_back rd a, register_back rs1 b, number_back z (small z c), signed_is z c) refl

pub load_line : (width : Width) (rd rs1 : ℕ) (z : ℤ) → rd < 32 → rs1 < 32 → IsImm12 z → IsLine (statement (load_name width) (register rd ∷ based z rs1 ∷ [])) (says.Instr (instr.Load width rd rs1 z))
load_line width rd rs1 z a b c =
    line_of (statement (load_name width) (register rd ∷ based z rs1 ∷ [])) (Word (load_name width) ∷ all_tokens (register rd ∷ based z rs1 ∷ [])) (says.Instr (instr.Load width rd rs1 z)) (lexed (load_name width) (register rd ∷ based z rs1 ∷ []) (load_word width) (register_word rd a, ((number_word z (small z c), register_word rs1 b), tt))) (λ n. refl) (load_says width rd rs1 z a b c)

store_says : (width : Width) (rs2 rs1 : ℕ) (z : ℤ) → rs2 < 32 → rs1 < 32 → IsImm12 z → IsStoreWidth width → whole (Word (store_name width) ∷ all_tokens (register rs2 ∷ based z rs1 ∷ [])) ≡ says.Instr (instr.Store width rs2 rs1 z)
unfolding whole read read_as store_of
store_says width rs2 rs1 z a b c d = rw (store_keyword width d, register_back rs2 a, register_back rs1 b, number_back z (small z c), signed_is z c) refl

pub store_line : (width : Width) (rs2 rs1 : ℕ) (z : ℤ) → rs2 < 32 → rs1 < 32 → IsImm12 z → IsStoreWidth width → IsLine (statement (store_name width) (register rs2 ∷ based z rs1 ∷ [])) (says.Instr (instr.Store width rs2 rs1 z))
store_line width rs2 rs1 z a b c d =
    line_of (statement (store_name width) (register rs2 ∷ based z rs1 ∷ [])) (Word (store_name width) ∷ all_tokens (register rs2 ∷ based z rs1 ∷ [])) (says.Instr (instr.Store width rs2 rs1 z)) (lexed (store_name width) (register rs2 ∷ based z rs1 ∷ []) (store_word width) (register_word rs2 a, ((number_word z (small z c), register_word rs1 b), tt))) (λ n. refl) (store_says width rs2 rs1 z a b c d)

lr_says : (wide : Bool) (rd rs1 : ℕ) → rd < 32 → rs1 < 32 → whole (Word (codes "lr" ++ wide_name wide) ∷ all_tokens (register rd ∷ base rs1 ∷ [])) ≡ says.Instr (instr.Lr wide no_order rd rs1)
unfolding whole read read_as lr_of
lr_says wide rd rs1 a b = rw (lr_keyword wide, register_back rd a, register_back rs1 b) refl

pub lr_line : (wide : Bool) (rd rs1 : ℕ) → rd < 32 → rs1 < 32 → IsLine (statement (codes "lr" ++ wide_name wide) (register rd ∷ base rs1 ∷ [])) (says.Instr (instr.Lr wide no_order rd rs1))
lr_line wide rd rs1 a b =
    line_of (statement (codes "lr" ++ wide_name wide) (register rd ∷ base rs1 ∷ [])) (Word (codes "lr" ++ wide_name wide) ∷ all_tokens (register rd ∷ base rs1 ∷ [])) (says.Instr (instr.Lr wide no_order rd rs1)) (lexed (codes "lr" ++ wide_name wide) (register rd ∷ base rs1 ∷ []) (lr_word wide) (register_word rd a, (register_word rs1 b, tt))) (λ n. refl) (lr_says wide rd rs1 a b)

sc_says : (wide : Bool) (rd rs1 rs2 : ℕ) → rd < 32 → rs1 < 32 → rs2 < 32 → whole (Word (codes "sc" ++ wide_name wide) ∷ all_tokens (register rd ∷ register rs2 ∷ base rs1 ∷ [])) ≡ says.Instr (instr.Sc wide no_order rd rs1 rs2)
unfolding whole read read_as sc_of
sc_says wide rd rs1 rs2 a b c = rw (sc_keyword wide, register_back rd a, register_back rs2 c, register_back rs1 b) refl

pub sc_line : (wide : Bool) (rd rs1 rs2 : ℕ) → rd < 32 → rs1 < 32 → rs2 < 32 → IsLine (statement (codes "sc" ++ wide_name wide) (register rd ∷ register rs2 ∷ base rs1 ∷ [])) (says.Instr (instr.Sc wide no_order rd rs1 rs2))
sc_line wide rd rs1 rs2 a b c =
    line_of (statement (codes "sc" ++ wide_name wide) (register rd ∷ register rs2 ∷ base rs1 ∷ [])) (Word (codes "sc" ++ wide_name wide) ∷ all_tokens (register rd ∷ register rs2 ∷ base rs1 ∷ [])) (says.Instr (instr.Sc wide no_order rd rs1 rs2)) (lexed (codes "sc" ++ wide_name wide) (register rd ∷ register rs2 ∷ base rs1 ∷ []) (sc_word wide) (register_word rd a, (register_word rs2 c, (register_word rs1 b, tt)))) (λ n. refl) (sc_says wide rd rs1 rs2 a b c)

amo_says : (op : AmoOp) (wide : Bool) (rd rs1 rs2 : ℕ) → rd < 32 → rs1 < 32 → rs2 < 32 → whole (Word (amo_name op ++ wide_name wide) ∷ all_tokens (register rd ∷ register rs2 ∷ base rs1 ∷ [])) ≡ says.Instr (instr.Amo op wide no_order rd rs1 rs2)
unfolding whole read read_as amo_of
amo_says op wide rd rs1 rs2 a b c = rw (amo_keyword op wide, register_back rd a, register_back rs2 c, register_back rs1 b) refl

pub amo_line : (op : AmoOp) (wide : Bool) (rd rs1 rs2 : ℕ) → rd < 32 → rs1 < 32 → rs2 < 32 → IsLine (statement (amo_name op ++ wide_name wide) (register rd ∷ register rs2 ∷ base rs1 ∷ [])) (says.Instr (instr.Amo op wide no_order rd rs1 rs2))
amo_line op wide rd rs1 rs2 a b c =
    line_of (statement (amo_name op ++ wide_name wide) (register rd ∷ register rs2 ∷ base rs1 ∷ [])) (Word (amo_name op ++ wide_name wide) ∷ all_tokens (register rd ∷ register rs2 ∷ base rs1 ∷ [])) (says.Instr (instr.Amo op wide no_order rd rs1 rs2)) (lexed (amo_name op ++ wide_name wide) (register rd ∷ register rs2 ∷ base rs1 ∷ []) (amo_word op wide) (register_word rd a, (register_word rs2 c, (register_word rs1 b, tt)))) (λ n. refl) (amo_says op wide rd rs1 rs2 a b c)

word_says : (n : ℕ) → n < 2 ^ 32 → whole (Word (codes ".word") ∷ all_tokens (hexadecimal n ∷ [])) ≡ says.Word n
unfolding whole read read_as word_of
word_says n a = rw (word_keyword, hex_back n (omega arith), word_is n a) refl

pub word_line : (n : ℕ) → n < 2 ^ 32 → IsLine (statement (codes ".word") (hexadecimal n ∷ [])) (says.Word n)
word_line n a =
    line_of (statement (codes ".word") (hexadecimal n ∷ [])) (Word (codes ".word") ∷ all_tokens (hexadecimal n ∷ [])) (says.Word n) (lexed (codes ".word") (hexadecimal n ∷ []) ((λ rest. refl, refl)) (hex_word n (omega arith), tt)) (λ k. refl) (word_says n a)

fence_says : whole (Word (codes "fence") ∷ []) ≡ says.Instr (instr.Fence 0 0 (pos 0x0ff))
unfolding whole read read_as fixed_of
fence_says = rw fence_keyword refl

pub fence_line : IsLine (codes "fence") (says.Instr (instr.Fence 0 0 (pos 0x0ff)))
fence_line = line_of (codes "fence") (Word (codes "fence") ∷ []) (says.Instr (instr.Fence 0 0 (pos 0x0ff))) (lexed (codes "fence") [] (λ rest. refl, refl) tt) (λ n. refl) fence_says

ecall_says : whole (Word (codes "ecall") ∷ []) ≡ says.Instr instr.Ecall
unfolding whole read read_as fixed_of
ecall_says = rw ecall_keyword refl

pub ecall_line : IsLine (codes "ecall") (says.Instr instr.Ecall)
ecall_line = line_of (codes "ecall") (Word (codes "ecall") ∷ []) (says.Instr instr.Ecall) (lexed (codes "ecall") [] (λ rest. refl, refl) tt) (λ n. refl) ecall_says

ebreak_says : whole (Word (codes "ebreak") ∷ []) ≡ says.Instr instr.Ebreak
unfolding whole read read_as fixed_of
ebreak_says = rw ebreak_keyword refl

pub ebreak_line : IsLine (codes "ebreak") (says.Instr instr.Ebreak)
ebreak_line = line_of (codes "ebreak") (Word (codes "ebreak") ∷ []) (says.Instr instr.Ebreak) (lexed (codes "ebreak") [] (λ rest. refl, refl) tt) (λ n. refl) ebreak_says
