-- What a statement says, read from its name and its operands.
use Rattle.std.specs.Prelude.{ℕ, ◌-◌, ◌^◌, ℤ, pos, neg_ℤ, unsigned_abs, int_lt, Bool, false, not, ◌==◌, ◌&&◌, List, [], ◌∷◌, length, Option, Some, None, if◌then◌else◌}
use Rattle.std.specs.List.{slice_index_or}
use Rattle.std.specs.Int.{to_le_bytes, w64}
use Rattle.std.specs.Option.{option_map, option_map_or}
use Rattle.rv_isa.specs.declared.instr.AluOp.{AluOp}
use Rattle.rv_isa.specs.declared.instr.ImmOp.{ImmOp}
use Rattle.rv_isa.specs.declared.instr.ImmOp.TheVariants.{Addi}
use Rattle.rv_isa.specs.declared.instr.ShiftOp.{ShiftOp}
use Rattle.rv_isa.specs.declared.instr.ShiftOp.TheVariants.{Slliw, Srliw, Sraiw}
use Rattle.rv_isa.specs.declared.instr.Cond.{Cond}
use Rattle.rv_isa.specs.declared.instr.Width.{Width}
use Rattle.rv_isa.specs.declared.instr.AmoOp.{AmoOp}
use Rattle.rv_isa.specs.declared.instr.Order.{Order}
use Rattle.rv_isa.specs.declared.instr.Instr.{Instr}
use Rattle.rv_isa.specs.declared.instr.Instr.TheVariants as instr
use Rattle.asm_text.specs.Operands.{◌>>=◌, register_in, number_in, name_in, target_in, based_in, base_in, text_in}
use Rattle.asm_text.specs.Keywords.{section_of}
use Rattle.asm_text.specs.declared.token.Token.{Token}
use Rattle.asm_text.specs.declared.keyword.Section.TheVariants.{Text, Data}
use Rattle.asm_text.specs.declared.keyword.Keyword.{Keyword}
use Rattle.asm_text.specs.declared.keyword.Keyword.TheVariants as word
use Rattle.asm_text.specs.declared.body.Body.{Body}
use Rattle.asm_text.specs.declared.body.Body.TheVariants as says

-- ---- numbers in range

abbrev pub is_within : ℤ → ℤ → ℤ → Bool
is_within lo hi z = not (int_lt z lo) && not (int_lt hi z)

abbrev pub in_range : ℤ → ℤ → ℤ → Option ℤ
in_range lo hi z = if is_within lo hi z then Some z else None

-- a number of k bits as one without a sign
abbrev pub wrapped : ℕ → ℤ → ℕ
wrapped k z = if int_lt z (pos 0) then 2 ^ k - unsigned_abs z else unsigned_abs z

-- a number of k bits, with a sign or without one
abbrev pub of_bits : ℕ → ℤ → Option ℕ
of_bits k z = option_map (wrapped k) (in_range (neg_ℤ (pos (2 ^ (k - 1)))) (pos (2 ^ k - 1)) z)

-- a number of 12 bits with a sign
abbrev pub signed_12 : ℤ → Option ℤ
signed_12 z = in_range (neg_ℤ (pos 2048)) (pos 2047) z

-- a number of 20 bits without a sign
abbrev pub unsigned_20 : ℤ → Option ℕ
unsigned_20 z = option_map unsigned_abs (in_range (pos 0) (pos 1048575) z)

-- a shift of 32 bits goes over 31 places at most
abbrev pub most_of : ShiftOp → ℕ
most_of Slliw = 31
most_of Srliw = 31
most_of Sraiw = 31
most_of _ = 63

abbrev pub amount_of : ShiftOp → ℤ → Option ℕ
amount_of op z = option_map unsigned_abs (in_range (pos 0) (pos (most_of op)) z)

-- ---- instructions: each takes 4 bytes, also where its number is out of range

abbrev pub a_word : Option Instr → Body
a_word i = option_map_or (λ x. says.Instr x) i (says.OutOfRange (Some Text) 4)

-- the operand at a place
abbrev pub at : List (List Token) → ℕ → List Token
at ops i = slice_index_or ops i []

-- op rd,rs1,rs2
unfoldable pub alu_of : AluOp → List (List Token) → Option Body
alu_of op ops = do
  rd ← register_in (at ops 0)
  rs1 ← register_in (at ops 1)
  rs2 ← register_in (at ops 2)
  Some (says.Instr (instr.Alu op rd rs1 rs2))

-- op rd,rs1,n
unfoldable pub imm_of : ImmOp → List (List Token) → Option Body
imm_of op ops = do
  rd ← register_in (at ops 0)
  rs1 ← register_in (at ops 1)
  n ← number_in (at ops 2)
  Some (a_word (option_map (λ imm. instr.AluImm op rd rs1 imm) (signed_12 n)))

-- op rd,rs1,n
unfoldable pub shift_of : ShiftOp → List (List Token) → Option Body
shift_of op ops = do
  rd ← register_in (at ops 0)
  rs1 ← register_in (at ops 1)
  n ← number_in (at ops 2)
  Some (a_word (option_map (λ by. instr.ShiftImm op rd rs1 by) (amount_of op n)))

-- op rs1,rs2,target
unfoldable pub branch_of : Cond → List (List Token) → Option Body
branch_of cond ops = do
  rs1 ← register_in (at ops 0)
  rs2 ← register_in (at ops 1)
  target ← target_in (at ops 2)
  Some (says.Branch cond rs1 rs2 target)

-- op rd,n(rs1)
unfoldable pub load_of : Width → List (List Token) → Option Body
load_of width ops = do
  rd ← register_in (at ops 0)
  base ← based_in (at ops 1)
  Some (a_word (option_map (λ off. instr.Load width rd base.1 off) (signed_12 base.0)))

-- op rs2,n(rs1)
unfoldable pub store_of : Width → List (List Token) → Option Body
store_of width ops = do
  rs2 ← register_in (at ops 0)
  base ← based_in (at ops 1)
  Some (a_word (option_map (λ off. instr.Store width rs2 base.1 off) (signed_12 base.0)))

-- jalr rd,n(rs1)
unfoldable pub jalr_of : List (List Token) → Option Body
jalr_of ops = do
  rd ← register_in (at ops 0)
  base ← based_in (at ops 1)
  Some (a_word (option_map (λ off. instr.Jalr rd base.1 off) (signed_12 base.0)))

-- the bits aq and rl of an atomic instruction are zero
abbrev pub no_order : Order
no_order = record { aq = false; rl = false }

-- lr rd,(rs1)
unfoldable pub lr_of : Bool → List (List Token) → Option Body
lr_of wide ops = do
  rd ← register_in (at ops 0)
  rs1 ← base_in (at ops 1)
  Some (says.Instr (instr.Lr wide no_order rd rs1))

-- sc rd,rs2,(rs1)
unfoldable pub sc_of : Bool → List (List Token) → Option Body
sc_of wide ops = do
  rd ← register_in (at ops 0)
  rs2 ← register_in (at ops 1)
  rs1 ← base_in (at ops 2)
  Some (says.Instr (instr.Sc wide no_order rd rs1 rs2))

-- op rd,rs2,(rs1)
unfoldable pub amo_of : AmoOp → Bool → List (List Token) → Option Body
amo_of op wide ops = do
  rd ← register_in (at ops 0)
  rs2 ← register_in (at ops 1)
  rs1 ← base_in (at ops 2)
  Some (says.Instr (instr.Amo op wide no_order rd rs1 rs2))

-- lui rd,n
unfoldable pub lui_of : List (List Token) → Option Body
lui_of ops = do
  rd ← register_in (at ops 0)
  n ← number_in (at ops 1)
  Some (a_word (option_map (λ imm. instr.Lui rd imm) (unsigned_20 n)))

-- auipc rd,n
unfoldable pub auipc_of : List (List Token) → Option Body
auipc_of ops = do
  rd ← register_in (at ops 0)
  n ← number_in (at ops 1)
  Some (a_word (option_map (λ imm. instr.Auipc rd imm) (unsigned_20 n)))

-- jal rd,target
unfoldable pub jal_of : List (List Token) → Option Body
jal_of ops = do
  rd ← register_in (at ops 0)
  target ← target_in (at ops 1)
  Some (says.Jal rd target)

-- call f
unfoldable pub call_of : List (List Token) → Option Body
call_of ops = option_map (λ f. says.Call f) (name_in (at ops 0))

-- instructions without operands: fence orders all accesses before those after it, nop is addi x0,x0,0 and ret is jalr x0,0(x1)
unfoldable pub fixed_of : Keyword → Option Body
fixed_of word.Fence = Some (says.Instr (instr.Fence 0 0 (pos 0x0ff)))
fixed_of word.Ecall = Some (says.Instr instr.Ecall)
fixed_of word.Ebreak = Some (says.Instr instr.Ebreak)
fixed_of word.Nop = Some (says.Instr (instr.AluImm Addi 0 0 (pos 0)))
fixed_of word.Ret = Some (says.Instr (instr.Jalr 0 1 (pos 0)))
fixed_of _ = None

-- ---- directives

-- .word n
unfoldable pub word_of : List (List Token) → Option Body
word_of ops = do
  n ← number_in (at ops 0)
  Some (option_map_or (λ w. says.Word w) (of_bits 32 n) (says.OutOfRange None 4))

-- .byte n
unfoldable pub byte_of : List (List Token) → Option Body
byte_of ops = do
  n ← number_in (at ops 0)
  Some (option_map_or (λ b. says.Bytes (b ∷ [])) (of_bits 8 n) (says.OutOfRange (Some Data) 1))

-- .dword n, little-endian
unfoldable pub dword_of : List (List Token) → Option Body
dword_of ops = do
  n ← number_in (at ops 0)
  Some (option_map_or (λ d. says.Bytes (to_le_bytes w64 d)) (of_bits 64 n) (says.OutOfRange (Some Data) 8))

-- .nops n
unfoldable pub nops_of : List (List Token) → Option Body
nops_of ops = do
  n ← number_in (at ops 0)
  Some (if int_lt n (pos 0) then says.OutOfRange (Some Text) 0 else says.Nops (unsigned_abs n))

-- .space n
unfoldable pub space_of : List (List Token) → Option Body
space_of ops = do
  n ← number_in (at ops 0)
  Some (if int_lt n (pos 0) then says.OutOfRange (Some Data) 0 else says.Space (unsigned_abs n))

-- .func f
unfoldable pub func_of : List (List Token) → Option Body
func_of ops = option_map (λ name. says.Func name) (name_in (at ops 0))

-- .entry f
unfoldable pub entry_of : List (List Token) → Option Body
entry_of ops = option_map (λ name. says.Entry name) (name_in (at ops 0))

-- .object o
unfoldable pub object_of : List (List Token) → Option Body
object_of ops = option_map (λ name. says.Object name) (name_in (at ops 0))

-- .slot f
unfoldable pub slot_of : List (List Token) → Option Body
slot_of ops = option_map (λ name. says.Slot name) (name_in (at ops 0))

-- .ascii "text"
unfoldable pub ascii_of : List (List Token) → Option Body
ascii_of ops = option_map (λ bytes. says.Bytes bytes) (text_in (at ops 0))

-- ---- statements

-- how many operands a statement has
abbrev pub arity : Keyword → ℕ
arity (word.Alu op) = 3
arity (word.AluImm op) = 3
arity (word.Shift op) = 3
arity (word.Branch cond) = 3
arity (word.Load width) = 2
arity (word.Store width) = 2
arity (word.Lr wide) = 2
arity (word.Sc wide) = 3
arity (word.Amo op wide) = 3
arity word.Lui = 2
arity word.Auipc = 2
arity word.Jal = 2
arity word.Jalr = 2
arity word.Fence = 0
arity word.Ecall = 0
arity word.Ebreak = 0
arity word.Nop = 0
arity word.Ret = 0
arity word.ToText = 0
arity word.ToData = 0
arity word.End = 0
arity word.EndObject = 0
arity _ = 1

-- what a statement with so many operands says, where each of them has its form
unfoldable pub read_as : Keyword → List (List Token) → Option Body
read_as (word.Alu op) ops = alu_of op ops
read_as (word.AluImm op) ops = imm_of op ops
read_as (word.Shift op) ops = shift_of op ops
read_as (word.Branch cond) ops = branch_of cond ops
read_as (word.Load width) ops = load_of width ops
read_as (word.Store width) ops = store_of width ops
read_as (word.Lr wide) ops = lr_of wide ops
read_as (word.Sc wide) ops = sc_of wide ops
read_as (word.Amo op wide) ops = amo_of op wide ops
read_as word.Lui ops = lui_of ops
read_as word.Auipc ops = auipc_of ops
read_as word.Jal ops = jal_of ops
read_as word.Jalr ops = jalr_of ops
read_as word.Call ops = call_of ops
read_as word.ToText ops = Some says.ToText
read_as word.ToData ops = Some says.ToData
read_as word.Func ops = func_of ops
read_as word.End ops = Some says.End
read_as word.Entry ops = entry_of ops
read_as word.Word ops = word_of ops
read_as word.Nops ops = nops_of ops
read_as word.Byte ops = byte_of ops
read_as word.Dword ops = dword_of ops
read_as word.Space ops = space_of ops
read_as word.Ascii ops = ascii_of ops
read_as word.Object ops = object_of ops
read_as word.EndObject ops = Some says.EndObject
read_as word.Slot ops = slot_of ops
read_as word ops = fixed_of word

-- a statement is bad where it has another number of operands, or one of another form
unfoldable pub read : Keyword → List (List Token) → Body
read keyword ops =
    if length ops == arity keyword then option_map_or (λ body. body) (read_as keyword ops) (says.Bad (section_of keyword))
    else says.Bad (section_of keyword)
