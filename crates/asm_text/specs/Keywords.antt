-- The names of statements: instructions have those of the manual's listing in lower case.
use Rattle.std.specs.Prelude.{ℕ, true, false, List, [], ◌∷◌, Option, Some, None, if◌then◌else◌, codes}
use Rattle.std.specs.Option.{option_map}
use Rattle.std.specs.Str.{bytes_eq}
use Rattle.finite.specs.First.{first_of}
use Rattle.rv_isa.specs.declared.instr.AluOp.{AluOp}
use Rattle.rv_isa.specs.declared.instr.AluOp.TheVariants as alu
use Rattle.rv_isa.specs.declared.instr.ImmOp.{ImmOp}
use Rattle.rv_isa.specs.declared.instr.ImmOp.TheVariants as imm
use Rattle.rv_isa.specs.declared.instr.ShiftOp.{ShiftOp}
use Rattle.rv_isa.specs.declared.instr.ShiftOp.TheVariants as shift
use Rattle.rv_isa.specs.declared.instr.Cond.{Cond}
use Rattle.rv_isa.specs.declared.instr.Cond.TheVariants as cond_of
use Rattle.rv_isa.specs.declared.instr.Width.{Width}
use Rattle.rv_isa.specs.declared.instr.Width.TheVariants as width
use Rattle.rv_isa.specs.declared.instr.AmoOp.TheVariants as amo
use Rattle.rv_isa.specs.Instr.{IsStoreWidth}
use Rattle.asm_text.specs.declared.keyword.Section.{Section}
use Rattle.asm_text.specs.declared.keyword.Section.TheVariants.{Text, Data}
use Rattle.asm_text.specs.declared.keyword.Keyword.{Keyword}
use Rattle.asm_text.specs.declared.keyword.Keyword.TheVariants as word

-- what stands under a name in a table: the first row of that name counts
abbrev pub lookup : {X : Type 0} → List (List ℕ × X) → List ℕ → Option X
lookup [] name = None
lookup (row ∷ rows) name = if bytes_eq name row.0 then Some row.1 else lookup rows name

-- OP, without multiplication
abbrev pub alu_names : List (List ℕ × AluOp)
alu_names =
    (codes "add", alu.Add) ∷ (codes "sub", alu.Sub) ∷ (codes "sll", alu.Sll) ∷ (codes "slt", alu.Slt) ∷
    (codes "sltu", alu.Sltu) ∷ (codes "xor", alu.Xor) ∷ (codes "srl", alu.Srl) ∷ (codes "sra", alu.Sra) ∷
    (codes "or", alu.Or) ∷ (codes "and", alu.And) ∷ []

-- OP, multiplication and division
abbrev pub mul_names : List (List ℕ × AluOp)
mul_names =
    (codes "mul", alu.Mul) ∷ (codes "mulh", alu.Mulh) ∷ (codes "mulhsu", alu.Mulhsu) ∷
    (codes "mulhu", alu.Mulhu) ∷ (codes "div", alu.Div) ∷ (codes "divu", alu.Divu) ∷ (codes "rem", alu.Rem) ∷
    (codes "remu", alu.Remu) ∷ []

-- OP-32
abbrev pub alu_32_names : List (List ℕ × AluOp)
alu_32_names =
    (codes "addw", alu.Addw) ∷ (codes "subw", alu.Subw) ∷ (codes "sllw", alu.Sllw) ∷
    (codes "srlw", alu.Srlw) ∷ (codes "sraw", alu.Sraw) ∷ (codes "mulw", alu.Mulw) ∷
    (codes "divw", alu.Divw) ∷ (codes "divuw", alu.Divuw) ∷ (codes "remw", alu.Remw) ∷
    (codes "remuw", alu.Remuw) ∷ []

-- OP-IMM and OP-IMM-32
abbrev pub imm_names : List (List ℕ × ImmOp)
imm_names =
    (codes "addi", imm.Addi) ∷ (codes "slti", imm.Slti) ∷ (codes "sltiu", imm.Sltiu) ∷
    (codes "xori", imm.Xori) ∷ (codes "ori", imm.Ori) ∷ (codes "andi", imm.Andi) ∷
    (codes "addiw", imm.Addiw) ∷ []

abbrev pub shift_names : List (List ℕ × ShiftOp)
shift_names =
    (codes "slli", shift.Slli) ∷ (codes "srli", shift.Srli) ∷ (codes "srai", shift.Srai) ∷
    (codes "slliw", shift.Slliw) ∷ (codes "srliw", shift.Srliw) ∷ (codes "sraiw", shift.Sraiw) ∷ []

-- BRANCH
abbrev pub branch_names : List (List ℕ × Cond)
branch_names =
    (codes "beq", cond_of.Eq) ∷ (codes "bne", cond_of.Ne) ∷ (codes "blt", cond_of.Lt) ∷
    (codes "bge", cond_of.Ge) ∷ (codes "bltu", cond_of.Ltu) ∷ (codes "bgeu", cond_of.Geu) ∷ []

-- LOAD
abbrev pub load_names : List (List ℕ × Width)
load_names =
    (codes "lb", width.B) ∷ (codes "lh", width.H) ∷ (codes "lw", width.W) ∷ (codes "ld", width.D) ∷
    (codes "lbu", width.Bu) ∷ (codes "lhu", width.Hu) ∷ (codes "lwu", width.Wu) ∷ []

-- STORE
abbrev pub store_names : List (List ℕ × Width)
store_names =
    (codes "sb", width.B) ∷ (codes "sh", width.H) ∷ (codes "sw", width.W) ∷ (codes "sd", width.D) ∷ []

-- AMO, of 4 bytes
abbrev pub atomic_w_names : List (List ℕ × Keyword)
atomic_w_names =
    (codes "lr.w", word.Lr false) ∷ (codes "sc.w", word.Sc false) ∷
    (codes "amoswap.w", word.Amo amo.Swap false) ∷ (codes "amoadd.w", word.Amo amo.Add false) ∷
    (codes "amoxor.w", word.Amo amo.Xor false) ∷ (codes "amoand.w", word.Amo amo.And false) ∷
    (codes "amoor.w", word.Amo amo.Or false) ∷ (codes "amomin.w", word.Amo amo.Min false) ∷
    (codes "amomax.w", word.Amo amo.Max false) ∷ (codes "amominu.w", word.Amo amo.Minu false) ∷
    (codes "amomaxu.w", word.Amo amo.Maxu false) ∷ []

-- AMO, of 8 bytes
abbrev pub atomic_d_names : List (List ℕ × Keyword)
atomic_d_names =
    (codes "lr.d", word.Lr true) ∷ (codes "sc.d", word.Sc true) ∷
    (codes "amoswap.d", word.Amo amo.Swap true) ∷ (codes "amoadd.d", word.Amo amo.Add true) ∷
    (codes "amoxor.d", word.Amo amo.Xor true) ∷ (codes "amoand.d", word.Amo amo.And true) ∷
    (codes "amoor.d", word.Amo amo.Or true) ∷ (codes "amomin.d", word.Amo amo.Min true) ∷
    (codes "amomax.d", word.Amo amo.Max true) ∷ (codes "amominu.d", word.Amo amo.Minu true) ∷
    (codes "amomaxu.d", word.Amo amo.Maxu true) ∷ []

-- all other instructions, and the short forms nop, ret and call
abbrev pub other_names : List (List ℕ × Keyword)
other_names =
    (codes "lui", word.Lui) ∷ (codes "auipc", word.Auipc) ∷ (codes "jal", word.Jal) ∷
    (codes "jalr", word.Jalr) ∷ (codes "call", word.Call) ∷ (codes "fence", word.Fence) ∷
    (codes "ecall", word.Ecall) ∷ (codes "ebreak", word.Ebreak) ∷ (codes "nop", word.Nop) ∷
    (codes "ret", word.Ret) ∷ []

abbrev pub directive_names : List (List ℕ × Keyword)
directive_names =
    (codes ".text", word.ToText) ∷ (codes ".data", word.ToData) ∷ (codes ".func", word.Func) ∷
    (codes ".end", word.End) ∷ (codes ".entry", word.Entry) ∷ (codes ".word", word.Word) ∷
    (codes ".nops", word.Nops) ∷ (codes ".byte", word.Byte) ∷ (codes ".dword", word.Dword) ∷
    (codes ".space", word.Space) ∷ (codes ".ascii", word.Ascii) ∷ (codes ".object", word.Object) ∷
    (codes ".endobject", word.EndObject) ∷ (codes ".slot", word.Slot) ∷ []

-- what a statement of this name asks for
unfoldable pub keyword_of : List ℕ → Option Keyword
keyword_of name = first_of (
    lookup directive_names name
    ∷ lookup other_names name
    ∷ option_map (λ op. word.AluImm op) (lookup imm_names name)
    ∷ option_map (λ width. word.Load width) (lookup load_names name)
    ∷ option_map (λ width. word.Store width) (lookup store_names name)
    ∷ option_map (λ cond. word.Branch cond) (lookup branch_names name)
    ∷ option_map (λ op. word.Shift op) (lookup shift_names name)
    ∷ option_map (λ op. word.Alu op) (lookup alu_names name)
    ∷ option_map (λ op. word.Alu op) (lookup mul_names name)
    ∷ option_map (λ op. word.Alu op) (lookup alu_32_names name)
    ∷ lookup atomic_w_names name
    ∷ lookup atomic_d_names name
    ∷ [])

-- a store has one of the widths of stores
abbrev pub IsGiven : Keyword → Type 0
IsGiven (word.Store width) = IsStoreWidth width
IsGiven _ = Unit {0}

-- the section that a statement stands in, unless it may stand in both
abbrev pub section_of : Keyword → Option Section
section_of word.ToText = None
section_of word.ToData = None
section_of word.Entry = None
section_of word.Word = None
section_of word.Byte = Some Data
section_of word.Dword = Some Data
section_of word.Space = Some Data
section_of word.Ascii = Some Data
section_of word.Object = Some Data
section_of word.EndObject = Some Data
section_of word.Slot = Some Data
section_of _ = Some Text
