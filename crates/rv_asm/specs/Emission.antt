-- What statements give: words, bytes, functions, objects, relocations and the entry.
use Rattle.std.specs.Prelude.{◌≡◌, ℕ, ◌+◌, ◌-◌, ◌*◌, ◌/◌, ◌%◌, ◌^◌, ◌<◌, ℤ, pos, ◌-ℤ◌, not, ◌||◌, List, [], ◌∷◌, length, replicate, Option, Some, None, if◌then◌else◌}
use Rattle.std.specs.List.{slice_index_or}
use Rattle.std.specs.Int.{to_le_bytes, w32, w64}
use Rattle.rv_isa.specs.Reads.{Reads}
use Rattle.rv_isa.specs.declared.instr.Instr.TheVariants as instr
use Rattle.rv_isa.specs.declared.instr.Cond.{Cond}
use Rattle.rv_isa.specs.declared.instr.ImmOp.TheVariants.{Addi}
use Rattle.asm_text.specs.Keywords.{lookup}
use Rattle.asm_text.specs.declared.body.Body.{Body}
use Rattle.asm_text.specs.declared.body.Body.TheVariants as says
use Rattle.asm_text.specs.declared.operand.Target.{Target}
use Rattle.asm_text.specs.declared.operand.Target.TheVariants.{Name, Address}
use Rattle.asm_text.specs.declared.statement.Statement.{Statement}
use Rattle.rv_asm.specs.declared.meaning.Meaning.{Meaning}
use Rattle.rv_asm.specs.declared.meaning.Meaning.TheVariants.{Function}
use Rattle.rv_asm.specs.declared.code.Code.{Code}
use Rattle.rv_asm.specs.declared.code.Code.TheVariants.{Instruction, Raw}
use Rattle.rv_asm.specs.declared.symbol.Named.{Named}
use Rattle.rv_asm.specs.declared.symbol.Fixup.{Fixup}
use Rattle.rv_asm.specs.declared.state.Open.{Open}
use Rattle.rv_asm.specs.declared.state.State.{State}
use Rattle.rv_asm.specs.State.{is_data, is_void, size, start, after}
use Rattle.rv_asm.specs.Names.{text_at}
use Rattle.rv_asm.specs.Faults.{aim, jal_reaches, branch_reaches}

-- ---- words of text

-- the word, of 32 bits, stands for it
abbrev pub Stands : ℕ → Code → Type 0
Stands word (Instruction i) = (word < 2 ^ 32) × Reads word i
Stands word (Raw w) = word ≡ w

-- each word stands for the code in its place
abbrev pub AreWords : List ℕ → List Code → Type 0
AreWords [] [] = Unit {0}
AreWords (word ∷ words) (code ∷ codes) = Stands word code × AreWords words codes
AreWords _ _ = ⊥

abbrev pub jal_code : ℕ → ℕ → Option ℤ → List Code
jal_code rd here None = []
jal_code rd here (Some a) = if jal_reaches here a then Instruction (instr.Jal rd (a -ℤ pos here)) ∷ [] else []

abbrev pub branch_code : Cond → ℕ → ℕ → ℕ → Option ℤ → List Code
branch_code cond rs1 rs2 here None = []
branch_code cond rs1 rs2 here (Some a) = if branch_reaches here a then Instruction (instr.Branch cond rs1 rs2 (a -ℤ pos here)) ∷ [] else []

abbrev pub nop : Code
nop = Instruction (instr.AluImm Addi 0 0 (pos 0))

-- AUIPC x1 and JALR x1: the upper part is the distance, rounded to 4096, and the lower part what is left of it.
-- 2 ^ 32 keeps the sum from falling below zero, and is no part of 20 bits.
abbrev pub call_code : ℕ → Option Meaning → List Code
call_code here (Some (Function number at)) =
    let ahead = at + 2 ^ 32 + 2048 - here in
    Instruction (instr.Auipc 1 (ahead / 4096 % 2 ^ 20)) ∷ Instruction (instr.Jalr 1 1 (pos (ahead % 4096) -ℤ pos 2048)) ∷ []
call_code here _ = []

abbrev pub text_code : List (List ℕ × Meaning) → State → Body → List Code
text_code names s (says.Instr i) = Instruction i ∷ []
text_code names s (says.Jal rd target) = jal_code rd (text_at s) (aim names target)
text_code names s (says.Branch cond rs1 rs2 target) = branch_code cond rs1 rs2 (text_at s) (aim names target)
text_code names s (says.Call name) = call_code (text_at s) (lookup names name)
text_code names s (says.Word word) = Raw word ∷ []
text_code names s (says.Nops count) = replicate (size (says.Nops count) / 4) nop
text_code names s _ = []

abbrev pub code : List (List ℕ × Meaning) → State → Statement → List Code
code names s x = if is_void s.section x || is_data s.section then [] else text_code names s x.body

-- ---- bytes of data

-- the address that a function has in data
abbrev pub slot_bytes : Option Meaning → List ℕ
slot_bytes (Some (Function number at)) = to_le_bytes w64 at
slot_bytes _ = []

abbrev pub data_bytes : List (List ℕ × Meaning) → Body → List ℕ
data_bytes names (says.Bytes bytes) = bytes
data_bytes names (says.Word word) = to_le_bytes w32 word
data_bytes names (says.Space count) = replicate (size (says.Space count)) 0
data_bytes names (says.Slot name) = slot_bytes (lookup names name)
data_bytes names _ = []

abbrev pub bytes : List (List ℕ × Meaning) → State → Statement → List ℕ
bytes names s x = if is_void s.section x || not (is_data s.section) then [] else data_bytes names x.body

-- ---- functions, objects, relocations, entries; data starts at text's end, rounded up to 4096

abbrev pub round_up : ℕ → ℕ → ℕ
round_up k n = (n + (k - 1)) / k * k

abbrev pub data_start : List Statement → ℕ
data_start xs = round_up 4096 (text_at (after start xs))

abbrev pub named : ℕ → ℕ → Option Open → List Named
named base to None = []
named base to (Some o) = record { name = o.name; from = base + o.from; to = base + to } ∷ []

abbrev pub own_func : State → Body → List Named
own_func s says.End = named 65536 s.text_len s.func
own_func s _ = []

abbrev pub func : State → Statement → List Named
func s x = if is_void s.section x then [] else own_func s x.body

abbrev pub own_object : ℕ → State → Body → List Named
own_object base s says.EndObject = named base s.data_len s.object
own_object base s _ = []

abbrev pub object : ℕ → State → Statement → List Named
object base s x = if is_void s.section x then [] else own_object base s x.body

-- a relocation of this kind that names a function
abbrev pub to_function : ℕ → ℕ → Option Meaning → List Fixup
to_function at kind (Some (Function number start_)) = record { at = at; kind = kind; func = number } ∷ []
to_function at kind _ = []

abbrev pub jal_fixup : List (List ℕ × Meaning) → ℕ → Target → List Fixup
jal_fixup names at (Name name) = to_function at 17 (lookup names name)
jal_fixup names at (Address a) = []

-- 17 for a jal to a function, 19 for a call, 2 for a slot
abbrev pub own_fixup : List (List ℕ × Meaning) → ℕ → State → Body → List Fixup
own_fixup names base s (says.Jal rd target) = jal_fixup names (text_at s) target
own_fixup names base s (says.Call name) = to_function (text_at s) 19 (lookup names name)
own_fixup names base s (says.Slot name) = to_function (base + s.data_len) 2 (lookup names name)
own_fixup names base s _ = []

abbrev pub fixup : List (List ℕ × Meaning) → ℕ → State → Statement → List Fixup
fixup names base s x = if is_void s.section x then [] else own_fixup names base s x.body

abbrev pub start_of : Option Meaning → List ℕ
start_of (Some (Function number at)) = at ∷ []
start_of _ = []

abbrev pub own_entry : List (List ℕ × Meaning) → Body → List ℕ
own_entry names (says.Entry name) = start_of (lookup names name)
own_entry names _ = []

abbrev pub entry : List (List ℕ × Meaning) → State → Statement → List ℕ
entry names s x = if is_void s.section x then [] else own_entry names x.body

-- the last entry that is named, or else the first function's start
abbrev pub entry_or : List ℕ → List Named → ℕ
entry_or [] [] = 65536
entry_or [] (f ∷ funcs) = f.from
entry_or (e ∷ es) funcs = slice_index_or (e ∷ es) (length es) 65536
