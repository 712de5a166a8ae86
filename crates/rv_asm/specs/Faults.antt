-- The faults of statements, but for names that are given again.
use Rattle.std.specs.Prelude.{ℕ, ◌+◌, ◌%◌, ℤ, pos, neg_ℤ, ◌-ℤ◌, unsigned_abs, int_lt, Bool, true, false, not, ◌==◌, ◌&&◌, nat_lt, List, [], ◌∷◌, ◌++◌, Option, Some, None, is_some, if◌then◌else◌}
use Rattle.asm_text.specs.Bodies.{is_within}
use Rattle.asm_text.specs.Keywords.{lookup}
use Rattle.asm_text.specs.declared.body.Body.{Body}
use Rattle.asm_text.specs.declared.body.Body.TheVariants as says
use Rattle.asm_text.specs.declared.operand.Target.{Target}
use Rattle.asm_text.specs.declared.operand.Target.TheVariants.{Name, Address}
use Rattle.asm_text.specs.declared.statement.Statement.{Statement}
use Rattle.rv_asm.specs.declared.fault.FaultKind.TheVariants as kind
use Rattle.rv_asm.specs.declared.fault.LineFault.{LineFault}
use Rattle.rv_asm.specs.declared.meaning.Meaning.{Meaning}
use Rattle.rv_asm.specs.declared.meaning.Meaning.TheVariants.{Label, Function}
use Rattle.rv_asm.specs.declared.state.Open.{Open}
use Rattle.rv_asm.specs.declared.state.State.{State}
use Rattle.rv_asm.specs.State.{is_data, is_misplaced, is_void, is_unknown, is_bad, size, step}
use Rattle.rv_asm.specs.Names.{text_at}
use Rattle.rv_asm.specs.Order.{one_fault, fault_if}

-- ---- a statement without effect

abbrev pub void_faults : State → Statement → List LineFault
void_faults s x =
    fault_if (is_unknown x.body) x.line kind.Unknown
    ++ fault_if (is_misplaced s.section x) x.line kind.Misplaced
    ++ fault_if (is_bad x.body) x.line kind.Malformed

-- ---- nested, or ended without a begin

abbrev pub nesting_faults : State → ℕ → Body → List LineFault
nesting_faults s line (says.Func name) = fault_if (is_some s.func) line kind.Unpaired
nesting_faults s line says.End = fault_if (not (is_some s.func)) line kind.Unpaired
nesting_faults s line (says.Object name) = fault_if (is_some s.object) line kind.Unpaired
nesting_faults s line says.EndObject = fault_if (not (is_some s.object)) line kind.Unpaired
nesting_faults s line _ = []

-- ---- a name without its meaning, and a number out of range or out of reach

-- the address of a label or a function
abbrev pub address_of : Option Meaning → Option ℤ
address_of (Some (Label at)) = Some (pos at)
address_of (Some (Function number at)) = Some (pos at)
address_of _ = None

abbrev pub aim : List (List ℕ × Meaning) → Target → Option ℤ
aim names (Address a) = Some a
aim names (Name name) = address_of (lookup names name)

abbrev pub is_even : ℤ → Bool
is_even z = unsigned_abs z % 2 == 0

-- an address (so not negative) that is an even number of bytes away, from lo to hi
abbrev pub reaches : ℤ → ℤ → ℕ → ℤ → Bool
reaches lo hi here a = not (int_lt a (pos 0)) && (is_within lo hi (a -ℤ pos here) && is_even (a -ℤ pos here))

abbrev pub jal_reaches : ℕ → ℤ → Bool
jal_reaches here a = reaches (neg_ℤ (pos 1048576)) (pos 1048574) here a

abbrev pub branch_reaches : ℕ → ℤ → Bool
branch_reaches here a = reaches (neg_ℤ (pos 4096)) (pos 4094) here a

abbrev pub jal_faults : ℕ → ℕ → Option ℤ → List LineFault
jal_faults line here None = one_fault line kind.Undefined
jal_faults line here (Some a) = fault_if (not (jal_reaches here a)) line kind.OutOfRange

abbrev pub branch_faults : ℕ → ℕ → Option ℤ → List LineFault
branch_faults line here None = one_fault line kind.Undefined
branch_faults line here (Some a) = fault_if (not (branch_reaches here a)) line kind.OutOfRange

abbrev pub is_function : Option Meaning → Bool
is_function (Some (Function number at)) = true
is_function _ = false

abbrev pub function_faults : List (List ℕ × Meaning) → ℕ → List ℕ → List LineFault
function_faults names line name = fault_if (not (is_function (lookup names name))) line kind.Undefined

abbrev pub aim_faults : List (List ℕ × Meaning) → State → ℕ → Body → List LineFault
aim_faults names s line (says.Jal rd target) = jal_faults line (text_at s) (aim names target)
aim_faults names s line (says.Branch cond rs1 rs2 target) = branch_faults line (text_at s) (aim names target)
aim_faults names s line (says.Call name) = function_faults names line name
aim_faults names s line (says.Slot name) = function_faults names line name
aim_faults names s line (says.Entry name) = function_faults names line name
aim_faults names s line (says.OutOfRange section size) = one_fault line kind.OutOfRange
aim_faults names s line _ = []

-- ---- more than 16777216 bytes of a section

abbrev pub len_of : State → ℕ
len_of s = if is_data s.section then s.data_len else s.text_len

abbrev pub size_faults : State → ℕ → Body → List LineFault
size_faults s line body = fault_if (nat_lt 16777216 (len_of s + size body)) line kind.TooLarge

-- ---- all

abbrev pub faults : List (List ℕ × Meaning) → State → Statement → List LineFault
faults names s x =
    if is_void s.section x then void_faults s x
    else nesting_faults s x.line x.body ++ (aim_faults names s x.line x.body ++ size_faults s x.line x.body)

-- what is left open is a fault of its own line
abbrev pub left_open : Option Open → List LineFault
left_open None = []
left_open (Some o) = one_fault o.line kind.Unpaired

-- what is left open at the end, and a text without a function
abbrev pub end_faults : State → List LineFault
end_faults s = left_open s.func ++ (left_open s.object ++ fault_if (s.funcs == 0 && not (is_some s.func)) 1 kind.Undefined)

abbrev pub faults_from : List (List ℕ × Meaning) → State → List Statement → List LineFault
faults_from names s [] = end_faults s
faults_from names s (x ∷ xs) = faults names s x ++ faults_from names (step s x) xs
