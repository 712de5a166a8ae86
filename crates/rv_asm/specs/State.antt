-- Where a statement stands, and the state after it.
use Rattle.std.specs.Prelude.{ℕ, ◌+◌, ◌*◌, Bool, true, false, not, ◌&&◌, ◌||◌, nat_lt, min, List, [], ◌∷◌, ◌++◌, length, Option, Some, None, is_some, if◌then◌else◌}
use Rattle.std.specs.Option.{option_map_or}
use Rattle.asm_text.specs.declared.keyword.Section.{Section}
use Rattle.asm_text.specs.declared.keyword.Section.TheVariants.{Text, Data}
use Rattle.asm_text.specs.declared.body.Body.{Body}
use Rattle.asm_text.specs.declared.body.Body.TheVariants as says
use Rattle.asm_text.specs.declared.statement.Statement.{Statement}
use Rattle.rv_asm.specs.declared.state.Open.{Open}
use Rattle.rv_asm.specs.declared.state.State.{State}

-- ---- sections

abbrev pub is_data : Section → Bool
is_data Text = false
is_data Data = true

abbrev pub differ : Bool → Bool → Bool
differ true b = not b
differ false b = b

-- the section that a statement stands in, unless it may stand in both
abbrev pub wants : Body → Option Section
wants (says.Bad section) = section
wants (says.OutOfRange section size) = section
wants says.Nothing = None
wants says.Unknown = None
wants says.ToText = None
wants says.ToData = None
wants (says.Entry name) = None
wants (says.Word word) = None
wants (says.Object name) = Some Data
wants says.EndObject = Some Data
wants (says.Bytes bytes) = Some Data
wants (says.Space count) = Some Data
wants (says.Slot name) = Some Data
wants _ = Some Text

-- labels stand in text
abbrev pub is_misplaced : Section → Statement → Bool
is_misplaced section x = (nat_lt 0 (length x.labels) && is_data section) || option_map_or (λ wanted. differ (is_data wanted) (is_data section)) (wants x.body) false

abbrev pub is_unknown : Body → Bool
is_unknown says.Unknown = true
is_unknown _ = false

abbrev pub is_bad : Body → Bool
is_bad (says.Bad section) = true
is_bad _ = false

-- a statement that is unknown, in the wrong section or with a bad operand has no effect; its labels are given all the same
abbrev pub is_void : Section → Statement → Bool
is_void section x = is_misplaced section x || (is_unknown x.body || is_bad x.body)

-- ---- sizes in bytes

abbrev pub size_of : Body → ℕ
size_of (says.Instr i) = 4
size_of (says.Jal rd target) = 4
size_of (says.Branch cond rs1 rs2 target) = 4
size_of (says.Call name) = 8
size_of (says.Word word) = 4
size_of (says.Nops count) = 4 * count
size_of (says.Bytes bytes) = length bytes
size_of (says.Space count) = count
size_of (says.Slot name) = 8
size_of (says.OutOfRange section size) = size
size_of _ = 0

-- A size past the limit of a section counts as twice the limit.
abbrev pub size : Body → ℕ
size body = min (size_of body) 33554432

-- ---- the state after a statement

abbrev pub start : State
start = record { section = Text; text_len = 0; data_len = 0; funcs = 0; func = None; object = None }

abbrev pub section_after : Section → Body → Section
section_after section says.ToText = Text
section_after section says.ToData = Data
section_after section _ = section

-- what was open stays open where another is opened
abbrev pub opened : Option Open → Open → Option Open
opened None o = Some o
opened (Some before) o = Some before

abbrev pub func_after : State → ℕ → Body → Option Open
func_after s line (says.Func name) = opened s.func (record { line = line; name = name; from = s.text_len })
func_after s line says.End = None
func_after s line _ = s.func

abbrev pub object_after : State → ℕ → Body → Option Open
object_after s line (says.Object name) = opened s.object (record { line = line; name = name; from = s.data_len })
object_after s line says.EndObject = None
object_after s line _ = s.object

-- the functions that are ended
abbrev pub funcs_after : State → Body → ℕ
funcs_after s says.End = if is_some s.func then s.funcs + 1 else s.funcs
funcs_after s _ = s.funcs

abbrev pub placed_step : State → ℕ → Body → State
placed_step s line body = record {
  section = section_after s.section body;
  text_len = s.text_len + (if is_data s.section then 0 else size body);
  data_len = s.data_len + (if is_data s.section then size body else 0);
  funcs = funcs_after s body;
  func = func_after s line body;
  object = object_after s line body;
}

abbrev pub step : State → Statement → State
step s x = if is_void s.section x then s else placed_step s x.line x.body

-- the state after all of these statements
abbrev pub after : State → List Statement → State
after s [] = s
after s (x ∷ xs) = after (step s x) xs

-- what each statement gives in the state before it, one after another
abbrev pub collect : {X : Type 0} → (State → Statement → List X) → State → List Statement → List X
collect f s [] = []
collect f s (x ∷ xs) = f s x ++ collect f (step s x) xs
