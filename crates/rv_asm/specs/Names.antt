-- The names that statements give, and the fault of a name that is given again.
use Rattle.std.specs.Prelude.{ℕ, ◌+◌, List, [], ◌∷◌, ◌++◌, is_some, if◌then◌else◌}
use Rattle.asm_text.specs.Keywords.{lookup}
use Rattle.asm_text.specs.declared.body.Body.{Body}
use Rattle.asm_text.specs.declared.body.Body.TheVariants as says
use Rattle.asm_text.specs.declared.statement.Statement.{Statement}
use Rattle.rv_asm.specs.declared.fault.FaultKind.TheVariants as kind
use Rattle.rv_asm.specs.declared.fault.LineFault.{LineFault}
use Rattle.rv_asm.specs.declared.meaning.Meaning.{Meaning}
use Rattle.rv_asm.specs.declared.meaning.Meaning.TheVariants.{Label, Function, Object}
use Rattle.rv_asm.specs.declared.state.State.{State}
use Rattle.rv_asm.specs.State.{is_void, step}
use Rattle.rv_asm.specs.Order.{fault_if}

-- a name, unless it is there
abbrev pub add : List (List ℕ × Meaning) → List ℕ → Meaning → List (List ℕ × Meaning)
add names name meaning = if is_some (lookup names name) then names else names ++ (name, meaning) ∷ []

-- text starts at 0x10000
abbrev pub text_at : State → ℕ
text_at s = 65536 + s.text_len

-- ---- the names of a statement: its labels, and then its own

abbrev pub add_labels : List (List ℕ × Meaning) → ℕ → List (List ℕ) → List (List ℕ × Meaning)
add_labels names at [] = names
add_labels names at (label ∷ labels) = add_labels (add names label (Label at)) at labels

abbrev pub add_own : List (List ℕ × Meaning) → State → Body → List (List ℕ × Meaning)
add_own names s (says.Func name) = add names name (Function s.funcs (text_at s))
add_own names s (says.Object name) = add names name Object
add_own names s _ = names

abbrev pub names_after : List (List ℕ × Meaning) → State → Statement → List (List ℕ × Meaning)
names_after names s x =
    let named = add_labels names (text_at s) x.labels in
    if is_void s.section x then named else add_own named s x.body

-- the names that statements give, after those before them
abbrev pub names_from : List (List ℕ × Meaning) → State → List Statement → List (List ℕ × Meaning)
names_from names s [] = names
names_from names s (x ∷ xs) = names_from (names_after names s x) (step s x) xs

-- ---- a name that is given again

abbrev pub again : List (List ℕ × Meaning) → ℕ → List ℕ → List LineFault
again names line name = fault_if (is_some (lookup names name)) line kind.GivenAgain

abbrev pub labels_again : List (List ℕ × Meaning) → ℕ → ℕ → List (List ℕ) → List LineFault
labels_again names line at [] = []
labels_again names line at (label ∷ labels) = again names line label ++ labels_again (add names label (Label at)) line at labels

abbrev pub own_again : List (List ℕ × Meaning) → ℕ → Body → List LineFault
own_again names line (says.Func name) = again names line name
own_again names line (says.Object name) = again names line name
own_again names line _ = []

abbrev pub name_faults : List (List ℕ × Meaning) → State → Statement → List LineFault
name_faults names s x =
    labels_again names x.line (text_at s) x.labels
    ++ (if is_void s.section x then [] else own_again (add_labels names (text_at s) x.labels) x.line x.body)

abbrev pub name_faults_from : List (List ℕ × Meaning) → State → List Statement → List LineFault
name_faults_from names s [] = []
name_faults_from names s (x ∷ xs) = name_faults names s x ++ name_faults_from (names_after names s x) (step s x) xs
