-- What a text stands for: a program, or the first line with a fault and its kind.
use Rattle.std.specs.Prelude.{◌≡◌, ℕ, List, [], ◌++◌, Option}
use Rattle.std.specs.Option.{option_map}
use Rattle.asm_text.specs.Statements.{statements}
use Rattle.asm_text.specs.declared.statement.Statement.{Statement}
use Rattle.rv_asm.specs.declared.fault.AsmFault.{AsmFault}
use Rattle.rv_asm.specs.declared.fault.AsmFault.TheVariants as asm_fault
use Rattle.rv_asm.specs.declared.fault.LineFault.{LineFault}
use Rattle.rv_asm.specs.declared.meaning.Meaning.{Meaning}
use Rattle.rv_asm.specs.declared.program.Program.{Program}
use Rattle.rv_asm.specs.Order.{first_fault, number_of}
use Rattle.rv_asm.specs.State.{start, collect}
use Rattle.rv_asm.specs.Names.{names_from, name_faults_from}
use Rattle.rv_asm.specs.Faults.{faults_from}
use Rattle.rv_asm.specs.Emission.{AreWords, code, bytes, func, object, fixup, entry, entry_or, data_start}

-- the names that all statements give
unfoldable pub all_names : List Statement → List (List ℕ × Meaning)
all_names xs = names_from [] start xs

-- the first line with a fault, and the first kind in it
unfoldable pub fault_of : List Statement → Option LineFault
fault_of xs = first_fault (name_faults_from [] start xs ++ faults_from (all_names xs) start xs)

unfoldable pub fault_in : List ℕ → Option AsmFault
fault_in text = option_map (λ f. asm_fault.Line f.line (number_of f.kind)) (fault_of (statements text))

-- each part of the program is what the statements give, in their order
pub record IsGivenBy (xs : List Statement) (p : Program) : Type 0 where
  pub words : AreWords p.text (collect (code (all_names xs)) start xs)
  pub in_data : p.bytes ≡ collect (bytes (all_names xs)) start xs
  pub start_at : p.entry ≡ entry_or (collect (entry (all_names xs)) start xs) (collect func start xs)
  pub functions : p.funcs ≡ collect func start xs
  pub all_objects : p.objects ≡ collect (object (data_start xs)) start xs
  pub relocations : p.fixups ≡ collect (fixup (all_names xs) (data_start xs)) start xs

-- the program that a text stands for
abbrev pub IsProgramOf : List ℕ → Program → Type 0
IsProgramOf text p = IsGivenBy (statements text) p
