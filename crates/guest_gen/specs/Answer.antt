-- The exit status of each answer, and the line that tells of a refusal.
use Rattle.std.specs.Prelude.{ℕ, List, ◌++◌, codes, Result, Ok, Err}
use Rattle.std.specs.Fmt.{decimal}
use Rattle.rv_asm.specs.declared.fault.AsmFault.TheVariants as asm
use Rattle.guest_gen.specs.declared.answer.MadeWhat.{MadeWhat}
use Rattle.guest_gen.specs.declared.answer.MadeWhat.TheVariants as made
use Rattle.guest_gen.specs.declared.decision.NewFile.{NewFile}
use Rattle.guest_gen.specs.declared.decision.Refusal.{Refusal}
use Rattle.guest_gen.specs.declared.decision.Refusal.TheVariants.{Usage, ReadFault, TooLong, Fault, NoMemory}

abbrev pub status_of : MadeWhat → ℕ
status_of made.Done = 0
status_of made.Usage = 120
status_of made.ReadFault = 121
status_of made.WriteFault = 122
status_of (made.Asm fault) = 123
status_of made.NoMemory = 125
status_of made.TooLong = 126

-- the answer of a call that can write what was decided
abbrev pub what_of : Result NewFile Refusal → MadeWhat
what_of (Ok file) = made.Done
what_of (Err Usage) = made.Usage
what_of (Err (ReadFault name)) = made.ReadFault
what_of (Err (TooLong name)) = made.TooLong
what_of (Err (Fault line kind)) = made.Asm (asm.Line line kind)
what_of (Err NoMemory) = made.NoMemory

abbrev pub line_of : Refusal → List ℕ
line_of Usage = codes "ocolos_asm: usage\n"
line_of (ReadFault name) = codes "ocolos_asm: cannot read " ++ name ++ codes "\n"
line_of (TooLong name) = codes "ocolos_asm: too long " ++ name ++ codes "\n"
line_of (Fault line kind) = codes "ocolos_asm: line " ++ decimal line ++ codes " fault " ++ decimal kind ++ codes "\n"
line_of NoMemory = codes "ocolos_asm: out of memory\n"
