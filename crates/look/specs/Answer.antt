-- The exit status of each end of a look, and the lines that tell of a refusal. A fault of the program or of the script has the line
-- that a run has, and below it what it means.
use Rattle.std.specs.Prelude.{ℕ, List, ◌++◌, codes, Result, Ok, Err}
use Rattle.report.specs.Answer as report
use Rattle.report.specs.declared.answer.Ended.{Ended}
use Rattle.report.specs.declared.answer.Ended.TheVariants as ended
use Rattle.look.specs.Meaning.{meaning}
use Rattle.look.specs.declared.answer.Looked.{Looked}
use Rattle.look.specs.declared.answer.Looked.TheVariants as looked
use Rattle.look.specs.declared.decision.Refusal.{Refusal}
use Rattle.look.specs.declared.decision.Refusal.TheVariants.{Usage, ReadFault, TooLong, Program, Script, NoFunction, NoMemory}
use Rattle.look.specs.declared.decision.Seen.{Seen}

abbrev pub status_of : Looked → ℕ
status_of looked.Done = 0
status_of looked.Usage = 120
status_of looked.NoFunction = 120
status_of looked.ReadFault = 121
status_of looked.WriteFault = 122
status_of (looked.Program fault) = 123
status_of (looked.Script fault) = 124
status_of looked.NoMemory = 125
status_of looked.TooLong = 126

-- the answer of a look that can write what was decided
abbrev pub looked_of : Result Seen Refusal → Looked
looked_of (Ok seen) = looked.Done
looked_of (Err Usage) = looked.Usage
looked_of (Err (ReadFault name)) = looked.ReadFault
looked_of (Err (TooLong name)) = looked.TooLong
looked_of (Err (Program fault)) = looked.Program fault
looked_of (Err (Script fault words)) = looked.Script fault
looked_of (Err (NoFunction name)) = looked.NoFunction
looked_of (Err NoMemory) = looked.NoMemory

-- the line that a run has, and below it what the fault means
abbrev pub with_meaning : Ended → (meaning : List ℕ) → List ℕ
with_meaning ended meaning = report.line_of ended ++ codes "ocolos_look: " ++ meaning ++ codes "\n"

abbrev pub line_of : Refusal → List ℕ
line_of Usage = codes "ocolos_look: usage: ocolos_look PROGRAM [--region BASE:SIZE] [--function NAME | --script SCRIPT [--ring N] [--svg FILE]]\n"
line_of (ReadFault name) = codes "ocolos_look: cannot read " ++ name ++ codes "\n"
line_of (TooLong name) = codes "ocolos_look: too long " ++ name ++ codes "\n"
line_of (Program fault) = with_meaning (ended.Program fault) (meaning fault)
line_of (Script fault words) = with_meaning (ended.Script fault) words
line_of (NoFunction name) = codes "ocolos_look: no function " ++ name ++ codes "\n"
line_of NoMemory = codes "ocolos_look: out of memory\n"
