-- What `make` promises of its words, of what is known of files and outputs before it and after it, and of its answer.
use Rattle.std.specs.Prelude.{◌≡◌, ◌≢◌, ◌⊎◌, ℕ, List, codes, Option, Some, None, Result, Ok}
use Rattle.std.specs.Option.{ForSome}
use Rattle.oc_base.specs.Outside.{Disk, Rose, RoseAtMost, gained, GainedPart, Gains, HasNow, SameElsewhere, TakeFailed}
use Rattle.top_call.specs.Call.{Settled, Delivered}
use Rattle.top_call.specs.Outside.{Outside}
use Rattle.rv_asm.specs.declared.fault.AsmFault.TheVariants as asm
use Rattle.guest_gen.specs.declared.answer.Made.{Made}
use Rattle.guest_gen.specs.declared.answer.MadeWhat.{MadeWhat}
use Rattle.guest_gen.specs.declared.answer.MadeWhat.TheVariants as made
use Rattle.guest_gen.specs.declared.decision.NewFile.{NewFile}
use Rattle.guest_gen.specs.declared.decision.Refusal.{Refusal}
use Rattle.guest_gen.specs.declared.words.Form.TheVariants.{Assemble}
use Rattle.guest_gen.specs.Answer.{status_of}
use Rattle.guest_gen.specs.Decision.{make, reading_of, Decides, read_of, names_of}
use Rattle.guest_gen.specs.Words.{form_of}

-- a line came to the end of what is told, if there is one
abbrev pub told : Option (List ℕ) → Option (List ℕ) → Option (List ℕ)
told out None = out
told out (Some line) = gained out line

-- These bytes ask for a file, which holds them now, and every other file has what it had. Its line is said, if it has one.
pub record MakesFile (words : List (List ℕ)) (disk : Disk) (before after : Outside) : Type 0 where
  pub file : NewFile
  pub asked : Decides words disk (Ok file)
  pub holds : HasNow before.disk after.disk file.name file.bytes
  pub others : SameElsewhere before.disk after.disk file.name
  pub out : after.out ≡ told before.out file.line
  pub err : after.err ≡ before.err

-- The text could not be read: its name is the first of two words, and the last that the files were asked for.
pub record TextFailed (words : List (List ℕ)) (before after : Outside) : Type 0 where
  pub name : List ℕ
  pub output : List ℕ
  pub first : form_of words ≡ Some (Assemble name output)
  pub failed : TakeFailed name after.asked before.takes after.takes

-- The cause of each end, told or not, and the names that the files were asked for by then: none after `Usage`, the text's after a
-- refusal of the text, and the file's too after `Done`.
abbrev pub Cause : (words : List (List ℕ)) → (before after : Outside) → MadeWhat → Type 0
Cause words before after made.Done = after.asked ≡ gained before.asked (names_of words)
Cause words before after made.Usage = (form_of words ≡ None) × (after.asked ≡ before.asked)
Cause words before after made.ReadFault = TextFailed words before after × (after.asked ≡ gained before.asked (read_of words))
Cause words before after made.TooLong = after.asked ≡ gained before.asked (read_of words)
Cause words before after (made.Asm fault) = (fault ≢ asm.NoMemory) × (after.asked ≡ gained before.asked (read_of words))
Cause words before after made.WriteFault =
    (Rose before.puts after.puts ⊎ (Rose before.outs after.outs ⊎ Rose before.errs after.errs)) × GainedPart before.asked after.asked (names_of words)
Cause words before after made.NoMemory =
    Gains before.err after.err (Rose before.errs after.errs) (codes "ocolos_asm: out of memory\n") × GainedPart before.asked after.asked (read_of words)

-- Files and `out` change by `Done` and a fault of writing alone. Each device fails once at most, and one that can't fail doesn't.
pub record Devices (before after : Outside) (what : MadeWhat) : Type 0 where
  pub disk : what ≢ made.Done → what ≢ made.WriteFault → after.disk ≡ before.disk
  pub out : what ≢ made.Done → what ≢ made.WriteFault → after.out ≡ before.out
  pub takes : RoseAtMost before.takes after.takes
  pub puts : RoseAtMost before.puts after.puts
  pub outs : RoseAtMost before.outs after.outs
  pub errs : RoseAtMost before.errs after.errs

pub record Promise (words : List (List ℕ)) (before after : Outside) (answer : Made) : Type 0 where
  -- Where the files tell: after `Done` the file that the words name holds the program of the text, or of the generated guest.
  pub headline : answer.what ≡ made.Done → ForSome before.disk (λ disk. MakesFile words disk before after)
  -- Where the files tell, what words and files ask for is answered and written, but for a fault of a device and when out of memory.
  pub settled : Settled make (reading_of words) before after answer
  -- They ask for one thing.
  pub one : (disk : Disk) (d e : Result NewFile Refusal) → Decides words disk d → Decides words disk e → d ≡ e
  -- Told or not, each end has its cause;
  pub causes : Cause words before after answer.what
  -- what was decided, at its place and for its reason, is written up to a fault;
  pub written : Delivered make (reading_of words) before after answer
  pub devices : Devices before after answer.what
  pub status : answer.status ≡ status_of answer.what
