-- What a call reads for its words, and what the bytes deliver: the first fault that holds, or what the run shows.
use Rattle.std.specs.Prelude.{◌≡◌, ℕ, Bool, List, Option, Some, None, Result, Ok, Err}
use Rattle.oc_base.specs.Outside.{Disk}
use Rattle.oc_base.specs.declared.range.Range.{Range}
use Rattle.top_call.specs.Call as call
use Rattle.top_call.specs.Reading.{Reading, all_read, a_file, the_input}
use Rattle.image.specs.Picture.{Picture}
use Rattle.sched_log.specs.Script as script
use Rattle.sched_log.specs.Ranges.{AreInRange}
use Rattle.sched_log.specs.declared.fault.ScriptFault.{ScriptFault}
use Rattle.report.specs.Cause.{running}
use Rattle.report.specs.declared.answer.Answer.{Answer}
use Rattle.report.specs.declared.answer.Ended.{Ended}
use Rattle.report.specs.declared.answer.Ended.TheVariants.{Usage, Program, Script}
use Rattle.report.specs.declared.answer.ProgramFault.{ProgramFault}
use Rattle.report.specs.declared.writing.Delivery.{Delivery}
use Rattle.machine.specs.declared.outcome.Outcome.TheVariants.{Unfinished}
use Rattle.world.specs.Worlds.{Replaced, started}
use Rattle.play_words.specs.Words.{words_of}
use Rattle.play_words.specs.declared.words.Guest.{Guest}
use Rattle.play_words.specs.declared.words.Guest.TheVariants.{Files, Generated}
use Rattle.play_words.specs.declared.words.Words.{Words}
use Rattle.delivered.specs.Building.{IsBuilt, HasFault}
use Rattle.delivered.specs.Deliveries.{delivery_of}
use Rattle.delivered.specs.Events.{Played}
use Rattle.play.specs.Generated.{IsGuest, guest_script}

-- the most bytes of a program's file
abbrev pub program_limit : ℕ
program_limit = 67108864

-- the most bytes of a script's file
abbrev pub script_limit : ℕ
script_limit = 536870912

-- what is run: the bytes of a program and of a script that were read, or the generated guest of so many thousand rounds
pub data Subject : Type 0 where
  of_files : (program script : List ℕ) → Subject
  a_guest : (count : ℕ) → Subject

-- what a call reads, and what its words say beside it
pub record Asked : Type 0 where
  pub subject : Subject
  pub input : List ℕ
  pub said : Words

-- the program, the script and the input, or of a generated guest the input alone
abbrev pub reading_by : Guest → Words → Reading Asked Ended
reading_by (Files program script) said =
    a_file program program_limit (λ program. a_file script script_limit (λ script. the_input (λ input.
    all_read (Ok (record { subject = of_files program script; input = input; said = said })))))
reading_by (Generated count) said = the_input (λ input. all_read (Ok (record { subject = a_guest count; input = input; said = said })))

-- for words that say nothing none of them
abbrev pub reading_for : Option Words → Reading Asked Ended
reading_for None = all_read (Err Usage)
reading_for (Some said) = reading_by said.guest said

abbrev pub reading_of : (words : List (List ℕ)) → Reading Asked Ended
reading_of words = reading_for (words_of words)

-- the bytes of a run: those that were read, or the generated guest's and its script's
pub data HasBytes : Subject → (program script : List ℕ) → Type 0 where
  as_read : (program script : List ℕ) → HasBytes (of_files program script) program script
  as_generated : (count : ℕ) (program : List ℕ) → IsGuest count program → HasBytes (a_guest count) program (guest_script count)

-- the bytes of a run, and how it is made
pub record Given : Type 0 where
  pub program : List ℕ
  pub script : List ℕ
  pub input : List ℕ
  pub region : Option Range
  pub ring : ℕ
  pub shown : Bool

abbrev pub given_with : Words → (program script input : List ℕ) → Given
given_with said program script input =
    record { program = program; script = script; input = input; region = said.region; ring = said.ring; shown = said.report }

-- the world at the end of the run of an image under a script without a fault
pub record IsPlayed (image : Picture) (text input : List ℕ) (ring : ℕ) (world : Replaced) : Type 0 where
  pub fine : script.fault_of image text ≡ None
  pub range : AreInRange image (script.events_of image text)
  pub played : Played (script.events_of image text) (started image ring input) world

-- what the run of an image delivers, or the script's first fault
abbrev pub RunsTo : Picture → (text input : List ℕ) → (ring : ℕ) → (shown : Bool) → Result Delivery Ended → Type 0
RunsTo image text input ring shown (Ok delivery) = (world : Replaced) × IsPlayed image text input ring world × (delivery ≡ delivery_of Unfinished shown world)
RunsTo image text input ring shown (Err (Script fault)) = script.fault_of image text ≡ Some fault
RunsTo image text input ring shown (Err _) = ⊥

-- What these bytes deliver. A run that hasn't ended with the script is unfinished.
pub data Delivers (given : Given) : Result Delivery Ended → Type 0 where
  bad_program : (fault : ProgramFault) → HasFault given.program given.region fault → Delivers given (Err (Program fault))
  bad_script : (image : Picture) (fault : ScriptFault) → IsBuilt given.program given.region image → script.fault_of image given.script ≡ Some fault → Delivers given (Err (Script fault))
  ran : (image : Picture) (world : Replaced) → IsBuilt given.program given.region image → IsPlayed image given.script given.input given.ring world → Delivers given (Ok (delivery_of Unfinished given.shown world))

-- what is read delivers what its bytes deliver
pub record Answers (asked : Asked) (d : Result Delivery Ended) : Type 0 where
  pub program : List ℕ
  pub script : List ℕ
  pub bytes : HasBytes asked.subject program script
  pub delivers : Delivers (given_with asked.said program script asked.input) d

-- the call `play`
abbrev pub play : call.TopCall Asked Delivery Ended Answer
play = running Answers

-- what the words, the files and the input ask for
abbrev pub Decides : (words : List (List ℕ)) → Disk → (input : List ℕ) → Result Delivery Ended → Type 0
Decides words disk input d = call.Decides play (reading_of words) disk input d
