-- What words, files and input ask for: the first refusal that holds, or what is seen of a program, of one of its functions or of a run.
use Rattle.std.specs.Prelude.{◌≡◌, ℕ, bytes_eq, nat_lt, List, [], ◌∷◌, length, position, Option, Some, None, Result, Ok, Err, if◌then◌else◌}
use Rattle.oc_base.specs.Outside.{Disk}
use Rattle.oc_base.specs.declared.range.Range.{Range}
use Rattle.image.specs.Picture.{Picture}
use Rattle.elf_read.specs.Parts.{parts_of}
use Rattle.texts.specs.Texts.{number_of}
use Rattle.look_words.specs.declared.words.ScriptedRun.{ScriptedRun}
use Rattle.look_words.specs.declared.words.Subject.{Subject}
use Rattle.look_words.specs.declared.words.Subject.TheVariants as subject
use Rattle.look_words.specs.declared.words.Words.{Words}
use Rattle.look_words.specs.Words.{words_of}
use Rattle.top_call.specs.Call as call
use Rattle.top_call.specs.Reading.{Reading, all_read, a_file, the_input}
use Rattle.top_call.specs.Writing.{Write, to_out, to_err, to_file}
use Rattle.top_call.specs.declared.reading.Unread.{Unread}
use Rattle.top_call.specs.declared.reading.Unread.TheVariants as unread
use Rattle.report.specs.declared.answer.ProgramFault.{ProgramFault}
use Rattle.delivered.specs.Building.{IsBuilt, HasFault}
use Rattle.func_names.specs.Names as symbols
use Rattle.looking.specs.Overview.{IsOverview}
use Rattle.looking.specs.Listing.{listing}
use Rattle.sched_log.specs.Script.{fault_of}
use Rattle.sched_log.specs.declared.fault.ScriptFault.{ScriptFault}
use Rattle.sched_log.specs.declared.fault.ScriptFault.TheVariants.{Line}
use Rattle.script_words.specs.Words.{fault_words}
use Rattle.world.specs.Worlds.{Replaced}
use Rattle.play.specs.Decision.{IsPlayed}
use Rattle.seen.specs.Story.{story}
use Rattle.seen.specs.Pictures.{drawing_of}
use Rattle.drawing.specs.Picture.{svg}
use Rattle.look.specs.Answer.{status_of, looked_of, line_of}
use Rattle.look.specs.declared.answer.Answer.{Answer}
use Rattle.look.specs.declared.answer.Looked.{Looked}
use Rattle.look.specs.declared.answer.Looked.TheVariants as looked
use Rattle.look.specs.declared.decision.Refusal.{Refusal}
use Rattle.look.specs.declared.decision.Refusal.TheVariants.{Usage, ReadFault, TooLong, Program, Script, NoFunction, NoMemory}
use Rattle.look.specs.declared.decision.Drawn.{Drawn}
use Rattle.look.specs.declared.decision.Seen.{Seen}

-- the most bytes of a program: 64 MiB
abbrev pub program_limit : ℕ
program_limit = 67108864

-- the most bytes of a script: 512 MiB
abbrev pub script_limit : ℕ
script_limit = 536870912

-- what is shown: the program, or the function that a word names; or a run, with the bytes of its script and its input
pub data Wanted : Type 0 where
  the_program : (function : Option (List ℕ)) → Wanted
  a_run : (run : ScriptedRun) → (script input : List ℕ) → Wanted

-- a program's bytes, the region for its moved code, and what of it is shown
pub record Asked : Type 0 where
  pub program : List ℕ
  pub region : Option Range
  pub wanted : Wanted

abbrev pub asked_for : Words → (program : List ℕ) → Wanted → Asked
asked_for said program wanted = record { program = program; region = said.region; wanted = wanted }

-- the program, and of a run the script and the input
abbrev pub reading_by : Subject → Words → Reading Asked Refusal
reading_by (subject.Program function) said =
    a_file said.program program_limit (λ program. all_read (Ok (asked_for said program (the_program function))))
reading_by (subject.Run run) said =
    a_file said.program program_limit (λ program. a_file run.script script_limit (λ script. the_input (λ input.
    all_read (Ok (asked_for said program (a_run run script input))))))

abbrev pub reading_for : Option Words → Reading Asked Refusal
reading_for None = all_read (Err Usage)
reading_for (Some said) = reading_by said.subject said

abbrev pub reading_of : (words : List (List ℕ)) → Reading Asked Refusal
reading_of words = reading_for (words_of words)

-- the names of an image's functions, by the symbols of the program's file
abbrev pub names_in : (program : List ℕ) → Picture → List (List ℕ)
names_in program image = symbols.names_of (parts_of program).symbols image.funcs

-- the number of a function: the number that the word writes, if there are as many functions; or else the first one with that name
abbrev pub numbered : (names : List (List ℕ)) → Option ℕ → Option ℕ
numbered names None = None
numbered names (Some n) = if nat_lt n (length names) then Some n else None

abbrev pub or_else : Option ℕ → Option ℕ → Option ℕ
or_else None other = other
or_else (Some n) other = Some n

unfoldable pub chosen : (names : List (List ℕ)) → (word : List ℕ) → Option ℕ
chosen names word = or_else (numbered names (number_of word)) (position (λ name. bytes_eq name word) names)

-- what is seen of an image, whose functions have these names: all of it, or the function that the word names
abbrev pub ShowsProgram : Picture → (names : List (List ℕ)) → Option (List ℕ) → Result Seen Refusal → Type 0
ShowsProgram image names None (Ok seen) = IsOverview image names seen.text × (seen.picture ≡ None)
ShowsProgram image names (Some word) (Ok seen) = (n : ℕ) × (chosen names word ≡ Some n) × (seen.text ≡ listing image names n) × (seen.picture ≡ None)
ShowsProgram image names (Some word) (Err (NoFunction name)) = (chosen names word ≡ None) × (name ≡ word)
ShowsProgram image names _ (Err _) = ⊥

-- what is seen of a run's world, and the picture of it for the file of this name
abbrev pub drawn : Option (List ℕ) → Replaced → (names : List (List ℕ)) → Option Drawn
drawn None world names = None
drawn (Some name) world names = Some (record { name = name; bytes = svg (drawing_of world names) })

abbrev pub seen_of : Option (List ℕ) → Replaced → (names : List (List ℕ)) → Seen
seen_of picture world names = record { text = story world names; picture = drawn picture world names }

-- a fault of a script in words
abbrev pub meaning_of : Picture → (names : List (List ℕ)) → (script : List ℕ) → ScriptFault → List ℕ
meaning_of image names script (Line line kind) = fault_words image names script line kind
meaning_of image names script _ = []

-- what is seen of a run of an image, which is a run as `ocolos_play` has it; or the first fault of the script
abbrev pub ShowsRun : Picture → (names : List (List ℕ)) → ScriptedRun → (script input : List ℕ) → Result Seen Refusal → Type 0
ShowsRun image names run script input (Ok seen) = (world : Replaced) × IsPlayed image script input run.ring world × (seen ≡ seen_of run.picture world names)
ShowsRun image names run script input (Err (Script fault words)) = (fault_of image script ≡ Some fault) × (words ≡ meaning_of image names script fault)
ShowsRun image names run script input (Err _) = ⊥

abbrev pub Shows : Picture → (names : List (List ℕ)) → Wanted → Result Seen Refusal → Type 0
Shows image names (the_program function) d = ShowsProgram image names function d
Shows image names (a_run run script input) d = ShowsRun image names run script input d

-- What these bytes show.
pub data Delivers (asked : Asked) : Result Seen Refusal → Type 0 where
  bad_program : (fault : ProgramFault) → HasFault asked.program asked.region fault → Delivers asked (Err (Program fault))
  shown : (image : Picture) (d : Result Seen Refusal) → IsBuilt asked.program asked.region image → Shows image (names_in asked.program image) asked.wanted d → Delivers asked d

-- the refusal where something isn't read
abbrev pub refusal_of : Unread → Refusal
refusal_of (unread.Failed name) = ReadFault name
refusal_of (unread.TooLong name) = TooLong name
refusal_of unread.NoMemory = NoMemory

-- the file of a picture, if there is one
abbrev pub put : Option Drawn → List Write
put None = []
put (Some picture) = to_file picture.name picture.bytes ∷ []

-- the text and then the picture, or the lines of a refusal
abbrev pub writes_of : Result Seen Refusal → List Write
writes_of (Ok seen) = to_out seen.text ∷ put seen.picture
writes_of (Err refusal) = to_err (line_of refusal) ∷ []

abbrev pub answer_by : Looked → Answer
answer_by what = record { status = status_of what; what = what }

-- the answer where a device fails
abbrev pub unwritten_of : Result Seen Refusal → Answer
unwritten_of (Err NoMemory) = answer_by looked.NoMemory
unwritten_of _ = answer_by looked.WriteFault

-- how `look` ends
abbrev pub ending : call.Ending Seen Refusal Answer
ending = record { writes = writes_of; answer = λ d. answer_by (looked_of d); unwritten = unwritten_of }

-- the call `look`
abbrev pub look : call.TopCall Asked Seen Refusal Answer
look = record { delivers = Delivers; refusal = refusal_of; ending = ending }

-- what the words, the files and the input ask for
abbrev pub Decides : List (List ℕ) → Disk → (input : List ℕ) → Result Seen Refusal → Type 0
Decides words disk input d = call.Decides look (reading_of words) disk input d

-- a refusal that is a fault of the program
abbrev pub Refuses : (program : List ℕ) → Option Range → Refusal → Type 0
Refuses program region (Program fault) = HasFault program region fault
Refuses program region _ = ⊥
