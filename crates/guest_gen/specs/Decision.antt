-- What words and files ask for: the first refusal that holds, or the file of a text's program or of a generated one.
use Rattle.std.specs.Prelude.{◌≡◌, ℕ, ◌*◌, List, [], ◌∷◌, ◌++◌, codes, Option, Some, None, Result, Ok, Err}
use Rattle.std.specs.Fmt.{decimal}
use Rattle.elf_make.specs.File.{elf_of}
use Rattle.oc_base.specs.Outside.{Disk}
use Rattle.top_call.specs.Call as call
use Rattle.top_call.specs.Reading.{Reading, all_read, a_file}
use Rattle.top_call.specs.Writing.{Write, to_out, to_err, to_file}
use Rattle.top_call.specs.declared.reading.Unread.{Unread}
use Rattle.top_call.specs.declared.reading.Unread.TheVariants as unread
use Rattle.rv_asm.specs.Assembly.{fault_in, IsProgramOf}
use Rattle.rv_asm.specs.declared.fault.AsmFault.TheVariants.{Line}
use Rattle.rv_asm.specs.declared.program.Program.{Program}
use Rattle.guest_gen.specs.Generated.{IsGenerated}
use Rattle.guest_gen.specs.Words.{form_of, inputs_of, output_of}
use Rattle.guest_gen.specs.Answer.{status_of, what_of, line_of}
use Rattle.guest_gen.specs.declared.answer.Made.{Made}
use Rattle.guest_gen.specs.declared.answer.MadeWhat.{MadeWhat}
use Rattle.guest_gen.specs.declared.answer.MadeWhat.TheVariants as made
use Rattle.guest_gen.specs.declared.decision.NewFile.{NewFile}
use Rattle.guest_gen.specs.declared.decision.Refusal.{Refusal}
use Rattle.guest_gen.specs.declared.decision.Refusal.TheVariants.{Usage, ReadFault, TooLong, Fault, NoMemory}
use Rattle.guest_gen.specs.declared.words.Form.{Form}
use Rattle.guest_gen.specs.declared.words.Form.TheVariants.{Assemble, Generate}

-- the most bytes of a text: 64 MiB
abbrev pub text_limit : ℕ
text_limit = 67108864

-- what is made: the program of a text, or a guest
pub data Wanted : Type 0 where
  a_text : (text output : List ℕ) → Wanted
  a_guest : (n : ℕ) → (output : List ℕ) → Wanted

-- what is read: the text, if the words ask for a text's program
abbrev pub reading_for : Option Form → Reading Wanted Refusal
reading_for (Some (Assemble input output)) = a_file input text_limit (λ text. all_read (Ok (a_text text output)))
reading_for (Some (Generate n output)) = all_read (Ok (a_guest n output))
reading_for None = all_read (Err Usage)

abbrev pub reading_of : (words : List (List ℕ)) → Reading Wanted Refusal
reading_of words = reading_for (form_of words)

-- The file has this name, and its bytes are the text's program; the text has no fault. Nothing is said of it.
pub record IsFileOf (text name : List ℕ) (file : NewFile) : Type 0 where
  pub sound : fault_in text ≡ None
  pub program : Program
  pub assembled : IsProgramOf text program
  pub named : file.name ≡ name
  pub written : file.bytes ≡ elf_of program
  pub quiet : file.line ≡ None

-- what a text and a name ask for: the program's file, or the text's first fault
abbrev pub Assembles : List ℕ → List ℕ → Result NewFile Refusal → Type 0
Assembles text name (Ok file) = IsFileOf text name file
Assembles text name (Err (Fault line kind)) = fault_in text ≡ Some (Line line kind)
Assembles text name (Err _) = ⊥

-- what is said of the guest of n thousand rounds: four threads count 4500 in 1000 rounds
abbrev pub said_of : ℕ → List ℕ
said_of n = codes "generated " ++ decimal n ++ codes " prints " ++ decimal (18000 * n) ++ codes "\n"

-- The file has this name, its bytes are the program of the guest of n thousand rounds, and this is said of it.
pub record IsGuestFile (n : ℕ) (name : List ℕ) (file : NewFile) : Type 0 where
  pub program : Program
  pub generated : IsGenerated n program
  pub named : file.name ≡ name
  pub written : file.bytes ≡ elf_of program
  pub said : file.line ≡ Some (said_of n)

abbrev pub Generates : ℕ → List ℕ → Result NewFile Refusal → Type 0
Generates n name (Ok file) = IsGuestFile n name file
Generates n name (Err _) = ⊥

abbrev pub Delivers : Wanted → Result NewFile Refusal → Type 0
Delivers (a_text text output) d = Assembles text output d
Delivers (a_guest n output) d = Generates n output d

-- the refusal where the text isn't read
abbrev pub refusal_of : Unread → Refusal
refusal_of (unread.Failed name) = ReadFault name
refusal_of (unread.TooLong name) = TooLong name
refusal_of unread.NoMemory = NoMemory

-- the line of a file, if there is one
abbrev pub said : Option (List ℕ) → List Write
said None = []
said (Some line) = to_out line ∷ []

-- the file and then its line, or the line of a refusal alone
abbrev pub writes_of : Result NewFile Refusal → List Write
writes_of (Ok file) = to_file file.name file.bytes ∷ said file.line
writes_of (Err refusal) = to_err (line_of refusal) ∷ []

abbrev pub made_by : MadeWhat → Made
made_by what = record { status = status_of what; what = what }

-- the answer where a device fails
abbrev pub unwritten_of : Result NewFile Refusal → Made
unwritten_of (Err NoMemory) = made_by made.NoMemory
unwritten_of _ = made_by made.WriteFault

-- how `make` ends
abbrev pub ending : call.Ending NewFile Refusal Made
ending = record { writes = writes_of; answer = λ d. made_by (what_of d); unwritten = unwritten_of }

-- the call `make`
abbrev pub make : call.TopCall Wanted NewFile Refusal Made
make = record { delivers = Delivers; refusal = refusal_of; ending = ending }

-- what the words and the files ask for; there is no input
abbrev pub Decides : List (List ℕ) → Disk → Result NewFile Refusal → Type 0
Decides words disk d = call.Decides make (reading_of words) disk [] d

-- the names of what is read, and of what is read and written, in the order in which the files are asked for them
abbrev pub read : Option Form → List (List ℕ)
read (Some form) = inputs_of form
read None = []

abbrev pub named : Option Form → List (List ℕ)
named (Some form) = inputs_of form ++ output_of form ∷ []
named None = []

-- the text's name, if the words ask for a text's program
abbrev pub read_of : List (List ℕ) → List (List ℕ)
read_of words = read (form_of words)

-- the names that the words give
abbrev pub names_of : List (List ℕ) → List (List ℕ)
names_of words = named (form_of words)
