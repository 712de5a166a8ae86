-- What a call reads for its words, and what the bytes deliver: the first fault of the program, or a run of it by threads.
use Rattle.std.specs.Prelude.{◌≡◌, ℕ, List, [], ◌∷◌, Option, Some, None, Result, Ok, Err}
use Rattle.oc_base.specs.Outside.{Disk}
use Rattle.top_call.specs.Call as call
use Rattle.top_call.specs.Reading.{Reading, all_read, a_file, the_input, given_by}
use Rattle.image.specs.Picture.{Picture}
use Rattle.report.specs.Cause.{refusal_of}
use Rattle.report.specs.declared.answer.Ended.{Ended}
use Rattle.report.specs.declared.answer.Ended.TheVariants.{Usage, Program}
use Rattle.report.specs.declared.answer.ProgramFault.{ProgramFault}
use Rattle.delivered.specs.Building.{IsBuilt, HasFault}
use Rattle.run_book.specs.Terms.{Terms}
use Rattle.live_words.specs.Words.{words_of}
use Rattle.live_words.specs.declared.words.Words.{Words}
use Rattle.live.specs.declared.life.Life.{Life}
use Rattle.live.specs.declared.lived.Lived.{Lived}
use Rattle.live.specs.Ending.{lived_ending}
use Rattle.live.specs.Lives.{HasLived}

-- the most bytes of a program's file
abbrev pub program_limit : ℕ
program_limit = 67108864

-- what a call reads, and what its words say
pub record Asked : Type 0 where
  pub program : List ℕ
  pub input : List ℕ
  pub said : Words

-- the program and the input
abbrev pub reading_by : Words → Reading Asked Ended
reading_by said = a_file said.program program_limit (λ program. the_input (λ input. all_read (Ok (record { program = program; input = input; said = said }))))

-- for words that say nothing neither
abbrev pub reading_for : Option Words → Reading Asked Ended
reading_for None = all_read (Err Usage)
reading_for (Some said) = reading_by said

abbrev pub reading_of : (words : List (List ℕ)) → Reading Asked Ended
reading_of words = reading_for (words_of words)

-- the names of the files that the words name, in the order in which they are asked for: the program's, and the record's, if there is one
abbrev pub recorded_as : Option (List ℕ) → List (List ℕ)
recorded_as None = []
recorded_as (Some name) = name ∷ []

abbrev pub named : Option Words → List (List ℕ)
named None = []
named (Some said) = said.program ∷ recorded_as said.log_name

abbrev pub names_of : (words : List (List ℕ)) → List (List ℕ)
names_of words = named (words_of words)

-- of them the program's alone is read
abbrev pub read_names : Option Words → List (List ℕ)
read_names None = []
read_names (Some said) = said.program ∷ []

abbrev pub read_of : (words : List (List ℕ)) → List (List ℕ)
read_of words = read_names (words_of words)

-- the terms of the run of an image
abbrev pub terms_of : Picture → Asked → Terms
terms_of image asked = record {
  image = image;
  input = asked.input;
  ring = asked.said.ring;
  workers = asked.said.workers;
  every = asked.said.every;
  limit = asked.said.limit;
  begins = [];
}

-- A run of the image of the program that was read, on the words' terms. Threads choose which.
pub record IsLife (asked : Asked) (life : Life) : Type 0 where
  pub image : Picture
  pub built : IsBuilt asked.program asked.said.region image
  pub lived : HasLived (terms_of image asked) asked.said life

-- what is read delivers the first fault of the program, or such a run
pub data Lives (asked : Asked) : Result Life Ended → Type 0 where
  bad_program : (fault : ProgramFault) → HasFault asked.program asked.said.region fault → Lives asked (Err (Program fault))
  ran : (life : Life) → IsLife asked life → Lives asked (Ok life)

-- the call `live`
abbrev pub live : call.TopCall Asked Life Ended Lived
live = record { delivers = Lives; refusal = refusal_of; ending = lived_ending }

-- what the words, the files and the input ask for
abbrev pub Decides : (words : List (List ℕ)) → Disk → (input : List ℕ) → Result Life Ended → Type 0
Decides words disk input d = call.Decides live (reading_of words) disk input d

-- They ask for this run.
pub record AsksFor (words : List (List ℕ)) (disk : Disk) (input : List ℕ) (life : Life) : Type 0 where
  pub asked : Asked
  pub read : given_by refusal_of (reading_of words) disk input ≡ Ok asked
  pub is : IsLife asked life
