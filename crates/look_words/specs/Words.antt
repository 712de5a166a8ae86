-- What the words of `ocolos_look` say. This project's own.
use Rattle.std.specs.Prelude.{ℕ, List, [], ◌∷◌, ◌++◌, codes, Option, Some, None}
use Rattle.std.specs.Option.{option_map, option_to_list}
use Rattle.clap.specs.Words.{App, new_app, with_rule}
use Rattle.command_words.specs.Commands.{positional, option, unnamed, said_by}
use Rattle.command_words.specs.Values.{region_in, ring_in, ◌>>=◌}
use Rattle.look_words.specs.declared.words.Subject.{Subject}
use Rattle.look_words.specs.declared.words.Subject.TheVariants.{Program, Run}
use Rattle.look_words.specs.declared.words.Words.{Words}

-- ---- the command, as the library reads it

-- a positional and five options, none of which has to be there
abbrev pub command : App
command = with_rule (with_rule (with_rule (with_rule (with_rule (with_rule
    (unnamed (new_app (codes "ocolos_look")))
    (positional (codes "program")))
    (option (codes "region")))
    (option (codes "function")))
    (option (codes "script")))
    (option (codes "ring")))
    (option (codes "svg"))

-- ---- the words

-- What is shown: without a script the program or one of its functions, and with one what its run does. A ring and a picture are of a
-- run, and a function isn't.
abbrev pub subject_by : (script function ring svg : Option (List ℕ)) → Option Subject
subject_by None function None None = Some (Program function)
subject_by (Some script) None ring svg = option_map (λ n. Run (record { script = script; ring = n; picture = svg })) (ring_in ring)
subject_by _ _ _ _ = None

-- what the values of the arguments say, where `value` gives the first value by an argument's name
unfoldable pub words_by : (value : List ℕ → Option (List ℕ)) → Option Words
words_by value = do
  region ← region_in (value (codes "region"))
  program ← value (codes "program")
  subject ← subject_by (value (codes "script")) (value (codes "function")) (value (codes "ring")) (value (codes "svg"))
  Some (record { program = program; region = region; subject = subject })

-- What the words say, or none where they say nothing: what the library refuses, help included; what has no positional; what has a
-- value out of its range; and options that don't go together. An empty value is no region and no number, but it is a name, and a
-- second positional is refused.
unfoldable pub words_of : List (List ℕ) → Option Words
words_of words = said_by command words_by words

-- the names of the files that are read, in their order
abbrev pub inputs_by : (program : List ℕ) → Subject → List (List ℕ)
inputs_by program (Program function) = program ∷ []
inputs_by program (Run run) = program ∷ run.script ∷ []

-- the name of the file that is written, if there is one
abbrev pub output_by : Subject → List (List ℕ)
output_by (Program function) = []
output_by (Run run) = option_to_list run.picture

abbrev pub inputs_in : Option Words → List (List ℕ)
inputs_in None = []
inputs_in (Some words) = inputs_by words.program words.subject

abbrev pub named : Option Words → List (List ℕ)
named None = []
named (Some words) = inputs_by words.program words.subject ++ output_by words.subject

-- the names of what is read, and of what is read and written, in the order in which the files are asked for them
abbrev pub inputs_of : List (List ℕ) → List (List ℕ)
inputs_of words = inputs_in (words_of words)

abbrev pub names_of : List (List ℕ) → List (List ℕ)
names_of words = named (words_of words)
