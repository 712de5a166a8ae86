-- What the words of `ocolos_play` say.
use Rattle.std.specs.Prelude.{ℕ, ◌≤◌, List, [], ◌∷◌, codes, Option, Some, None}
use Rattle.std.specs.Option.{option_map}
use Rattle.clap.specs.Words.{App, new_app, with_rule}
use Rattle.command_words.specs.Commands.{positional, option, flag, unnamed, said_by}
use Rattle.command_words.specs.Values.{region_in, ring_in, number_within, is_used, ◌>>=◌}
use Rattle.play_words.specs.declared.words.Guest.{Guest}
use Rattle.play_words.specs.declared.words.Guest.TheVariants.{Files, Generated}
use Rattle.play_words.specs.declared.words.Words.{Words}

-- ---- the command, as the library reads it

-- two positionals, three options and a flag, none of which has to be there
abbrev pub command : App
command = with_rule (with_rule (with_rule (with_rule (with_rule (with_rule
    (unnamed (new_app (codes "ocolos_play")))
    (positional (codes "program")))
    (positional (codes "script")))
    (option (codes "region")))
    (option (codes "ring")))
    (option (codes "generate")))
    (flag (codes "report"))

-- ---- the words

-- what is run: the program and the script of two files, or a generated guest, by its thousands of rounds
abbrev pub guest_by : (program script count : Option (List ℕ)) → Option Guest
guest_by (Some program) (Some script) None = Some (Files program script)
guest_by None None (Some count) = option_map (λ n. Generated n) (number_within 1 1000 count)
guest_by _ _ _ = None

-- the number of a generated guest is in its range
abbrev pub IsCounted : Guest → Type 0
IsCounted (Files program script) = Unit {0}
IsCounted (Generated count) = (1 ≤ count) × (count ≤ 1000)

-- what the values of the arguments say, where `value` gives the first value by an argument's name
unfoldable pub words_by : (value : List ℕ → Option (List ℕ)) → Option Words
words_by value = do
  region ← region_in (value (codes "region"))
  ring ← ring_in (value (codes "ring"))
  guest ← guest_by (value (codes "program")) (value (codes "script")) (value (codes "generate"))
  Some (record { guest = guest; region = region; ring = ring; report = is_used (value (codes "report")) })

-- What the words say, or none where they say nothing: what the library refuses, help included; what has neither two positionals
-- and no --generate, nor --generate and no positional; and what has a value out of its range. An empty value is no region and no
-- number, and a third positional is refused.
unfoldable pub words_of : List (List ℕ) → Option Words
words_of words = said_by command words_by words

-- the names of the files that the words name, in the order in which they are asked for; a generated guest needs none
abbrev pub files_of : Guest → List (List ℕ)
files_of (Files program script) = program ∷ script ∷ []
files_of (Generated count) = []

abbrev pub named : Option Words → List (List ℕ)
named None = []
named (Some words) = files_of words.guest

abbrev pub names_of : List (List ℕ) → List (List ℕ)
names_of words = named (words_of words)
