-- A command as the library reads it, and what its words say.
use Rattle.std.specs.Prelude.{ℕ, Bool, true, List, length, ◌==◌, Option, Some, None, if◌then◌else◌}
use Rattle.clap.specs.Words.{App, Rule, first_of, matches_of, fault_of, new_rule}
use Rattle.clap.specs.Simple.{on_top}
use Rattle.clap.specs.declared.builder.action.ArgAction.TheVariants.{SetTrue}

-- ---- its arguments

abbrev pub positional : List ℕ → Rule
positional name = new_rule name

-- an option `--name` that takes one value
abbrev pub option : List ℕ → Rule
option name = record (new_rule name) { long = Some name }

-- an option `--name` that takes none
abbrev pub flag : List ℕ → Rule
flag name = record (new_rule name) { long = Some name; action = Some SetTrue }

-- a command whose words are those after its name
abbrev pub unnamed : App → App
unnamed = on_top (λ s. record s { no_binary_name = true })

-- ---- its words

-- the library takes the words: it finds no kind of error in them
unfoldable pub is_taken : App → List (List ℕ) → Bool
is_taken command words = length (fault_of command words) == 0

-- What words say: `says` of the first value by an argument's name, or nothing where the library refuses the words, help included. By
-- its reading of a command of positionals, options and flags
--   --name=V and --name V           give the option `name` the value V;
--   --                              ends the options: each word after it is a positional, whatever it begins with;
--   an option after a positional    is an option as before it;
--   an option or a flag twice       is refused, and so is a flag with a value;
--   --name with no word after it    is refused, and so is one before a word that begins with `-` and isn't `-` alone;
--   --name= and an empty word       give the empty value; an empty word may be a positional;
--   -                               is a positional or a value;
--   another word that begins with - is an option that isn't there, and is refused;
--   one positional too many         is refused.
unfoldable pub said_by : {A : Type 0} → App → (says : (List ℕ → Option (List ℕ)) → Option A) → List (List ℕ) → Option A
said_by command says words = if is_taken command words then says (λ name. first_of name (matches_of command words)) else None
