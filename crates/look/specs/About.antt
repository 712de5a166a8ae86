-- The texts for people that words ask for in place of a look. This project's own.
use Rattle.std.specs.Prelude.{ℕ, bytes_eq, List, [], ◌∷◌, codes, Option, Some, None, if◌then◌else◌}
use Rattle.look.specs.declared.about.About.{About}
use Rattle.look.specs.declared.about.About.TheVariants.{Help, Version}
use Rattle.look.specs.declared.decision.Seen.{Seen}

-- one word alone asks for a text
abbrev pub about_of : (words : List (List ℕ)) → Option About
about_of (word ∷ []) = if bytes_eq word (codes "--help") then Some Help else if bytes_eq word (codes "--version") then Some Version else None
about_of _ = None

abbrev pub text_of : About → List ℕ
text_of Help = codes "ocolos_look PROGRAM [--region BASE:SIZE] [--function NAME | --script SCRIPT [--ring N] [--svg FILE]]\nshows a program before it runs, or what a run under a script does to its code.\n\n  PROGRAM             an executable for RV64IMA\n  --region BASE:SIZE  where moved code may lie, as for ocolos_play\n  --function NAME     the blocks of this function, by its number or name\n  --script SCRIPT     run it so, with standard input, and tell where its code went\n  --ring N            how many transfers of each hart a snapshot counts\n  --svg FILE          draw that, too\n  --help, --version   this text; the version\n"
text_of Version = codes "ocolos_look 1.0\n"

-- it is written, and no picture
abbrev pub told : About → Seen
told about = record { text = text_of about; picture = None }
