-- What is wrong with a line of a script, in words. Source: docs/scripts.md.
use Rattle.std.specs.Prelude.{ℕ, ◌-◌, Bool, true, false, ◌==◌, ◌&&◌, nat_le, List, [], ◌++◌, length, map, take, get_or, codes, if◌then◌else◌}
use Rattle.std.specs.Option.{option_map_or}
use Rattle.std.specs.Fmt.{decimal}
use Rattle.texts.specs.Texts.{lines_of}
use Rattle.image.specs.Picture.{Picture}
use Rattle.looking.specs.Pieces.{name_text}
use Rattle.looking.specs.Functions.{name_of}
use Rattle.sched_log.specs.Limits.{wrong_form, bad_number, no_function, not_a_plan, end_missing, after_end}
use Rattle.script_words.specs.declared.part.Fault.{Fault}
use Rattle.script_words.specs.declared.part.Fault.TheVariants.{NotThere, Twice, Count, BlockTwice, NoBlock}
use Rattle.script_words.specs.declared.part.Faulty.{Faulty}
use Rattle.script_words.specs.Parts.{faulty_in}

-- a space, 32, or a visible character of ASCII; anything else is shown as a question mark, 63
abbrev pub is_shown : ℕ → Bool
is_shown b = nat_le 32 b && nat_le b 126

abbrev pub shown_byte : ℕ → ℕ
shown_byte b = if is_shown b then b else 63

-- the line of this number, counted from 1
abbrev pub line_at : (script : List ℕ) → (line : ℕ) → List ℕ
line_at script line = get_or (lines_of script) (line - 1) []

-- how a line begins
abbrev pub shown : (text : List ℕ) → List ℕ
shown text = map shown_byte (take 60 text)

-- what a kind of fault means
unfoldable pub meaning : Picture → (kind : ℕ) → List ℕ
meaning p kind =
    if kind == wrong_form then codes "no command has this form: "
    else if kind == bad_number then codes "a number is missing or too large, or a hart is over 63: "
    else if kind == no_function then codes "a function isn't there, of the " ++ decimal (length p.funcs) ++ codes " from 0: "
    else if kind == not_a_plan then codes "a function is given twice, or not each of its blocks once: "
    else if kind == end_missing then codes "there is no end, after the last line"
    else if kind == after_end then codes "a command stands after end: "
    else codes "the counts up to here sum to more than 2000000000: "

-- a function's name behind its number, where it has one
abbrev pub in_brackets : (name : List ℕ) → List ℕ
in_brackets name = if length name == 0 then [] else codes " (" ++ name_text name ++ codes ")"

abbrev pub func_text : (names : List (List ℕ)) → (n : ℕ) → List ℕ
func_text names n = codes "function " ++ decimal n ++ in_brackets (name_of names n)

abbrev pub count_text : ℕ → List ℕ
count_text n = decimal n ++ (if n == 1 then codes " block" else codes " blocks")

-- which blocks there are instead
abbrev pub blocks_text : (count : ℕ) → (cut : Bool) → List ℕ
blocks_text count true = codes "it has " ++ decimal count ++ codes ", from 0"
blocks_text count false = codes "it can't be cut into blocks, and the plan names " ++ decimal count ++ codes ", from 0"

unfoldable pub no_block_text : (n : ℕ) → List ℕ
no_block_text n = codes ": block " ++ decimal n ++ codes " isn't there: "

-- what is wrong with a function of a plan; functions of the program and blocks have numbers from 0
unfoldable pub fault_text : (funcs : ℕ) → Fault → List ℕ
fault_text funcs NotThere = codes " isn't there: the program has " ++ decimal funcs ++ codes ", from 0"
fault_text funcs Twice = codes " is given twice"
fault_text funcs (Count blocks named) = codes " has " ++ count_text blocks ++ codes ", the plan names " ++ decimal named
fault_text funcs (BlockTwice n) = codes ": block " ++ decimal n ++ codes " is named twice"
fault_text funcs (NoBlock n b) = no_block_text n ++ blocks_text b.count b.cut

unfoldable pub part_text : Picture → (names : List (List ℕ)) → Faulty → List ℕ
part_text p names f = func_text names f.func ++ fault_text (length p.funcs) f.fault

-- what a fault of this kind is in this line: that of a part, or what the kind means and how the line begins
unfoldable pub told : Picture → (names : List (List ℕ)) → (kind : ℕ) → (text : List ℕ) → List ℕ
told p names kind text = option_map_or (part_text p names) (faulty_in p kind text) (meaning p kind ++ shown text)

-- the line's number, and what is wrong
unfoldable pub fault_words : Picture → (names : List (List ℕ)) → (script : List ℕ) → (line kind : ℕ) → List ℕ
fault_words p names script line kind = codes "line " ++ decimal line ++ codes ": " ++ told p names kind (line_at script line)
