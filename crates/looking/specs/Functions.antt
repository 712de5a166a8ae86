-- The line of a function: its number, its addresses, its name, and what can be moved and sent there, or why it can't be moved.
-- This project's own.
use Rattle.std.specs.Prelude.{ℕ, ◌+◌, ◌==◌, List, [], ◌∷◌, ◌++◌, codes, length, count_by, Option, Some, None}
use Rattle.std.specs.List.{slice_index_or}
use Rattle.std.specs.Fmt.{decimal}
use Rattle.image.specs.declared.ranges.Func.{Func}
use Rattle.image.specs.declared.ranges.Aim.{Aim}
use Rattle.image.specs.Picture.{Picture}
use Rattle.blocks.specs.declared.fault.Unreadable.{Unreadable}
use Rattle.blocks.specs.declared.fault.Unreadable.TheVariants.{Undecodable, BranchOut, Misaimed, Overlap}
use Rattle.blocks.specs.Blocks.{runs_of}
use Rattle.blocks.specs.Faults.{fault_of}
use Rattle.looking.specs.Pieces.{address, range_text, name_text}

-- the name of the function with number n: none is empty
abbrev pub name_of : (names : List (List ℕ)) → (n : ℕ) → List ℕ
name_of names n = slice_index_or names n []

-- how many places name the function with number n
abbrev pub aims_at : (n : ℕ) → List Aim → ℕ
aims_at n aims = count_by (λ s. s.func == n) aims

-- why a function can't be moved
abbrev pub why_text : Unreadable → List ℕ
why_text (Undecodable at) = codes "the word at " ++ address at ++ codes " reads as no instruction"
why_text (BranchOut at) = codes "branch at " ++ address at ++ codes " leaves the function"
why_text (Misaimed at) = codes "jump at " ++ address at ++ codes " goes to no multiple of 4"
why_text (Overlap func) = codes "function " ++ decimal func ++ codes " has an address of this one"
why_text _ = codes "out of memory"

-- how many blocks a function has, and how many sites, pairs and slots name it
abbrev pub counts_text : Picture → (n blocks : ℕ) → List ℕ
counts_text p n blocks =
    codes "blocks " ++ decimal blocks
    ++ codes " sites " ++ decimal (aims_at n p.sites)
    ++ codes " pairs " ++ decimal (aims_at n p.pairs)
    ++ codes " slots " ++ decimal (aims_at n p.slots) ++ codes "\n"

abbrev pub still_text : Unreadable → List ℕ
still_text why = codes "not moved: " ++ why_text why ++ codes "\n"

abbrev pub moved_text : Picture → (n : ℕ) → Option Unreadable → List ℕ
moved_text p n None = counts_text p n (length (runs_of p n))
moved_text p n (Some why) = still_text why

abbrev pub head_text : (n : ℕ) → Func → (name : List ℕ) → List ℕ
head_text n f name = codes "function " ++ decimal n ++ codes " " ++ range_text f.from f.to ++ codes " " ++ name_text name ++ codes ": "

-- the line of f, which has number n
abbrev pub func_line : Picture → (names : List (List ℕ)) → (n : ℕ) → Func → List ℕ
func_line p names n f = head_text n f (name_of names n) ++ moved_text p n (fault_of p n)

-- functions have numbers, from n on
abbrev pub func_lines : Picture → (names : List (List ℕ)) → (n : ℕ) → List Func → List ℕ
func_lines p names n [] = []
func_lines p names n (f ∷ fs) = func_line p names n f ++ func_lines p names (n + 1) fs
