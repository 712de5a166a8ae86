-- The lines of refused replacements. This project's own.
use Rattle.std.specs.Prelude.{ℕ, List, [], ◌++◌, codes}
use Rattle.std.specs.Fmt.{decimal}
use Rattle.blocks.specs.declared.fault.Unreadable.{Unreadable}
use Rattle.sched_log.specs.declared.facts.Refused.{Refused}
use Rattle.sched_log.specs.declared.facts.Refusal.{Refusal}
use Rattle.sched_log.specs.declared.facts.Refusal.TheVariants.{RegionFull, BranchReach, Unreadable as CantRead, NoMemory as NoRoom}
use Rattle.looking.specs.Pieces.{address, name_text}
use Rattle.looking.specs.Functions.{name_of, why_text}

-- a function's number and its name
abbrev pub named_text : (names : List (List ℕ)) → (n : ℕ) → List ℕ
named_text names n = decimal n ++ codes " " ++ name_text (name_of names n)

-- the region has no free range that is large enough
abbrev pub room_text : (need largest : ℕ) → List ℕ
room_text need largest =
    codes "no room: " ++ decimal need ++ codes " bytes are needed, " ++ codes "the largest free range has " ++ decimal largest ++ codes "\n"

abbrev pub reach_text : (at target : ℕ) → List ℕ
reach_text at target = codes "the word at " ++ address at ++ codes " can't reach " ++ address target ++ codes "\n"

abbrev pub unreadable_text : (names : List (List ℕ)) → (func : ℕ) → Unreadable → List ℕ
unreadable_text names func why = codes "function " ++ named_text names func ++ codes ": " ++ why_text why ++ codes "\n"

abbrev pub head_text : (attempt : ℕ) → List ℕ
head_text attempt = codes "refused " ++ decimal attempt ++ codes ": "

-- the line of a refused attempt; one that ran out of memory, which no world tells of, has none
abbrev pub refusal_text : (names : List (List ℕ)) → (attempt : ℕ) → Refusal → List ℕ
refusal_text names k (RegionFull need largest) = head_text k ++ room_text need largest
refusal_text names k (BranchReach at target) = head_text k ++ reach_text at target
refusal_text names k (CantRead func why) = head_text k ++ unreadable_text names func why
refusal_text names k NoRoom = []

abbrev pub refused_line : (names : List (List ℕ)) → Refused → List ℕ
refused_line names r = refusal_text names r.attempt r.refusal
