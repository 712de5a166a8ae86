-- The report of a run. Addresses in lower-case hexadecimal, other numbers decimal. This project's own.
use Rattle.std.specs.Prelude.{ℕ, ◌+◌, false, List, [], ◌∷◌, ◌++◌, length, codes, flat_map}
use Rattle.std.specs.Fmt.{decimal, digits}
use Rattle.blocks.specs.declared.fault.Unreadable.{Unreadable}
use Rattle.blocks.specs.declared.fault.Unreadable.TheVariants.{Undecodable, BranchOut, Misaimed, Overlap}
use Rattle.sched_log.specs.declared.facts.Facts.{Facts}
use Rattle.sched_log.specs.declared.facts.Refused.{Refused}
use Rattle.sched_log.specs.declared.facts.Refusal.{Refusal}
use Rattle.sched_log.specs.declared.facts.Refusal.TheVariants.{RegionFull, BranchReach, Unreadable as CantRead, NoMemory as NoRoom}
use Rattle.sched_log.specs.declared.facts.LayoutFact.{LayoutFact}
use Rattle.sched_log.specs.declared.facts.HartFact.{HartFact}
use Rattle.sched_log.specs.declared.facts.HartFact.TheVariants.{Live, Waiting, Ended}

abbrev pub address : ℕ → List ℕ
address a = codes "0x" ++ digits 16 false a

-- steps of the original machine, and of layouts alone
abbrev pub steps_line : Facts → List ℕ
steps_line f = codes "real " ++ decimal f.real ++ codes " layout " ++ decimal f.layout ++ codes "\n"

abbrev pub counts_line : Facts → List ℕ
counts_line f =
    codes "snaps " ++ decimal f.snaps
    ++ codes " attempts " ++ decimal f.attempts
    ++ codes " done " ++ decimal f.done
    ++ codes " refused " ++ decimal (length f.refusals)
    ++ codes " retired " ++ decimal f.retired ++ codes "\n"

-- why a function can't be cut into blocks: a number, and the address or the other function that goes with it
abbrev pub why_text : Unreadable → List ℕ
why_text (Undecodable at) = codes "1 " ++ address at
why_text (BranchOut at) = codes "2 " ++ address at
why_text (Misaimed at) = codes "3 " ++ address at
why_text (Overlap func) = codes "4 " ++ decimal func
why_text _ = codes "0 0"

-- the line of a refused attempt; one that ran out of memory, which no report tells of, has none
abbrev pub refusal_text : ℕ → Refusal → List ℕ
refusal_text k (RegionFull need largest) = codes "refusal " ++ decimal k ++ codes " region " ++ decimal need ++ codes " " ++ decimal largest ++ codes "\n"
refusal_text k (BranchReach at target) = codes "refusal " ++ decimal k ++ codes " reach " ++ address at ++ codes " " ++ address target ++ codes "\n"
refusal_text k (CantRead func why) = codes "refusal " ++ decimal k ++ codes " unreadable " ++ decimal func ++ codes " " ++ why_text why ++ codes "\n"
refusal_text k NoRoom = []

abbrev pub refusal_line : Refused → List ℕ
refusal_line r = refusal_text r.attempt r.refusal

abbrev pub places_line : (sites slots : ℕ) → List ℕ
places_line sites slots = codes "sites " ++ decimal sites ++ codes " slots " ++ decimal slots ++ codes "\n"

abbrev pub layout_line : LayoutFact → List ℕ
layout_line l = codes "layout " ++ decimal l.number ++ codes " " ++ address l.base ++ codes " " ++ decimal l.words ++ codes "\n"

-- the line of hart h that is live or waits
abbrev pub standing_line : (h : ℕ) (how : List ℕ) (original pc : ℕ) → List ℕ
standing_line h how original pc = codes "hart " ++ decimal h ++ codes " " ++ how ++ codes " " ++ address original ++ codes " " ++ address pc ++ codes "\n"

-- the line of hart h
abbrev pub hart_line : ℕ → HartFact → List ℕ
hart_line h (Live original pc) = standing_line h (codes "live") original pc
hart_line h (Waiting original pc) = standing_line h (codes "waiting") original pc
hart_line h Ended = codes "hart " ++ decimal h ++ codes " ended\n"

-- harts have numbers, from h on
abbrev pub hart_lines : ℕ → List HartFact → List ℕ
hart_lines h [] = []
hart_lines h (fact ∷ facts) = hart_line h fact ++ hart_lines (h + 1) facts

unfoldable pub report_of : Facts → List ℕ
report_of f = steps_line f ++ counts_line f ++ flat_map refusal_line f.refusals ++ places_line f.sites f.slots ++ flat_map layout_line f.layouts ++ hart_lines 0 f.harts
