-- What is shown of one function: its line, and its blocks with their instructions. This project's own.
use Rattle.std.specs.Prelude.{ℕ, ◌+◌, ◌-◌, ◌==◌, List, [], ◌∷◌, ◌++◌, codes, length, flat_map, position, slice_get, Option, Some, None, if◌then◌else◌}
use Rattle.std.specs.Option.{option_map_or}
use Rattle.std.specs.Fmt.{decimal}
use Rattle.rv_isa.specs.declared.instr.Instr.{Instr}
use Rattle.rv_isa.specs.declared.instr.Instr.TheVariants.{Jal, Jalr, Branch}
use Rattle.image.specs.Picture.{Picture}
use Rattle.image.specs.Targets.{target}
use Rattle.disasm.specs.Shown.{shown}
use Rattle.blocks.specs.declared.fault.Unreadable.{Unreadable}
use Rattle.blocks.specs.declared.word.Word.{Word}
use Rattle.blocks.specs.declared.run.Run.{Run}
use Rattle.blocks.specs.Blocks.{runs_of}
use Rattle.blocks.specs.Faults.{fault_of}
use Rattle.looking.specs.Pieces.{address, range_text}
use Rattle.looking.specs.Functions.{func_line}

-- the block that starts at an address, or else the address
unfoldable pub place_text : List Run → ℕ → List ℕ
place_text runs a = option_map_or (λ k. codes "block " ++ decimal k) (position (λ r. r.from == a) runs) (address a)

-- where the word after a block is
unfoldable pub next_text : List Run → (next : ℕ) → List ℕ
next_text runs next = codes "goes on at " ++ place_text runs next

-- a place, and then the next one
unfoldable pub then_text : List Run → (to : List ℕ) → (next : ℕ) → List ℕ
then_text runs to next = to ++ codes ", " ++ next_text runs next

-- a branch, taken or not
abbrev pub branch_text : List Run → (to : List ℕ) → (next : ℕ) → List ℕ
branch_text runs to next = codes "branches to " ++ then_text runs to next

-- a jump: one that keeps a link comes back, as a rule
abbrev pub jump_text : List Run → (link : ℕ) → (to : List ℕ) → (next : ℕ) → List ℕ
jump_text runs link to next = if link == 0 then codes "jumps to " ++ to else codes "calls " ++ then_text runs to next

-- how a block ends whose last instruction stands at `at`, before `next`
abbrev pub ending_text : List Run → (at next : ℕ) → Instr → List ℕ
ending_text runs at next (Branch c rs1 rs2 off) = branch_text runs (place_text runs (target at off)) next
ending_text runs at next (Jal rd off) = jump_text runs rd (place_text runs (target at off)) next
ending_text runs at next (Jalr rd rs1 off) = jump_text runs rd (codes "x" ++ decimal rs1) next
ending_text runs at next _ = next_text runs next

-- the same by its last word
abbrev pub last_text : List Run → (next : ℕ) → Option Word → List ℕ
last_text runs next None = []
last_text runs next (Some w) = ending_text runs w.at next w.instr

abbrev pub word_line : Word → List ℕ
word_line w = codes "    " ++ address w.at ++ codes "  " ++ shown w.word w.at ++ codes "\n"

abbrev pub run_head : (n k : ℕ) → Run → List ℕ
run_head n k r = codes "block " ++ decimal n ++ codes ":" ++ decimal k ++ codes " " ++ range_text r.from r.to ++ codes ": "

-- block k of function n, which has these blocks
abbrev pub run_text : (n : ℕ) → List Run → (k : ℕ) → Run → List ℕ
run_text n runs k r =
    run_head n k r ++ last_text runs r.to (slice_get r.words (length r.words - 1)) ++ codes "\n" ++ flat_map word_line r.words

-- blocks have numbers, from k on
abbrev pub run_texts : (n : ℕ) → List Run → (k : ℕ) → List Run → List ℕ
run_texts n runs k [] = []
run_texts n runs k (r ∷ rs) = run_text n runs k r ++ run_texts n runs (k + 1) rs

-- a function that can't be moved has no blocks
abbrev pub blocks_text : Picture → (n : ℕ) → Option Unreadable → List ℕ
blocks_text p n None = run_texts n (runs_of p n) 0 (runs_of p n)
blocks_text p n (Some why) = []

-- what is shown of the function with number n
abbrev pub listing : Picture → (names : List (List ℕ)) → (n : ℕ) → List ℕ
listing p names n = option_map_or (λ f. func_line p names n f ++ blocks_text p n (fault_of p n)) (slice_get p.funcs n) []
