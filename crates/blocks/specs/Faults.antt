-- What keeps a function from being cut into blocks: the first fault, in a written order. This project's own.
use Rattle.std.specs.Prelude.{ℕ, ◌%◌, Bool, not, ◌==◌, ◌&&◌, nat_lt, List, ◌∷◌, map, position, slice_get, Option, Some, None, option_and_then, if◌then◌else◌}
use Rattle.std.specs.Option.{option_map}
use Rattle.finite.specs.First.{first_of, when}
use Rattle.rv_isa.specs.declared.instr.Instr.{Instr}
use Rattle.rv_isa.specs.declared.instr.Instr.TheVariants.{Jal, Branch}
use Rattle.image.specs.declared.ranges.TextRange.{TextRange}
use Rattle.image.specs.declared.ranges.Func.{Func}
use Rattle.image.specs.Picture.{Picture}
use Rattle.image.specs.Aims.{is_inside}
use Rattle.image.specs.Targets.{target}
use Rattle.blocks.specs.declared.word.Word.{Word}
use Rattle.blocks.specs.declared.fault.Unreadable.{Unreadable}
use Rattle.blocks.specs.declared.fault.Unreadable.TheVariants.{Undecodable, BranchOut, Misaimed, Overlap}
use Rattle.blocks.specs.Words.{word_read, places_of}

-- g is another function, one with another start, and shares an address with f
abbrev pub overlaps : Func → Func → Bool
overlaps f g = not (g.from == f.from) && (nat_lt g.from f.to && nat_lt f.from g.to)

-- what is wrong with the targets of an instruction of f at a: a branch stays in f, and each target is a multiple of 4
abbrev pub aim_fault : Func → ℕ → Instr → Option Unreadable
aim_fault f a (Branch c rs1 rs2 off) = if not (is_inside (target a off) f) then Some (BranchOut a) else when (not (target a off % 4 == 0)) (Misaimed a)
aim_fault f a (Jal rd off) = when (not (target a off % 4 == 0)) (Misaimed a)
aim_fault f a _ = None

-- what is wrong with the word of f at a
abbrev pub read_fault : Func → ℕ → Option Word → Option Unreadable
read_fault f a None = Some (Undecodable a)
read_fault f a (Some w) = aim_fault f a w.instr

unfoldable pub word_fault : List TextRange → Func → ℕ → Option Unreadable
word_fault texts f a = read_fault f a (word_read texts a)

-- the first fault of f: the least other function that overlaps it, then those of its words, ascending
unfoldable pub fault_in : List TextRange → List Func → Func → Option Unreadable
fault_in texts funcs f = first_of (option_map Overlap (position (overlaps f) funcs) ∷ map (word_fault texts f) (places_of f))

-- the first fault of the function with number n
unfoldable pub fault_of : Picture → ℕ → Option Unreadable
fault_of p n = option_and_then (fault_in p.texts p.funcs) (slice_get p.funcs n)
