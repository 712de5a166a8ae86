-- The blocks of a function: the longest runs of its words of which the first alone is the start of a block. A block starts where the
-- function does, where a branch or a JAL of the function goes in it, and after each branch and each jump that keeps no link.
-- This project's own.
use Rattle.std.specs.Prelude.{ℕ, ◌+◌, Bool, true, false, not, ◌==◌, ◌&&◌, ◌||◌, List, [], ◌∷◌, ◌++◌, map, slice_get, Option, Some, None, if◌then◌else◌}
use Rattle.std.specs.List.{list_any}
use Rattle.rv_isa.specs.declared.instr.Instr.{Instr}
use Rattle.rv_isa.specs.declared.instr.Instr.TheVariants.{Jal, Branch}
use Rattle.image.specs.declared.ranges.TextRange.{TextRange}
use Rattle.image.specs.declared.ranges.Func.{Func}
use Rattle.image.specs.Picture.{Picture}
use Rattle.image.specs.Aims.{is_inside}
use Rattle.image.specs.Targets.{target}
use Rattle.blocks.specs.declared.word.Word.{Word}
use Rattle.blocks.specs.declared.run.Run.{Run}
use Rattle.blocks.specs.declared.run.Block.{Block}
use Rattle.blocks.specs.Words.{words_of, falls_of}

-- an instruction of f at a goes to y, which is in f
abbrev pub aims_at : Func → ℕ → Instr → ℕ → Bool
aims_at f a (Branch c rs1 rs2 off) y = (target a off == y) && is_inside y f
aims_at f a (Jal rd off) y = (target a off == y) && is_inside y f
aims_at f a _ y = false

-- a block starts at y because of this word
abbrev pub marks : Func → ℕ → Word → Bool
marks f y w = (not (falls_of w.instr) && (w.at + 4 == y)) || aims_at f w.at w.instr y

-- a block of f, whose words these are, starts at y
abbrev pub is_start : Func → List Word → ℕ → Bool
is_start f words y = (f.from == y) || list_any (marks f y) words

-- the block of some words and a last one
abbrev pub first_at : List Word → Word → ℕ
first_at [] w = w.at
first_at (v ∷ vs) w = v.at

abbrev pub run_to : List Word → Word → Run
run_to vs w = record { from = first_at vs w; to = w.at + 4; falls = falls_of w.instr; words = vs ++ w ∷ [] }

abbrev pub is_empty : List Word → Bool
is_empty [] = true
is_empty (w ∷ ws) = false

-- the blocks of vs, words that are in one block, and then ws: a block ends at the last word and before each start
abbrev pub cut : (ℕ → Bool) → List Word → List Word → List Run
cut starts vs [] = []
cut starts vs (w ∷ ws) = if is_empty ws || starts (w.at + 4) then run_to vs w ∷ cut starts [] ws else cut starts (vs ++ w ∷ []) ws

-- the blocks of f, whose words these are
unfoldable pub runs_in : Func → List Word → List Run
runs_in f words = cut (is_start f words) [] words

abbrev pub runs_in_text : List TextRange → Option Func → List Run
runs_in_text texts None = []
runs_in_text texts (Some f) = runs_in f (words_of texts f)

-- the blocks of the function with number n, with their words
unfoldable pub runs_of : Picture → ℕ → List Run
runs_of p n = runs_in_text p.texts (slice_get p.funcs n)

abbrev pub block_of : Run → Block
block_of r = record { range = record { from = r.from; to = r.to }; falls = r.falls }

-- the same without their words
unfoldable pub blocks_of : Picture → ℕ → List Block
blocks_of p n = map block_of (runs_of p n)
