-- The lines of moved blocks: a layout's words in their order, cut before each that stands for the first word of a block. This
-- project's own.
use Rattle.std.specs.Prelude.{ℕ, ◌+◌, ◌*◌, ◌^◌, ◌<◌, Bool, true, false, ◌==◌, List, [], ◌∷◌, ◌++◌, codes, count_by, find, is_some, length, map, Option, Some, None, if◌then◌else◌}
use Rattle.std.specs.List.{before_first}
use Rattle.std.specs.Fmt.{decimal}
use Rattle.blocks.specs.Words.{addresses}
use Rattle.layout.specs.declared.point.Point.{Point}
use Rattle.layout.specs.declared.point.Point.TheVariants.{Start, Hop, Mid}
use Rattle.layout.specs.Points.{Code}
use Rattle.sched_log.specs.declared.facts.LayoutFact.{LayoutFact}
use Rattle.looking.specs.Pieces.{range_text, name_text}
use Rattle.looking.specs.Functions.{name_of}
use Rattle.seen.specs.declared.spot.Spot.{Spot}
use Rattle.seen.specs.declared.moved.Placed.{Placed}
use Rattle.seen.specs.Spots.{begins_at, block_text}

-- the block whose first word a word stands for
abbrev pub begun : List Spot → Option Point → Option Spot
begun spots (Some (Start x)) = find (begins_at x) spots
begun spots _ = None

abbrev pub placed_at : List Spot → Code → ℕ → Placed
placed_at spots c a = record { at = a; point = c.point a; begins = begun spots (c.point a) }

abbrev pub begins : Placed → Bool
begins w = is_some w.begins

-- a jump that was added, and the second word of a moved AUIPC
abbrev pub is_hop_point : Option Point → Bool
is_hop_point (Some (Hop x)) = true
is_hop_point _ = false

abbrev pub is_hop : Placed → Bool
is_hop w = is_hop_point w.point

abbrev pub is_second_point : Option Point → Bool
is_second_point (Some (Mid x)) = true
is_second_point _ = false

abbrev pub is_second : Placed → Bool
is_second w = is_second_point w.point

abbrev pub hops_text : (hops : ℕ) → List ℕ
hops_text hops = if hops == 0 then [] else codes " hops " ++ decimal hops

abbrev pub seconds_text : (seconds : ℕ) → List ℕ
seconds_text seconds = if seconds == 0 then [] else codes " second words " ++ decimal seconds

-- what was added among the words of a block, if anything was
unfoldable pub added_text : List Placed → List ℕ
added_text words = hops_text (count_by is_hop words) ++ seconds_text (count_by is_second words)

unfoldable pub number_text : (number : ℕ) → List ℕ
number_text number = codes " in layout " ++ decimal number

-- a block with its place of before
unfoldable pub old_text : (names : List (List ℕ)) → Spot → List ℕ
old_text names s = codes "moved " ++ block_text s ++ codes " " ++ name_text (name_of names s.func) ++ codes " " ++ range_text s.from s.to

-- the place now of so many words
unfoldable pub new_text : (a words : ℕ) → List ℕ
new_text a words = codes " to " ++ range_text a (a + 4 * words)

-- the line of block s, whose words now are the one at a and these others after it
abbrev pub moved_text : (names : List (List ℕ)) → (number : ℕ) → (s : Spot) → (a : ℕ) → (rest : List Placed) → List ℕ
moved_text names number s a rest =
    old_text names s ++ new_text a (1 + length rest) ++ number_text number ++ added_text rest ++ codes "\n"

abbrev pub piece_text : (names : List (List ℕ)) → (number : ℕ) → Option Spot → (a : ℕ) → (rest : List Placed) → List ℕ
piece_text names number None a rest = []
piece_text names number (Some s) a rest = moved_text names number s a rest

-- each block that begins, with its words up to where the next begins
abbrev pub pieces_text : (names : List (List ℕ)) → (number : ℕ) → List Placed → List ℕ
pieces_text names number [] = []
pieces_text names number (w ∷ ws) = piece_text names number w.begins w.at (before_first begins ws) ++ pieces_text names number ws

abbrev pub words_of : List Spot → Code → (base words : ℕ) → List Placed
words_of spots c base words = map (placed_at spots c) (addresses base words)

-- the blocks of a live layout
unfoldable pub layout_text : List Spot → Code → (names : List (List ℕ)) → LayoutFact → List ℕ
layout_text spots c names l = pieces_text names l.number (words_of spots c l.base l.words)

-- ---- where moved code lies, as each world keeps it
abbrev pub IsLow : Placed → Type 0
IsLow w = w.at < 2 ^ 32

abbrev pub IsWithin : LayoutFact → Type 0
IsWithin l = l.base + 4 * l.words < 2 ^ 32
