-- The drawing of a run's world: the functions with their blocks and how often transfers entered each, and where blocks lie in the live
-- layouts. This project's own.
use Rattle.std.specs.Prelude.{ℕ, ◌+◌, ◌*◌, List, [], ◌∷◌, ◌++◌, length, map, Option, Some, None}
use Rattle.std.specs.List.{before_first}
use Rattle.image.specs.declared.ranges.Func.{Func}
use Rattle.image.specs.Picture.{Picture}
use Rattle.blocks.specs.declared.fault.Unreadable.{Unreadable}
use Rattle.blocks.specs.declared.run.Run.{Run}
use Rattle.blocks.specs.Blocks.{runs_of}
use Rattle.blocks.specs.Faults.{fault_of}
use Rattle.branch_ring.specs.declared.counted.Counted.{Counted}
use Rattle.layout.specs.Points.{Code}
use Rattle.sched_log.specs.declared.facts.LayoutFact.{LayoutFact}
use Rattle.world.specs.Told.{layout_facts}
use Rattle.world.specs.Worlds.{Replaced, code_of}
use Rattle.looking.specs.Functions.{name_of}
use Rattle.drawing.specs.declared.parts.Block.{Block}
use Rattle.drawing.specs.declared.parts.Function.{Function}
use Rattle.drawing.specs.declared.parts.Place.{Place}
use Rattle.drawing.specs.declared.parts.Layout.{Layout}
use Rattle.drawing.specs.declared.parts.Drawing.{Drawing}
use Rattle.seen.specs.declared.spot.Spot.{Spot}
use Rattle.seen.specs.declared.moved.Placed.{Placed}
use Rattle.seen.specs.Spots.{spots_of}
use Rattle.seen.specs.Moved.{begins, words_of}
use Rattle.seen.specs.Profiles.{entered}

-- ---- functions
abbrev pub drawn_block : List Counted → Run → Block
drawn_block profile r = record { from = r.from; to = r.to; count = entered profile r.from }

-- one block over the whole function, which never ran, where it can't be cut into blocks
abbrev pub drawn_blocks : Picture → List Counted → (n : ℕ) → Func → Option Unreadable → List Block
drawn_blocks p profile n f None = map (drawn_block profile) (runs_of p n)
drawn_blocks p profile n f (Some why) = record { from = f.from; to = f.to; count = 0 } ∷ []

abbrev pub drawn_function : Picture → List Counted → (names : List (List ℕ)) → (n : ℕ) → Func → Function
drawn_function p profile names n f = record { number = n; name = name_of names n; blocks = drawn_blocks p profile n f (fault_of p n) }

-- functions have numbers, from n on
abbrev pub functions_from : Picture → List Counted → (names : List (List ℕ)) → (n : ℕ) → List Func → List Function
functions_from p profile names n [] = []
functions_from p profile names n (f ∷ fs) = drawn_function p profile names n f ∷ functions_from p profile names (n + 1) fs

-- ---- layouts
-- where block s lies: its word at a, and these others after it
abbrev pub place_of : Spot → (a : ℕ) → (rest : List Placed) → Place
place_of s a rest = record { function = s.func; block = s.block; from = a; to = a + 4 * (1 + length rest) }

abbrev pub piece_places : Option Spot → (a : ℕ) → (rest : List Placed) → List Place
piece_places None a rest = []
piece_places (Some s) a rest = place_of s a rest ∷ []

-- each block that begins, with its words up to where the next begins
abbrev pub places_of : List Placed → List Place
places_of [] = []
places_of (w ∷ ws) = piece_places w.begins w.at (before_first begins ws) ++ places_of ws

unfoldable pub drawn_layout : List Spot → Code → LayoutFact → Layout
drawn_layout spots c l = record { number = l.number; base = l.base; to = l.base + 4 * l.words; places = places_of (words_of spots c l.base l.words) }

-- names are those of all functions, in their order
unfoldable pub drawing_of : Replaced → (names : List (List ℕ)) → Drawing
drawing_of w names = record {
  functions = functions_from w.image w.snapshot names 0 w.image.funcs;
  layouts = map (drawn_layout (spots_of w.image) (code_of w)) (layout_facts w.numbers w.lives);
}
