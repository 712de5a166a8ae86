-- The blocks of an image, each with its numbers and its addresses. This project's own.
use Rattle.std.specs.Prelude.{ℕ, ◌+◌, ◌==◌, Bool, List, [], ◌∷◌, ◌++◌, codes, find, Option, Some, None}
use Rattle.std.specs.Option.{option_map_or}
use Rattle.std.specs.Fmt.{decimal}
use Rattle.image.specs.declared.ranges.Func.{Func}
use Rattle.image.specs.Picture.{Picture}
use Rattle.blocks.specs.declared.fault.Unreadable.{Unreadable}
use Rattle.blocks.specs.declared.run.Run.{Run}
use Rattle.blocks.specs.Blocks.{runs_of}
use Rattle.blocks.specs.Faults.{fault_of}
use Rattle.looking.specs.Pieces.{address}
use Rattle.seen.specs.declared.spot.Spot.{Spot}

abbrev pub begins_at : ℕ → Spot → Bool
begins_at a s = s.from == a

abbrev pub spot_of : (func block : ℕ) → Run → Spot
spot_of func block r = record { func = func; block = block; from = r.from; to = r.to }

-- blocks of a function have numbers, from k on
abbrev pub spots_in : (func k : ℕ) → List Run → List Spot
spots_in func k [] = []
spots_in func k (r ∷ rs) = spot_of func k r ∷ spots_in func (k + 1) rs

-- a function that can't be cut into blocks has none
abbrev pub func_spots : Picture → (n : ℕ) → Option Unreadable → List Spot
func_spots p n None = spots_in n 0 (runs_of p n)
func_spots p n (Some why) = []

-- functions have numbers, from n on
abbrev pub spots_from : Picture → (n : ℕ) → List Func → List Spot
spots_from p n [] = []
spots_from p n (f ∷ fs) = func_spots p n (fault_of p n) ++ spots_from p (n + 1) fs

-- the blocks of an image
unfoldable pub spots_of : Picture → List Spot
spots_of p = spots_from p 0 p.funcs

-- a block as plans name it
abbrev pub block_text : Spot → List ℕ
block_text s = decimal s.func ++ codes ":" ++ decimal s.block

-- the block that begins at an address, or else the address
abbrev pub place_text : List Spot → ℕ → List ℕ
place_text spots a = option_map_or block_text (find (begins_at a) spots) (address a)
