-- The functions that a profile moves.
use Rattle.std.specs.Prelude.{ℕ, Bool, ◌&&◌, List, length, filter, slice_get, is_none}
use Rattle.std.specs.List.{list_any, range_with_len}
use Rattle.image.specs.declared.ranges.Func.{Func}
use Rattle.image.specs.Picture.{Picture}
use Rattle.blocks.specs.Faults.{fault_of}
use Rattle.branch_ring.specs.declared.counted.Counted.{Counted}
use Rattle.place_funcs.specs.Edges.{is_in}

-- some pair comes from the function with this number
abbrev pub has_source : List Func → List Counted → ℕ → Bool
has_source funcs profile f = list_any (λ c. is_in c.from (slice_get funcs f)) profile

-- some pair comes from it, and it can be cut into blocks
abbrev pub is_chosen : Picture → List Counted → ℕ → Bool
is_chosen p profile f = has_source p.funcs profile f && is_none (fault_of p f)

-- those functions, ascending
abbrev pub chosen : Picture → List Counted → List ℕ
chosen p profile = filter (is_chosen p profile) (range_with_len 0 (length p.funcs))

-- where a row comes from
abbrev pub row_from : ℕ × ℕ × ℕ → ℕ
row_from row = row.0
