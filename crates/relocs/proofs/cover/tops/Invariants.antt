use Rattle.std.proofs.Common.{◌≡◌, ℕ, ◌<◌, ◌+◌, vec_len, slice_index}
use Rattle.relocs.specs.Cover.{greatest_end}
use Rattle.relocs.proofs.cover.tops.Given as goal

abbrev pub invariant-loop-r : goal.invariant-loop-r
invariant-loop-r l = (vec_len l.tops ≡ l.r-index) × (l.top ≡ greatest_end l.ranges l.r-index) × ((k : ℕ) → k < l.r-index → slice_index l.tops.items k ≡ greatest_end l.ranges (k + 1))
