-- Edges between the blocks of a function: how often a profile saw one block run right after another. After Pettis and Hansen.
use Rattle.std.specs.Prelude.{ℕ, ◌+◌, Bool, false, ◌==◌, ◌&&◌, nat_le, nat_lt, List, sum_by, slice_get, Option, Some, None, is_some, if◌then◌else◌}
use Rattle.blocks.specs.declared.run.Block.{Block}
use Rattle.branch_ring.specs.declared.counted.Counted.{Counted}

-- from one block to another, by their numbers
abbrev pub Edge : Type 0
Edge = ℕ × ℕ

-- the address is one of the block's
abbrev pub holds : Option Block → ℕ → Bool
holds None at = false
holds (Some b) at = nat_le b.range.from at && nat_lt at b.range.to

-- the block starts at the address
abbrev pub starts : Option Block → ℕ → Bool
starts None at = false
starts (Some b) at = b.range.from == at

-- the word after the block may come next by itself
abbrev pub falls : Option Block → Bool
falls None = false
falls (Some b) = b.falls

-- the pair comes from a word of block a
abbrev pub leaves : List Block → ℕ → Counted → Bool
leaves blocks a pair = holds (slice_get blocks a) pair.from

-- the pair goes to the start of block b
abbrev pub enters : List Block → ℕ → Counted → Bool
enters blocks b pair = starts (slice_get blocks b) pair.to

-- the second block is the one after the first, which falls into it
abbrev pub falls_along : List Block → Edge → Bool
falls_along blocks e = (e.0 + 1 == e.1) && (falls (slice_get blocks e.0) && is_some (slice_get blocks e.1))

-- the count of a pair that passes a test, and of all pairs that do
abbrev pub counted_if : (Counted → Bool) → Counted → ℕ
counted_if test pair = if test pair then pair.count else 0

abbrev pub count_of : List Counted → (Counted → Bool) → ℕ
count_of profile test = sum_by (counted_if test) profile

-- the count of the pairs from a word of the first block to the start of the second; where the first falls into the second, also that of
-- all pairs to the start of the first
unfoldable pub weight : List Block → List Counted → Edge → ℕ
weight blocks profile e =
    count_of profile (λ p. leaves blocks e.0 p && enters blocks e.1 p) + (if falls_along blocks e then count_of profile (enters blocks e.0) else 0)
