use Rattle.std.proofs.Common.{◌≡◌, ◌+◌, ℕ, map, drop, length, get_or}
use Rattle.branch_ring.specs.Profiles.{counted}
use Rattle.place_blocks.specs.Edges.{leaves, count_of}
use Rattle.place_blocks.proofs.lay.leaving.Given as goal

-- the counts so far and those of the rows that are left are all
abbrev pub invariant-loop-from : goal.invariant-loop-from
invariant-loop-from l = record {
  size : length l.counts.items ≡ length l.blocks;
  counts : (k : ℕ) → get_or l.counts.items k 0 + count_of (map counted (drop l.from-index l.rows)) (leaves l.blocks k) ≡ count_of (map counted l.rows) (leaves l.blocks k);
}
