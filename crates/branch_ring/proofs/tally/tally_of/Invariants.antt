use Rattle.std.proofs.Common.{◌≡◌, ℕ, take}
use Rattle.std.specs.Prelude.{None}
use Rattle.branch_ring.specs.Profiles.{all_pairs, times}
use Rattle.branch_ring.specs.Tallies.{count_at, with_more}
use Rattle.branch_ring.proofs.tally.tally_of.Given as goal

abbrev pub invariant-loop-ring : goal.invariant-loop-ring
invariant-loop-ring l = (from to : ℕ) → count_at l.tally from to ≡ with_more None (times (all_pairs (take l.ring-index l.rings)) from to)
