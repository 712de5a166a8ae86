use Rattle.std.proofs.Common.{◌≡◌, ◌+◌, ℕ, map, drop}
use Rattle.branch_ring.specs.Profiles.{counted}
use Rattle.seen.specs.Entering.{entered_at}
use Rattle.seen.specs.Profiles.{entered}
use Rattle.seen.proofs.profile.counts_of.Given as goal

-- the counts so far and those of the rows that are left are all
abbrev pub invariant-loop-row : goal.invariant-loop-row
invariant-loop-row l = (a : ℕ) → entered_at l.counts a + entered (map counted (drop l.row-index l.rows)) a ≡ entered (map counted l.rows) a
