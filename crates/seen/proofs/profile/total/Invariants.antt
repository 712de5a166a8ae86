use Rattle.std.proofs.Common.{◌≡◌, ◌+◌, map, drop}
use Rattle.std.specs.Prelude.{sum_by}
use Rattle.branch_ring.specs.Profiles.{counted, count_of as count}
use Rattle.seen.proofs.profile.total.Given as goal

-- the count so far and those of the rows that are left are all
abbrev pub invariant-loop-row : goal.invariant-loop-row
invariant-loop-row l = l.total + sum_by count (map counted (drop l.row-index l.rows)) ≡ sum_by count (map counted l.rows)
