use Rattle.std.proofs.Common.{◌≡◌, ℕ, drop, map}
use Rattle.branch_ring.specs.Tallies.{count_at}
use Rattle.placer.specs.Shares.{flip, put_rows}
use Rattle.placer.proofs.share.put_flipped.Given as goal

abbrev pub invariant-loop-row : goal.invariant-loop-row
invariant-loop-row l = (from to : ℕ) → put_rows (map flip (drop l.row-index l.rows)) from to (count_at l.found from to) ≡ put_rows (map flip l.rows) from to (count_at l.initial.found from to)
