use Rattle.std.proofs.Common.{◌≡◌, ℕ, drop}
use Rattle.branch_ring.specs.Tallies.{count_at}
use Rattle.placer.specs.Shares.{put_rows}
use Rattle.placer.proofs.share.put_all.Given as goal

abbrev pub invariant-loop-row : goal.invariant-loop-row
invariant-loop-row l = (from to : ℕ) → put_rows (drop l.row-index l.rows) from to (count_at l.found from to) ≡ put_rows l.rows from to (count_at l.initial.found from to)
