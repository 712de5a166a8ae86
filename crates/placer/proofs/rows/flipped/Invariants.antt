use Rattle.std.proofs.Common.{◌≡◌, map, take}
use Rattle.placer.specs.Shares.{flip}
use Rattle.placer.proofs.rows.flipped.Given as goal

abbrev pub invariant-loop-row : goal.invariant-loop-row
invariant-loop-row l = l.flipped.items ≡ map flip (take l.row-index l.rows)
