use Rattle.std.proofs.Common.{◌≡◌, drop}
use Rattle.drawing.specs.Picture.{lowest}
use Rattle.drawing.proofs.strip.lowest.Given as goal

-- the lowest address so far, and those that are left
abbrev pub invariant-loop-b : goal.invariant-loop-b
invariant-loop-b l = lowest l.lowest (drop l.b-index l.blocks) ≡ lowest l.low l.blocks
