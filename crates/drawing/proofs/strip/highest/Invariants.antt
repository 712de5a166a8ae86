use Rattle.std.proofs.Common.{◌≡◌, drop}
use Rattle.drawing.specs.Picture.{highest}
use Rattle.drawing.proofs.strip.highest.Given as goal

-- the highest address so far, and those that are left
abbrev pub invariant-loop-b : goal.invariant-loop-b
invariant-loop-b l = highest l.highest (drop l.b-index l.blocks) ≡ highest l.high l.blocks
