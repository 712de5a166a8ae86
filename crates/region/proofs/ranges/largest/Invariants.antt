use Rattle.std.proofs.Common.{◌≡◌, take}
use Rattle.region.specs.Free.{largest}
use Rattle.region.proofs.ranges.largest.Given as goal

abbrev pub invariant-loop-r : goal.invariant-loop-r
invariant-loop-r l = l.most ≡ largest (take l.r-index l.free)
