use Rattle.std.proofs.Common.{take}
use Rattle.finite.specs.Least.{IsLeastOf}
use Rattle.relocs.specs.Regions.{Shares}
use Rattle.relocs.proofs.region.least_shared.Given as goal

abbrev pub invariant-loop-r : goal.invariant-loop-r
invariant-loop-r l = IsLeastOf (Shares (take l.r-index l.ranges) l.region) l.least
