use Rattle.std.proofs.Common.{◌≡◌, ◌++◌, map, take}
use Rattle.relocs.specs.Regions.{segment_range}
use Rattle.relocs.proofs.region.push_segments.Given as goal

abbrev pub invariant-loop-g : goal.invariant-loop-g
invariant-loop-g l = l.ranges.items ≡ l.initial.ranges.items ++ map segment_range (take l.g-index l.segments)
