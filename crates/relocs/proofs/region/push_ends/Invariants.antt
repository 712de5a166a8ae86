use Rattle.std.proofs.Common.{◌≡◌, ◌++◌, map, take}
use Rattle.relocs.specs.Regions.{after_section}
use Rattle.relocs.proofs.region.push_ends.Given as goal

abbrev pub invariant-loop-s : goal.invariant-loop-s
invariant-loop-s l = l.ranges.items ≡ l.initial.ranges.items ++ map after_section (take l.s-index l.texts)
