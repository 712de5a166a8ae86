use Rattle.std.proofs.Common.{◌≡◌, ◌≤◌, take}
use Rattle.relocs.specs.Regions.{highest_end}
use Rattle.relocs.proofs.region.highest_end.Given as goal

abbrev pub invariant-loop-g : goal.invariant-loop-g
invariant-loop-g l = (l.highest ≡ highest_end (take l.g-index l.segments)) × (l.highest ≤ 0x08000000)
