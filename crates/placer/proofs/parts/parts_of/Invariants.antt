use Rattle.std.proofs.Common.{map, take}
use Rattle.branch_ring.specs.Profiles.{counted}
use Rattle.placer.specs.Planned.{AreParts}
use Rattle.placer.proofs.parts.parts_of.Given as goal

abbrev pub invariant-loop-f : goal.invariant-loop-f
invariant-loop-f l = AreParts l.index.image.now (map counted l.rows) (take l.f-index l.funcs) l.parts.items
