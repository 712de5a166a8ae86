use Rattle.std.proofs.Common.{◌≡◌, take, map}
use Rattle.emit.specs.Placed.{point_of}
use Rattle.emit.proofs.lists.points_of.Given as goal

abbrev pub invariant-loop-e : goal.invariant-loop-e
invariant-loop-e l = l.out.items ≡ map point_of (take l.e-index l.entries)
