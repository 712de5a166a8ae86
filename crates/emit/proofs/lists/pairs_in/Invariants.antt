use Rattle.std.proofs.Common.{◌≡◌, ◌++◌, ◌+◌, ◌*◌, drop}
use Rattle.layout.specs.Points.{second_of}
use Rattle.emit.specs.Placed.{calls_in}
use Rattle.emit.proofs.lists.pairs_in.Given as goal

abbrev pub invariant-loop-i : goal.invariant-loop-i
invariant-loop-i l = l.out.items ++ calls_in (second_of l.image) (l.base + 4 * l.i) (drop l.i l.entries) ≡ calls_in (second_of l.image) l.base l.entries
