use Rattle.std.proofs.Common.{◌≡◌, ◌++◌, ◌+◌, ◌*◌, drop}
use Rattle.layout.specs.Points.{site_of}
use Rattle.emit.specs.Placed.{calls_in}
use Rattle.emit.proofs.lists.sites_in.Given as goal

abbrev pub invariant-loop-i : goal.invariant-loop-i
invariant-loop-i l = l.out.items ++ calls_in (site_of l.image) (l.base + 4 * l.i) (drop l.i l.entries) ≡ calls_in (site_of l.image) l.base l.entries
