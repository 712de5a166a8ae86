use Rattle.std.proofs.Common.{◌≡◌, ◌++◌, drop}
use Rattle.seen.specs.Spots.{spots_from}
use Rattle.seen.proofs.spot.spots_of.Given as goal

abbrev pub invariant-loop-n : goal.invariant-loop-n
invariant-loop-n l = l.list.items ++ spots_from l.index.image.now l.n (drop l.n l.index.image.now.funcs) ≡ spots_from l.index.image.now 0 l.index.image.now.funcs
