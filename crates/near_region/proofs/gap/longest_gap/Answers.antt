use Rattle.std.proofs.Common.{arith}
use Rattle.near_region.proofs.Searching.{no_gap}
use Rattle.near_region.proofs.gap.longest_gap.Goals as goal

pub returns : goal.returns
returns c = let h = c.if-from-to.false in no_gap c.args.taken.now c.args.first c.args.last c.search-from.result c.search-from.ensures (omega (arith, h))
