use Rattle.std.proofs.Common.{arith}
use Rattle.near_region.proofs.Searching.{longer, no_longer}
use Rattle.near_region.proofs.gap.with_free.Goals as goal

pub returns-then-p-start : goal.returns-then-p-start
returns-then-p-start c = let h = c.if-p-start.true in longer c.args.taken.now c.args.first c.args.p c.args.found c.requires.free c.requires.searched (omega (arith, h))

pub returns : goal.returns
returns c = let h = c.if-p-start.false in no_longer c.args.taken.now c.args.first c.args.p c.args.found c.requires.free c.requires.searched (omega (arith, h))
