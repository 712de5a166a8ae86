use Rattle.near_region.proofs.Opens.{near_ordered}
use Rattle.near_region.proofs.region.near_pages.Goals as goal

pub returns-clause-near : goal.returns-clause-near
returns-clause-near c = near_ordered c.args.texts.now c.loop-t.t-index c.loop-t.first c.loop-t.last c.min.result c.loop-t-test.false c.min.ensures c.loop-t.invariant.1
