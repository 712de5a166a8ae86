use Rattle.near_region.proofs.Taking.{word_more}
use Rattle.near_region.proofs.pages.take_targets.Goals as goal

pub loop-i-preserved : goal.loop-i-preserved
loop-i-preserved c = word_more c.args.t.now.from c.loop-i.i c.as_slice-words.result.now 0 c.args.taken.now c.loop-i.taken c.take_target.new.taken c.loop-i-test.true c.loop-i.invariant c.take_target.ensures
