use Rattle.std.specs.Ordering.{nat_cmp}
use Rattle.std.specs.BTreeSet.{contains}
use Rattle.blocks.proofs.Cutting.{cut_more}
use Rattle.blocks.proofs.cut.cut.Goals as goal

pub loop-i-preserved : goal.loop-i-preserved
loop-i-preserved c =
    cut_more (contains nat_cmp c.args.starts.now) _ _ _ _ c.args.words.now c.loop-i.i c.index-words-i.result c.ends_at-ends.result _ c.loop-i-test.true c.index-words-i.is
    c.ends_at-ends.ensures c.in_ok-add.ensures.runs c.in_ok-add.ensures.so_far c.loop-i.invariant
