use Rattle.std.proofs.Common.{◌∙◌}
use Rattle.branch_ring.specs.Tallies.{count_at}
use Rattle.placer.proofs.Gathered.{put_next}
use Rattle.placer.proofs.share.put_all.Goals as goal

pub loop-row-preserved : goal.loop-row-preserved
loop-row-preserved c = λ from to.
    rw (c.in_ok-put.ensures from to) (put_next c.args.rows.now c.loop-row.row-index (0, 0, 0) from to (count_at c.loop-row.found from to) c.loop-row-test.true ∙ c.loop-row.invariant from to)
