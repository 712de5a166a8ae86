use Rattle.std.proofs.Common.{map}
use Rattle.branch_ring.specs.Profiles.{counted}
use Rattle.placer.proofs.Chunks.{parts-push}
use Rattle.placer.proofs.parts.parts_of.Goals as goal

pub loop-f-preserved : goal.loop-f-preserved
loop-f-preserved c =
    rw (c.in_ok-push.ensures.items) (parts-push c.args.index.now.image.now (map counted c.args.rows.now) c.args.funcs.now c.loop-f.parts.items c.in_ok-moved.moved c.loop-f.f-index c.loop-f.invariant c.in_ok-moved.ensures.func
    c.in_ok-moved.ensures.order c.loop-f-test.true)
