use Rattle.machine.specs.Harts.{unreserved, is_in}
use Rattle.machine.proofs.HartLists.{changed_next}
use Rattle.machine.proofs.harts.free_ranges.Goals as goal

pub loop-hart-preserved : goal.loop-hart-preserved
loop-hart-preserved c = changed_next (unreserved (is_in c.args.ranges.now)) c.args.harts.now c.loop-hart.harts c.loop-hart.hart-index _ _ c.loop-hart-test.true c.loop-hart.invariant c.lose_ranges.ensures
