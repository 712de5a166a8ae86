use Rattle.std.proofs.Common.{eqb}
use Rattle.machine.specs.Harts.{unreserved}
use Rattle.machine.proofs.HartLists.{changed_next}
use Rattle.machine.proofs.harts.free_block.Goals as goal

pub loop-hart-preserved : goal.loop-hart-preserved
loop-hart-preserved c = changed_next (unreserved (λ b. eqb b c.args.block)) c.args.harts.now c.loop-hart.harts c.loop-hart.hart-index _ _ c.loop-hart-test.true c.loop-hart.invariant c.lose_block.ensures
