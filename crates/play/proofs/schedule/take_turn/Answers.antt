use Rattle.std.proofs.Common.{◌+◌, ◌-◌, length, sym, ap, ◌∙◌, arith}
use Rattle.std.specs.List.{range_with_len}
use Rattle.delivered.specs.Events.{stretched}
use Rattle.play.proofs.Running.{turn_left}
use Rattle.play.proofs.schedule.take_turn.Goals as goal

pub loop-h-preserved : goal.loop-h-preserved
loop-h-preserved c =
    let made = c.made-h-end.ensures.harts in
    let below = c.loop-h-test.true in
    ap (stretched (range_with_len (c.loop-h.h + 1) (length c.args.world.now.machine.harts - (c.loop-h.h + 1)))) c.in_ok-real_step.ensures.step
    ∙ sym (turn_left c.loop-h.h (length c.args.world.now.machine.harts) c.loop-h.world (omega (arith, made, below))) ∙ c.loop-h.invariant
