use Rattle.std.proofs.Common.{◌≡◌, is_some, true}
use Rattle.play.proofs.Running.{steps_stay, steps_left}
use Rattle.play.proofs.schedule.take_steps.Goals as goal

pub returns-then-is_some : goal.returns-then-is_some
returns-then-is_some c =
    let over : is_some c.loop-step.world.machine.outcome ≡ true = let a = c.outcome.ensures in let b = c.is_some.ensures in let d = c.if-is_some.true in cc in
    c.loop-step.invariant c.loop-step.world (steps_stay _ c.args.h c.loop-step.world over)

pub loop-step-preserved : goal.loop-step-preserved
loop-step-preserved c = λ v run.
    c.loop-step.invariant v (steps_left c.args.h c.args.count c.loop-step._step c.loop-step.world c.step.new.self v c.loop-step-test.true c.in_ok-step.ensures.step run)
