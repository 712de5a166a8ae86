use Rattle.std.proofs.Common.{sym, ◌∙◌}
use Rattle.world.proofs.Stepping.{steps_more, steps_over}
use Rattle.world.proofs.world.World.make_run.Goals as goal

pub returns-then-is_over-clause-ok : goal.returns-then-is_over-clause-ok
returns-then-is_over-clause-ok c =
    steps_over c.loop-step._step c.args.steps c.args.h c.args.self.now c.loop-step.self c.make_real_step.new.self c.in-Ok.kind c.loop-step-test.true c.kept.ensures.code
    c.loop-step.invariant c.in-Ok.ensures.kind (sym c.is_over.ensures ∙ c.if-is_over.true) c.in-Ok.ensures.step

pub loop-step-preserved : goal.loop-step-preserved
loop-step-preserved c = steps_more c.loop-step._step c.args.h c.args.self.now c.loop-step.self c.make_real_step.new.self c.loop-step.invariant c.in-Ok.ensures.step
