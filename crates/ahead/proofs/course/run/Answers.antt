use Rattle.std.proofs.Common.{◌∙◌}
use Rattle.ahead.proofs.Makings.{adds_more}
use Rattle.ahead.proofs.course.run.Goals as goal

pub loop-made-preserved : goal.loop-made-preserved
loop-made-preserved c = (
  adds_more c.loop-made.made c.args.code.now c.args.course.now.hart c.loop-made.course.hart c.step.new.course.hart c.args.course.now.notes.items c.loop-made.course.notes.items
      c.step.new.course.notes.items c.loop-made.invariant.0 (c.step.ensures.made c.if-not-step.false),
  c.step.ensures.capacity ∙ c.loop-made.invariant.1,
)
