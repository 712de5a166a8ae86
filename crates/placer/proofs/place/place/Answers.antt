use Rattle.placer.proofs.Accepted.{is_plan}
use Rattle.placer.proofs.place.place.Goals as goal

pub plan_with-requires : goal.plan_with-requires
plan_with-requires g c =
    rw (c.deref-2.ensures.value) (c.fit_plans.ensures c.args.image.now c.args.job.profile c.in_ok-parts.parts.items
    (is_plan c.args.image.now c.in_ok-index.index.image.now c.args.job.profile c.in_ok-order.order.items c.in_ok-parts.parts.items c.in_ok-index.ensures c.in_ok-order.ensures.closest (rw (c.deref.ensures.value) at c.in_ok-parts.ensures)))

pub new-requires-2-clause-is : goal.new-requires-2-clause-is
new-requires-2-clause-is g c =
    rw (← c.requires, c.in_ok-plan.ensures, c.deref-2.ensures.value)
    (is_plan c.args.image.now c.in_ok-index.index.image.now c.args.job.profile c.in_ok-order.order.items c.in_ok-parts.parts.items c.in_ok-index.ensures c.in_ok-order.ensures.closest (rw (c.deref.ensures.value) at c.in_ok-parts.ensures))

pub new-requires-2-clause-fits : goal.new-requires-2-clause-fits
new-requires-2-clause-fits g c =
    rw (← c.requires, c.in_ok-plan.ensures, c.deref-2.ensures.value) (c.fit_plans.ensures c.args.image.now c.args.job.profile c.in_ok-parts.parts.items
    (is_plan c.args.image.now c.in_ok-index.index.image.now c.args.job.profile c.in_ok-order.order.items c.in_ok-parts.parts.items c.in_ok-index.ensures c.in_ok-order.ensures.closest (rw (c.deref.ensures.value) at c.in_ok-parts.ensures)))
