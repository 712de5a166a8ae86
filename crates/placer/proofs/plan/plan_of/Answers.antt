use Rattle.placer.proofs.Accepted.{is_plan}
use Rattle.placer.proofs.plan.plan_of.Goals as goal

pub plan_with-requires : goal.plan_with-requires
plan_with-requires c =
    rw (c.deref-2.ensures.value) (c.fit_plans.ensures c.args.image.now c.args.profile.now c.in_ok-parts.parts.items
    (is_plan c.args.image.now c.in_ok-index.index.image.now c.args.profile.now c.in_ok-order.order.items c.in_ok-parts.parts.items c.in_ok-index.ensures c.in_ok-order.ensures.closest (rw (c.deref.ensures.value) at c.in_ok-parts.ensures)))

pub returns-clause-plan : goal.returns-clause-plan
returns-clause-plan c =
    rw (c.in_ok-plan.ensures, c.deref-2.ensures.value)
    (is_plan c.args.image.now c.in_ok-index.index.image.now c.args.profile.now c.in_ok-order.order.items c.in_ok-parts.parts.items c.in_ok-index.ensures c.in_ok-order.ensures.closest (rw (c.deref.ensures.value) at c.in_ok-parts.ensures))

pub returns-clause-given : goal.returns-clause-given
returns-clause-given c = c.fit_plans.ensures c.args.image.now c.args.profile.now c.in_ok-plan.plan (returns-clause-plan c)
