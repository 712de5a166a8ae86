use Rattle.std.proofs.Common.{sym, ◌∙◌, subst}
use Rattle.plans.specs.Plans.{IsPlan}
use Rattle.plans.proofs.Planned.{tests_keep}
use Rattle.plans.proofs.plan.Plan.given.Goals as goal

pub invariant_of-result : goal.invariant_of-result
invariant_of-result c =
    subst IsPlan (sym (c.from_vec.ensures ∙ c.in_ok-copies.ensures))
    (tests_keep c.args.image.now c.args.parts.now (sym c.some_missing.ensures ∙ c.if-some_missing.false) (sym c.in_ok-some_twice.ensures ∙ c.if-branch.false)
    (sym c.in_ok-some_misordered.ensures ∙ c.if-branch-2.false))
