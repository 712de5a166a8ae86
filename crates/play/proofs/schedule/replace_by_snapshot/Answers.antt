use Rattle.std.proofs.Common.{◌≡◌}
use Rattle.std.specs.Prelude.{None}
use Rattle.std.proofs.lemmas.Result.{on_ok_weaker}
use Rattle.placer.specs.Planned.{IsPlanFor}
use Rattle.plans.specs.Given.{plan_fault}
use Rattle.play.proofs.schedule.replace_by_snapshot.Goals as goal

pub returns : goal.returns
returns c =
    let is_plan : IsPlanFor c.args.world.now.image c.args.world.now.snapshot c.in_ok-plan.plan = rw (← c.image.ensures, ← c.snapshot.ensures) c.in_ok-plan.ensures.plan in
    let fine : plan_fault c.args.world.now.image c.in_ok-plan.plan ≡ None = rw (← c.image.ensures) c.in_ok-plan.ensures.given in
    on_ok_weaker c.replace.result (λ is. (c.in_ok-plan.plan, is_plan, fine, is)) c.replace.ensures
