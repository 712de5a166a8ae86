use Rattle.play.proofs.Attempted.{replaces}
use Rattle.play.proofs.schedule.replace.Goals as goal

pub returns-in-Err-RegionFull : goal.returns-in-Err-RegionFull
returns-in-Err-RegionFull c = replaces c.args.plan.now c.args.world.now c.replace.new.self c.replace.result c.replace.ensures.is (λ e. let f = c.in-Err-RegionFull.is in cc)

pub returns-in-Err-BranchReach : goal.returns-in-Err-BranchReach
returns-in-Err-BranchReach c = replaces c.args.plan.now c.args.world.now c.replace.new.self c.replace.result c.replace.ensures.is (λ e. let f = c.in-Err-BranchReach.is in cc)

pub returns-in-Err-Unreadable : goal.returns-in-Err-Unreadable
returns-in-Err-Unreadable c = replaces c.args.plan.now c.args.world.now c.replace.new.self c.replace.result c.replace.ensures.is (λ e. let f = c.in-Err-Unreadable.is in cc)
