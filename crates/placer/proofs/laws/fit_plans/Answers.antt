use Rattle.std.proofs.Common.{map}
use Rattle.plans.specs.Plans.{moved_func}
use Rattle.placer.proofs.Accepted.{has_no_fault}
use Rattle.placer.proofs.laws.fit_plans.Goals as goal

pub returns : goal.returns
returns c = λ p profile parts. has_no_fault p profile parts (c.plans_of.ensures.plan p parts) (c.plans_of.ensures.apart (map moved_func parts))
