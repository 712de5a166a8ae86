use Rattle.plans.proofs.Planned.{planned, accepted, apart}
use Rattle.plans.proofs.laws.plans_of.Goals as goal

pub returns : goal.returns
returns c = record { plan = λ p parts. (planned p parts, accepted p parts); apart = apart }
