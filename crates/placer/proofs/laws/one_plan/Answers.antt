use Rattle.placer.proofs.Accepted.{one_plan}
use Rattle.placer.proofs.laws.one_plan.Goals as goal

pub returns : goal.returns
returns c = λ p profile. one_plan p profile c.one_order.ensures c.one_chain.ensures
