use Rattle.sim_laws.proofs.Change.{kept_by_change}
use Rattle.sim_laws.proofs.laws.change_law.Goals as goal

pub returns : goal.returns
returns _ = λ p c d r o k s. kept_by_change p c d r o k s
