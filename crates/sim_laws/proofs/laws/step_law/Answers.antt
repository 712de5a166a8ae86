use Rattle.sim_laws.proofs.Forward.{forward}
use Rattle.sim_laws.proofs.laws.step_law.Goals as goal

pub returns : goal.returns
returns _ = λ p c h r o k is n q s. forward p c k is n h r o q s
