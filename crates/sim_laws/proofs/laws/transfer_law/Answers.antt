use Rattle.sim_laws.proofs.Transferred.{transferred}
use Rattle.sim_laws.proofs.laws.transfer_law.Goals as goal

pub returns : goal.returns
returns _ = λ p c h r o k is n q s. transferred p c k is n h r o q s
