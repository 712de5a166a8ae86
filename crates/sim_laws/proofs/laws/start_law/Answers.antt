use Rattle.sim_laws.proofs.Start.{start_itself}
use Rattle.sim_laws.proofs.laws.start_law.Goals as goal

pub returns : goal.returns
returns _ = λ p c input k is. start_itself p k c is input
