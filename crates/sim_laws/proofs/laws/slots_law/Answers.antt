use Rattle.sim_laws.proofs.Change.{slots_set}
use Rattle.sim_laws.proofs.laws.slots_law.Goals as goal

pub returns : goal.returns
returns _ = λ p c sent r o k code h s. slots_set p c k code o sent r h s
