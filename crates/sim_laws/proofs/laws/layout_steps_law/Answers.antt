use Rattle.sim_laws.proofs.Forward.{until_forward}
use Rattle.sim_laws.proofs.LayoutSteps.{real_is_real}
use Rattle.sim_laws.proofs.laws.layout_steps_law.Goals as goal

pub returns : goal.returns
returns _ = record {
  real = λ p c h r k is n. real_is_real p c k is n h r;
  follows = λ p c m h r o k is n q s. until_forward p c k is n h m r o q s;
}
