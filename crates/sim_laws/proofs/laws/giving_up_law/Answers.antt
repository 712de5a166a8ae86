use Rattle.sim_laws.proofs.Change.{kept_by_change}
use Rattle.sim_laws.proofs.GivingUp.{renders_on, pointers_on}
use Rattle.sim_laws.proofs.laws.giving_up_law.Goals as goal

pub returns : goal.returns
returns _ = record {
  renders = λ gone c d g u r. renders_on gone c d g u r;
  follows = λ p gone c d r o g u s. kept_by_change p c d r o (pointers_on gone c d g r u) s;
}
