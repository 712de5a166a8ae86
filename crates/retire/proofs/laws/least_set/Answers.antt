use Rattle.retire.proofs.LeastSet.{least_set}
use Rattle.retire.proofs.laws.least_set.Goals as goal

pub returns : goal.returns
returns c = least_set
