use Rattle.retire.proofs.LeastSet.{one_list}
use Rattle.retire.proofs.laws.one_list.Goals as goal

pub returns : goal.returns
returns c = one_list
