use Rattle.finite.proofs.OneList.{one_list}
use Rattle.finite.proofs.lists.one_list.Goals as goal

pub returns : goal.returns
returns c = one_list
