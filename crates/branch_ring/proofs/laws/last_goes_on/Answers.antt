use Rattle.branch_ring.proofs.Last.{last_goes_on}
use Rattle.branch_ring.proofs.laws.last_goes_on.Goals as goal

pub returns : goal.returns
returns c = λ n pairs more. last_goes_on n pairs more
