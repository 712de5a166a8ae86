use Rattle.branch_ring.proofs.Ascending.{one_profile}
use Rattle.branch_ring.proofs.laws.one_profile.Goals as goal

pub returns : goal.returns
returns c = one_profile
