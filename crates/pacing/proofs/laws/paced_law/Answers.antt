use Rattle.pacing.proofs.Kept.{paced}
use Rattle.pacing.proofs.laws.paced_law.Goals as goal

pub returns : goal.returns
returns _ = paced
